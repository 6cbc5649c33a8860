-- Where the bytes of a body are no longer right.
--   GoesOnAs tail x     x begins with the byte that tail begins with, or both are empty
--   Breaks A front tail some body of A begins with front, and none goes on behind it as tail does
--   BreaksAt A rest p   the same, for the bytes of rest before the place p
use Rattle.std.specs.Prelude.{◌≡◌, ℕ, List, [], ◌∷◌, ◌++◌, length}

abbrev pub GoesOnAs : List ℕ → List ℕ → Type 0
GoesOnAs [] [] = Unit {0}
GoesOnAs [] (c ∷ x) = ⊥
GoesOnAs (b ∷ tail) [] = ⊥
GoesOnAs (b ∷ tail) (c ∷ x) = c ≡ b

pub record Breaks (A : List ℕ → Type 0) (front tail : List ℕ) : Type 0 where
  pub goes : (w : List ℕ) × A (front ++ w)
  pub ends : (x : List ℕ) → GoesOnAs tail x → A (front ++ x) → ⊥

pub record BreaksAt (A : List ℕ → Type 0) (rest : List ℕ) (p : ℕ) : Type 0 where
  pub front : List ℕ
  pub tail : List ℕ
  pub whole : rest ≡ front ++ tail
  pub place : p ≡ length front
  pub breaks : Breaks A front tail
