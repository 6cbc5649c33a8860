-- A body breaks at one place.
use Rattle.std.proofs.Common.{◌≡◌, ◌<◌, ℕ, List, [], ◌∷◌, ◌++◌, length, sym, refl, ap, ◌∙◌, arith, subst}
use Rattle.std.proofs.lemmas.Bool.{cases_order}
use Rattle.std.proofs.lemmas.List.{append_assoc}
use mathlib.Core.Logic.{◌⊎◌, inl, inr}
use Rattle.grammarlaw.specs.Bodies.{GoesOnAs, BreaksAt}
use Rattle.grammarlaw.specs.Commands.{RightCommand, OnePlace}
use Rattle.grammarlaw.proofs.Elements.{goes_as_itself}

-- a longer front begins with the shorter one, and with the byte behind that
record Longer (short tail long behind : List ℕ) : Type 0 where
  next : ℕ
  more : List ℕ
  front : long ≡ short ++ (next ∷ more)
  rest : tail ≡ next ∷ (more ++ behind)

longer : (short tail long behind : List ℕ) → short ++ tail ≡ long ++ behind → length short < length long →
    Longer short tail long behind
longer short tail [] behind e lt = absurd (omega arith)
longer [] tail (b ∷ long) behind e lt = record { next = b; more = long; front = refl; rest = e }
longer (c ∷ short) tail (b ∷ long) behind e lt =
    let l = longer short tail long behind (cc) (omega arith) in
    let same : b ≡ c = cc in
    record {
      next = l.next;
      more = l.more;
      front = ap (λ (x : List ℕ). b ∷ x) l.front ∙ ap (λ z. z ∷ (short ++ (l.next ∷ l.more))) same;
      rest = l.rest;
    }

not_before : (A : List ℕ → Type 0) (body : List ℕ) (p q : ℕ) → BreaksAt A body p → BreaksAt A body q → p < q → ⊥
not_before A body p q b d lt =
    let l = longer b.front b.tail d.front d.tail (sym b.whole ∙ d.whole) (omega (arith, b.place, d.place)) in
    let w = d.breaks.goes.0 in
    b.breaks.ends (l.next ∷ (l.more ++ w))
    (subst (λ t. GoesOnAs t (l.next ∷ (l.more ++ w))) (sym l.rest) refl)
    (subst A (ap (λ x. x ++ w) l.front ∙ append_assoc b.front (l.next ∷ l.more) w) d.breaks.goes.1)

one_by : (A : List ℕ → Type 0) (body : List ℕ) (p q : ℕ) → BreaksAt A body p → BreaksAt A body q →
    (p ≡ q) ⊎ ((p < q) ⊎ (q < p)) → p ≡ q
one_by A body p q b d (inl e) = e
one_by A body p q b d (inr (inl lt)) = absurd (not_before A body p q b d lt)
one_by A body p q b d (inr (inr lt)) = absurd (not_before A body q p d b lt)

pub one_place : (body : List ℕ) → OnePlace body
one_place body =
    record {
      one = λ p q b d. one_by RightCommand body p q b d (cases_order p q);
      right = λ r p b. b.breaks.ends b.tail (goes_as_itself b.tail) (subst RightCommand b.whole r);
    }
