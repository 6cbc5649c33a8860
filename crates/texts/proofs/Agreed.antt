-- A list that has what a function says, place for place: one test of the whole list, and what it says of a place.
use Rattle.std.proofs.Common.{◌≡◌, ℕ, zero, suc, ◌+◌, ◌<◌, Bool, true, false, cond, eqb, List, [], ◌∷◌, length, get_or, refl, ap, ◌∙◌, arith}
use Rattle.std.proofs.lemmas.Bool.{eqb-true}

-- the list has f from k on
abbrev pub agrees : (ℕ → ℕ) → ℕ → List ℕ → Bool
agrees f k [] = true
agrees f k (v ∷ vs) = cond (eqb v (f k)) (agrees f (k + 1) vs) false

both : (a b : Bool) → cond a b false ≡ true → (a ≡ true) × (b ≡ true)
both true b h = (refl, h)
both false b h = cc

pub agreed : (f : ℕ → ℕ) (k : ℕ) (vs : List ℕ) (i : ℕ) → agrees f k vs ≡ true → i < length vs
    → get_or vs i 0 ≡ f (i + k)
agreed f k [] i h lt = absurd (omega arith)
agreed f k (v ∷ vs) zero h lt =
    let here : k ≡ zero + k = omega arith in
    eqb-true v (f k) (both _ _ h).0 ∙ ap f here
agreed f k (v ∷ vs) (suc i) h lt =
    let next : i + (k + 1) ≡ suc i + k = omega arith in
    agreed f (k + 1) vs i (both _ _ h).1 (omega arith) ∙ ap f next
