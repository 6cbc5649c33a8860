-- A byte by its dots: what |, &, ^ and ! do to each, and what a table of bytes has at each, by one computed test.
use Rattle.std.proofs.Common.{◌≡◌, ℕ, zero, suc, ◌-◌, ◌<◌, ◌≤◌, Bool, true, false, cond, not, ◌&&◌, leb, List, [], ◌∷◌, get_or, sym, refl, inl, inr, w8, arith}
use lib.Bits.{bit_and, bit_or, bit_xor}
use Rattle.std.proofs.lemmas.Bool.Decides.{nat_tests}
use Rattle.std.proofs.lemmas.Bool.{and_parts, cases_lt}
use Rattle.std.proofs.lemmas.Nat.Bits.{bit_at_and, bit_at_or, bit_at_xor, bit_at_not}
use Rattle.picture.specs.Bits.{bit_of}

pub bit_of_or : (a b j : ℕ) → bit_of (bit_or a b) j ≡ cond (bit_of b j) true (bit_of a j)
bit_of_or a b j = grind (arith, nat_tests, bit_at_or a b (7 - j))

pub bit_of_xor : (a b j : ℕ) → bit_of (bit_xor a b) j ≡ cond (bit_of b j) (not (bit_of a j)) (bit_of a j)
bit_of_xor a b j = grind (arith, nat_tests, bit_at_xor a b (7 - j))

-- what lies outside of a mask
pub bit_less : (a m j : ℕ) → m < 256 → bit_of (bit_and a (255 - m)) j ≡ cond (bit_of m j) false (bit_of a j)
bit_less a m j h = grind (arith, nat_tests, bit_at_and a (255 - m) (7 - j), bit_at_not w8 m (7 - j) h (omega arith))

-- a test that passes at each number below n
abbrev pub each : ℕ → (ℕ → Bool) → Bool
each zero p = true
each (suc n) p = p n && each n p

pub each_at : (n : ℕ) (p : ℕ → Bool) → each n p ≡ true → (k : ℕ) → k < n → p k ≡ true
each_at zero p e k h = absurd (omega arith)
each_at (suc n) p e k h =
    let both = and_parts (p n) (each n p) e in
    elim (cases_lt k n) [ inl l ↦ each_at n p both.1 k l | inr g ↦ let s : k ≡ n = omega arith in rw s both.0 ]

same : Bool → Bool → Bool
same true y = y
same false y = not y

same_is : (x y : Bool) → same x y ≡ true → x ≡ y
unfolding same
same_is true true e = refl
same_is false false e = refl
same_is true false e = sym e
same_is false true e = e

abbrev pub dots_from : List ℕ
dots_from = 255 ∷ 127 ∷ 63 ∷ 31 ∷ 15 ∷ 7 ∷ 3 ∷ 1 ∷ 0 ∷ []

-- the byte of the table at place a is right at dot j
abbrev right : ℕ → ℕ → Bool
right a j = same (bit_of (get_or dots_from a 0) j) (leb a j)

pub bit_from : (a j : ℕ) → a ≤ 8 → j < 8 → bit_of (get_or dots_from a 0) j ≡ leb a j
unfolding same
bit_from a j h k =
    same_is _ _ (each_at 8 (right a) (each_at 9 (λ a. each 8 (right a)) refl a (omega arith)) j k)
