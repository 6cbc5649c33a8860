-- The number that a signed step leads to.
use Rattle.std.proofs.Common.{◌≡◌, ℕ, suc, ◌+◌, ◌*◌, ◌%◌, ◌<◌, Bool, true, false, ℤ, pos, negsuc, ◌+ℤ◌, nat_abs, refl, ap, ◌∙◌, mod-lt, mod-eq_of_lt, arith, w64, SFits, of_z}
use native.Mathlib.Nat.{add-mul-mod_self_right}
use lib.Signed.{lt_z}
use Rattle.std.specs.Int.{int_rem_euclid}
use Rattle.std.proofs.lemmas.Int.{ints, int_rem_euclid_is}
use Rattle.std.proofs.lemmas.Bool.{eqb-true, ltb-true, eq-eqb, ne_eqb}
use Rattle.texts.specs.Turning.{stepped, is_zero}
use Rattle.texts.specs.Rolling.{Rolls}

rem_lt : (z : ℤ) (m : ℕ) → 0 < m → nat_abs (int_rem_euclid z (pos m)) < m
rem_lt (pos a) m some = mod-lt a some
rem_lt (negsuc a) m some = omega arith

pub stepped_lt : (n : ℕ) (s : ℤ) (m : ℕ) → 0 < m → stepped n s m < m
stepped_lt n s m some = rem_lt (pos n +ℤ s) m some

pub is_zero_lem : (s : ℤ) → is_zero s ≡ true → s ≡ pos 0
is_zero_lem (pos n) e = ap pos (eqb-true n 0 e)
is_zero_lem (negsuc n) e = cc

-- a step in its 64 bits is 0 just where they are
pub zero_bits : (s : ℤ) → SFits w64 s → of_z w64 s ≡ 0 → is_zero s ≡ true
zero_bits (pos n) fits e = eq-eqb n 0 e
zero_bits (negsuc n) fits e = absurd (omega (arith, ints))

pub some_bits : (s : ℤ) → (of_z w64 s ≡ 0 → ⊥) → is_zero s ≡ false
some_bits (pos n) ne = ne_eqb n 0 ne
some_bits (negsuc n) ne = refl

pub stepped_none : (n : ℕ) (s : ℤ) (m : ℕ) → is_zero s ≡ true → n < m → stepped n s m ≡ n
stepped_none n s m e lt =
    let same : n + 0 ≡ n = omega arith in
    ap (λ z. stepped n z m) (is_zero_lem s e) ∙ ap (λ k. k % m) same ∙ mod-eq_of_lt lt

-- what is left of a step when its whole rounds of m are taken off
pub stepped_is : (down : Bool) (n m by to rounds : ℕ) (s : ℤ) → by ≡ nat_abs s → lt_z s (pos 0) ≡ down → to < m
    → Rolls down m n by to rounds → stepped n s m ≡ to
stepped_is false n m by to rounds (pos a) same sign lt e =
    let same' : by ≡ a = same in
    let sum : n + a ≡ to + rounds * m = omega arith in
    ap (λ k. k % m) sum ∙ add-mul-mod_self_right to rounds m ∙ mod-eq_of_lt lt
stepped_is true n m by to rounds (pos a) same sign lt e = absurd (omega (arith, ltb-true a 0 sign))
stepped_is false n m by to rounds (negsuc a) same sign lt e = cc
stepped_is true n m by to rounds (negsuc a) same sign lt e =
    let same' : by ≡ suc a = same in
    ap nat_abs (int_rem_euclid_is (pos n +ℤ negsuc a) (pos m) m rounds to (omega arith) refl
    (omega (arith, ints))) ∙ mod-eq_of_lt lt
