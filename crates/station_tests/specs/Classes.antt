-- Counting rules whose wheels are the bytes of one class.
--   class_wheels is r value byte  every byte of the class is a wheel of r with that value, and gets that byte for a value;
--                                 any other place is fixed. A value that the place cannot have leaves the byte that stands there
--   fives, capitals, no_wheel     the rules of src/rules.rt
use Rattle.std.specs.Prelude.{◌≡◌, ℕ, ◌+◌, ◌-◌, ◌%◌, ◌<◌, ◌≤◌, Bool, true, false, cond, ◌⊎◌, List, length, set, ◌≢◌, nat_lt, slice_index, slice_set, refl}
use Rattle.std.proofs.Common.{sym, ap, ◌∙◌, inl, inr, ⊎_elim, arith}
use Rattle.std.proofs.lemmas.List.{get_or-set_same, get_or-set_other, set-get_or}
use Rattle.std.proofs.lemmas.Bool.{both_ways, cases_Bool, cases_eq, cond-true, cond-false, cond_both, lt-ltb}
use Rattle.std.proofs.lemmas.Bool.Decides.{nat_tests}
use Rattle.limits.specs.Bytes.{is_digit, is_capital}
use Rattle.texts.specs.Wheels.{Wheels, Lawful}
use Rattle.texts.specs.DigitWheels.{Tests}

abbrev pub class_wheels : (ℕ → Bool) → ℕ → (ℕ → ℕ) → (ℕ → ℕ) → Wheels
class_wheels is r value byte =
    record {
      radix = λ t p. cond (is (slice_index t p)) r 1;
      value = λ t p. cond (is (slice_index t p)) (value (slice_index t p)) 0;
      byte = λ t p v. cond (cond (nat_lt v r) (is (slice_index t p)) false) (byte v) (slice_index t p);
    }

-- what makes such a rule lawful
pub record Class (is : ℕ → Bool) (r : ℕ) (value byte : ℕ → ℕ) : Type 0 where
  pub some : 1 ≤ r
  pub most : r ≤ 26
  pub below : (b : ℕ) → is b ≡ true → value b < r
  pub within : (v : ℕ) → v < r → is (byte v) ≡ true
  pub gives : (v : ℕ) → v < r → value (byte v) ≡ v
  pub digits : (b v : ℕ) → is b ≡ true → v < r → is_digit b ≡ true → is_digit (byte v) ≡ true
  pub capitals : (b v : ℕ) → is b ≡ true → v < r → is_capital b ≡ true → is_capital (byte v) ≡ true
  pub fixed : (b : ℕ) → is_digit b ≡ false → is_capital b ≡ false → is b ≡ false

module _ (is : ℕ → Bool) (r : ℕ) (value byte : ℕ → ℕ) (c : Class is r value byte) where
  -- what a place is, and what a value of it writes
  abbrev Ways : List ℕ → ℕ → ℕ → Type 0
  Ways t p v =
      ((is (slice_index t p) ≡ true) × (v < r) × ((class_wheels is r value byte).byte t p v ≡ byte v))
      ⊎ ((is (slice_index t p) ≡ false) × (v ≡ 0) × ((class_wheels is r value byte).byte t p v ≡ slice_index t p))

  ways : (t : List ℕ) (p v : ℕ) → v < (class_wheels is r value byte).radix t p → Ways t p v
  ways t p v low =
      ⊎_elim
      (λ (e : is (slice_index t p) ≡ true). let lt : v < r = simp e at low in inl (e, lt, simp (e, lt-ltb v r lt)))
      (λ (e : is (slice_index t p) ≡ false). let lt : v < 1 = simp e at low in
      inr (e, omega arith, simp (e, lt-ltb v r (omega (arith, c.some, lt)))))
      (cases_Bool (is (slice_index t p)))

  -- what is written at a place is of the class if what stood there was
  same_at : (t : List ℕ) (p v : ℕ) → v < (class_wheels is r value byte).radix t p
      → is ((class_wheels is r value byte).byte t p v) ≡ is (slice_index t p)
  same_at t p v low =
      ⊎_elim (λ x. ap is x.2 ∙ c.within v x.1 ∙ sym x.0) (λ x. ap is x.2) (ways t p v low)

  same : (t : List ℕ) (p v : ℕ) → p < length t → v < (class_wheels is r value byte).radix t p → (q : ℕ)
      → is (slice_index (slice_set t p ((class_wheels is r value byte).byte t p v)) q) ≡ is (slice_index t q)
  same t p v lt low q =
      let b = (class_wheels is r value byte).byte t p v in
      ⊎_elim
      (λ e. ap (λ k. is (slice_index (slice_set t p b) k)) e ∙ ap is (get_or-set_same t p b 0 lt) ∙ same_at t p v low
      ∙ sym (ap (λ k. is (slice_index t k)) e))
      (λ ne. ap is (get_or-set_other t p q b 0 ne))
      (cases_eq q p)

  gives : (t : List ℕ) (p v : ℕ) → p < length t → v < (class_wheels is r value byte).radix t p
      → (class_wheels is r value byte).value (slice_set t p ((class_wheels is r value byte).byte t p v)) p ≡ v
  gives t p v lt low =
      let u = set t p ((class_wheels is r value byte).byte t p v) in
      let at = get_or-set_same t p ((class_wheels is r value byte).byte t p v) 0 lt in
      ⊎_elim
      (λ x. cond-true (is (slice_index u p)) (value (slice_index u p)) 0 (same t p v lt low p ∙ x.0)
      ∙ ap value (at ∙ x.2) ∙ c.gives v x.1)
      (λ x. cond-false (is (slice_index u p)) (value (slice_index u p)) 0 (same t p v lt low p ∙ x.0) ∙ sym x.1)
      (ways t p v low)

  spares : (t : List ℕ) (p v : ℕ) → p < length t → v < (class_wheels is r value byte).radix t p → (q : ℕ) → (q ≢ p)
      → (class_wheels is r value byte).value (slice_set t p ((class_wheels is r value byte).byte t p v)) q
      ≡ (class_wheels is r value byte).value t q
  spares t p v lt low q ne =
      ap (λ b. cond (is b) (value b) 0) (get_or-set_other t p q ((class_wheels is r value byte).byte t p v) 0 ne)

  below : (t : List ℕ) (p : ℕ) → (class_wheels is r value byte).value t p < (class_wheels is r value byte).radix t p
  below t p =
      ⊎_elim
      (λ (e : is (slice_index t p) ≡ true). simp e (c.below (slice_index t p) e))
      (λ (e : is (slice_index t p) ≡ false). simp e (omega arith))
      (cases_Bool (is (slice_index t p)))

  pub class_lawful : Lawful (class_wheels is r value byte)
  class_lawful =
      record {
        some = λ t h p lt. cond_both (is (slice_index t p)) r 1 (λ n. 1 ≤ n) (λ e. c.some) (λ e. omega arith);
        most = λ t h p lt. cond_both (is (slice_index t p)) r 1 (λ n. n ≤ 26) (λ e. c.most) (λ e. omega arith);
        below = λ t h p lt. below t p;
        gives = λ t h p v lt low. gives t p v lt low;
        keeps = λ t h p v lt low q inside. ap (λ b. cond b r 1) (same t p v lt low q);
        spares = λ t h p v lt low q inside ne. spares t p v lt low q ne;
        digits = λ t h p v lt low d.
            ⊎_elim (λ x. ap is_digit x.2 ∙ c.digits (slice_index t p) v x.0 x.1 d) (λ x. ap is_digit x.2 ∙ d)
            (ways t p v low);
        capitals = λ t h p v lt low d.
            ⊎_elim (λ x. ap is_capital x.2 ∙ c.capitals (slice_index t p) v x.0 x.1 d) (λ x. ap is_capital x.2 ∙ d)
            (ways t p v low);
        fixed = λ t h p lt d k. cond-false (is (slice_index t p)) r 1 (c.fixed (slice_index t p) d k);
      }

-- a digit counts for its rest by 5
abbrev pub fives : Wheels
fives = class_wheels is_digit 5 (λ b. (b - 48) % 5) (λ v. 48 + v)

abbrev pub capitals : Wheels
capitals = class_wheels is_capital 26 (λ b. b - 65) (λ v. 65 + v)

digit_from : (v : ℕ) → v < 5 → is_digit (48 + v) ≡ true
digit_from v lt = grind (arith, nat_tests)

capital_from : (v : ℕ) → v < 26 → is_capital (65 + v) ≡ true
capital_from v lt = grind (arith, nat_tests)

capital_low : (b : ℕ) → is_capital b ≡ true → b - 65 < 26
capital_low b d = grind (arith, nat_tests)

not_both : (b : ℕ) → is_digit b ≡ true → is_capital b ≢ true
not_both b d c = grind (arith, nat_tests)

pub fives_lawful : Lawful fives
fives_lawful =
    class_lawful is_digit 5 (λ b. (b - 48) % 5) (λ v. 48 + v) (record {
      some = omega arith;
      most = omega arith;
      below = λ b d. omega arith;
      within = digit_from;
      gives = λ v lt. omega (arith, lt);
      digits = λ b v d lt e. digit_from v lt;
      capitals = λ b v d lt e. absurd (not_both b d e);
      fixed = λ b d e. d;
    })

pub capitals_lawful : Lawful capitals
capitals_lawful =
    class_lawful is_capital 26 (λ b. b - 65) (λ v. 65 + v) (record {
      some = omega arith;
      most = omega arith;
      below = capital_low;
      within = capital_from;
      gives = λ v lt. omega (arith, lt);
      digits = λ b v d lt e. absurd (not_both b e d);
      capitals = λ b v d lt e. capital_from v lt;
      fixed = λ b d e. e;
    })

abbrev pub no_wheel : List ℕ → ℕ → Bool
no_wheel t p = false

pub no_tests : Tests no_wheel
no_tests = record { digit = λ t p e. absurd (both_ways false refl e); blind = λ t p b lt was is q. refl }
