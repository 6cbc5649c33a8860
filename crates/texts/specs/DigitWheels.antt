-- A rule whose wheels are digits is lawful, if its test passes digits alone and does not see which digit stands
-- at a place.
use Rattle.std.specs.Prelude.{◌≡◌, ℕ, ◌+◌, ◌-◌, ◌<◌, ◌≤◌, Bool, true, false, cond, ◌⊎◌, List, length, set, ◌==◌, ◌≢◌, nat_eq, slice_index, slice_set, refl}
use Rattle.std.proofs.Common.{sym, ap, ◌∙◌, inl, inr, ⊎_elim, arith}
use Rattle.std.proofs.lemmas.List.{get_or-set_same, get_or-set_other, set-get_or}
use Rattle.std.proofs.lemmas.Bool.{both_ways, cases_Bool, cases_eq, cond-true, cond-false, cond_both, lt-ltb}
use Rattle.std.proofs.lemmas.Bool.Decides.{nat_tests}
use Rattle.limits.specs.Bytes.{is_digit, is_capital}
use Rattle.texts.specs.Wheels.{Lawful}
use Rattle.texts.specs.Digits.{digit_wheels, plain_place, after_mark, code128_place}

pub record Tests (wheel : List ℕ → ℕ → Bool) : Type 0 where
  pub digit : (t : List ℕ) (p : ℕ) → wheel t p ≡ true → is_digit (slice_index t p) ≡ true
  pub blind : (t : List ℕ) (p b : ℕ) → p < length t → is_digit (slice_index t p) ≡ true → is_digit b ≡ true
      → (q : ℕ) → wheel (slice_set t p b) q ≡ wheel t q

digit_from : (v : ℕ) → v < 10 → is_digit (48 + v) ≡ true
digit_from v lt = grind (arith, nat_tests)

digit_low : (b : ℕ) → is_digit b ≡ true → b - 48 < 10
digit_low b d = grind (arith, nat_tests)

digit_shown : (b : ℕ) → is_digit b ≡ true → 48 + (b - 48) ≡ b
digit_shown b d = grind (arith, nat_tests)

not_both : (b : ℕ) → is_digit b ≡ true → is_capital b ≢ true
not_both b d c = grind (arith, nat_tests)

-- what a place is, and what a value of it writes
abbrev Ways : (List ℕ → ℕ → Bool) → List ℕ → ℕ → ℕ → Type 0
Ways wheel t p v =
    ((wheel t p ≡ true) × (v < 10) × ((digit_wheels wheel).byte t p v ≡ 48 + v))
    ⊎ ((wheel t p ≡ false) × (v ≡ 0) × ((digit_wheels wheel).byte t p v ≡ slice_index t p))

module _ (wheel : List ℕ → ℕ → Bool) (s : Tests wheel) where
  ways : (t : List ℕ) (p v : ℕ) → v < (digit_wheels wheel).radix t p → Ways wheel t p v
  ways t p v low =
      ⊎_elim
      (λ (e : wheel t p ≡ true). let lt : v < 10 = simp e at low in inl (e, lt, simp (e, lt-ltb v 10 lt)))
      (λ (e : wheel t p ≡ false). let lt : v < 1 = simp e at low in inr (e, omega arith, simp e))
      (cases_Bool (wheel t p))

  -- what is written at a place shows in no test
  blind_byte : (t : List ℕ) (p v : ℕ) → p < length t → v < (digit_wheels wheel).radix t p → (q : ℕ)
      → wheel (slice_set t p ((digit_wheels wheel).byte t p v)) q ≡ wheel t q
  blind_byte t p v lt low q =
      ⊎_elim
      (λ x. s.blind t p _ lt (s.digit t p x.0) (ap is_digit x.2 ∙ digit_from v x.1) q)
      (λ x. ap (λ b. wheel (slice_set t p b) q) x.2 ∙ ap (λ u. wheel u q) (set-get_or t p 0))
      (ways t p v low)

  gives : (t : List ℕ) (p v : ℕ) → p < length t → v < (digit_wheels wheel).radix t p
      → (digit_wheels wheel).value (slice_set t p ((digit_wheels wheel).byte t p v)) p ≡ v
  gives t p v lt low =
      let u = set t p ((digit_wheels wheel).byte t p v) in
      let same = blind_byte t p v lt low p in
      let at = get_or-set_same t p ((digit_wheels wheel).byte t p v) 0 lt in
      ⊎_elim
      (λ x. cond-true (wheel u p) (slice_index u p - 48) 0 (same ∙ x.0) ∙ omega (arith, at, x.2))
      (λ x. cond-false (wheel u p) (slice_index u p - 48) 0 (same ∙ x.0) ∙ sym x.1)
      (ways t p v low)

  spares : (t : List ℕ) (p v : ℕ) → p < length t → v < (digit_wheels wheel).radix t p → (q : ℕ) → (q ≢ p)
      → (digit_wheels wheel).value (slice_set t p ((digit_wheels wheel).byte t p v)) q ≡
      (digit_wheels wheel).value t q
  spares t p v lt low q ne =
      let u = set t p ((digit_wheels wheel).byte t p v) in
      ap (λ b. cond b (slice_index u q - 48) 0) (blind_byte t p v lt low q)
      ∙ ap (λ x. cond (wheel t q) (x - 48) 0) (get_or-set_other t p q
      ((digit_wheels wheel).byte t p v) 0 ne)

  below : (t : List ℕ) (p : ℕ) → (digit_wheels wheel).value t p < (digit_wheels wheel).radix t p
  below t p =
      ⊎_elim (λ (e : wheel t p ≡ true). simp e (digit_low (slice_index t p) (s.digit t p e)))
      (λ (e : wheel t p ≡ false). simp e (omega arith)) (cases_Bool (wheel t p))

  capitals : (t : List ℕ) (p v : ℕ) → v < (digit_wheels wheel).radix t p → is_capital (slice_index t p) ≡ true
      → is_capital ((digit_wheels wheel).byte t p v) ≡ true
  capitals t p v low c =
      ⊎_elim (λ x. absurd (not_both (slice_index t p) (s.digit t p x.0) c)) (λ x. ap is_capital x.2 ∙ c)
      (ways t p v low)

  fixed : (t : List ℕ) (p : ℕ) → is_digit (slice_index t p) ≡ false → (digit_wheels wheel).radix t p ≡ 1
  fixed t p d =
      ⊎_elim (λ e. absurd (both_ways (is_digit (slice_index t p)) d (s.digit t p e)))
      (λ e. cond-false (wheel t p) 10 1 e) (cases_Bool (wheel t p))

  -- the byte of the value that a place has is the one that stands there
  pub byte_kept : (t : List ℕ) (p : ℕ)
      → (digit_wheels wheel).byte t p ((digit_wheels wheel).value t p) ≡ slice_index t p
  byte_kept t p =
      ⊎_elim
      (λ x.
      let digit = digit_shown (slice_index t p) (s.digit t p x.0) in
      x.2 ∙ ap (λ v. 48 + v) (cond-true (wheel t p) (slice_index t p - 48) 0 x.0) ∙ digit)
      (λ x. x.2)
      (ways t p ((digit_wheels wheel).value t p) (below t p))

  pub digits_lawful : Lawful (digit_wheels wheel)
  digits_lawful =
      record {
        some = λ t h p lt. cond_both (wheel t p) 10 1 (λ r. 1 ≤ r) (λ e. omega arith) (λ e. omega arith);
        most = λ t h p lt. cond_both (wheel t p) 10 1 (λ r. r ≤ 26) (λ e. omega arith) (λ e. omega arith);
        below = λ t h p lt. below t p;
        gives = λ t h p v lt low. gives t p v lt low;
        keeps = λ t h p v lt low q inside. ap (λ b. cond b 10 1) (blind_byte t p v lt low q);
        spares = λ t h p v lt low q inside ne. spares t p v lt low q ne;
        digits = λ t h p v lt low d. ⊎_elim (λ x. ap is_digit x.2 ∙ digit_from v x.1) (λ x. ap is_digit x.2 ∙ d)
            (ways t p v low);
        capitals = λ t h p v lt low c. capitals t p v low c;
        fixed = λ t h p lt d c. fixed t p d;
      }

plain_blind : (t : List ℕ) (p b : ℕ) → p < length t → is_digit (slice_index t p) ≡ true → is_digit b ≡ true
    → (q : ℕ) → plain_place (slice_set t p b) q ≡ plain_place t q
plain_blind t p b lt was is q =
    ⊎_elim
    (λ e. ap (plain_place (slice_set t p b)) e ∙ ap is_digit (get_or-set_same t p b 0 lt) ∙ is
    ∙ sym (ap (plain_place t) e ∙ was))
    (λ ne. ap is_digit (get_or-set_other t p q b 0 ne))
    (cases_eq q p)

no_mark : (b : ℕ) → is_digit b ≡ true → (b == 62) ≡ false
no_mark b d = grind (arith, nat_tests)

-- nor does a digit turn into a mark
mark_blind : (t : List ℕ) (p b : ℕ) → p < length t → is_digit (slice_index t p) ≡ true → is_digit b ≡ true
    → (q : ℕ) → (slice_index (slice_set t p b) q == 62) ≡ (slice_index t q == 62)
mark_blind t p b lt was is q =
    ⊎_elim
    (λ e. ap (λ k. nat_eq (slice_index (slice_set t p b) k) 62) e
    ∙ ap (λ x. nat_eq x 62) (get_or-set_same t p b 0 lt) ∙ no_mark b is
    ∙ sym (ap (λ k. nat_eq (slice_index t k) 62) e ∙ no_mark (slice_index t p) was))
    (λ ne. ap (λ x. nat_eq x 62) (get_or-set_other t p q b 0 ne))
    (cases_eq q p)

pub plain_tests : Tests plain_place
plain_tests = record { digit = λ t p e. e; blind = plain_blind }

pub code128_tests : Tests code128_place
code128_tests =
    record {
      digit = λ t p e. passes (after_mark t p) (plain_place t p) e;
      blind = λ t p b lt was is q.
          ap (λ x. cond (cond (q == 0) false x) false (plain_place (slice_set t p b) q))
          (mark_blind t p b lt was is (q - 1))
          ∙ ap (cond (after_mark t q) false) (plain_blind t p b lt was is q);
    }
  where
    passes : (m d : Bool) → cond m false d ≡ true → d ≡ true
    passes true true e = refl
    passes true false e = e
    passes false d e = e

pub plain_lawful : Lawful (digit_wheels plain_place)
plain_lawful = digits_lawful plain_place plain_tests

pub code128_lawful : Lawful (digit_wheels code128_place)
code128_lawful = digits_lawful code128_place code128_tests
