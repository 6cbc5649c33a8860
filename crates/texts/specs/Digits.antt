-- The counting rules whose wheels are digits.
--   digit_wheels wheel  the rule of a test that tells whether a place is a wheel: a wheel of 10 has its digit's
--                       value, and any other place is fixed. A value that the place cannot have leaves the byte
--                       that stands there
--   plain_place         every digit is a wheel
--   code128_place       every digit but one just after >, which is a code there
use Rattle.std.specs.Prelude.{ℕ, ◌+◌, ◌-◌, Bool, false, cond, List, ◌==◌, nat_lt, slice_index}
use Rattle.limits.specs.Bytes.{is_digit}
use Rattle.texts.specs.Wheels.{Wheels}

abbrev pub digit_wheels : (List ℕ → ℕ → Bool) → Wheels
digit_wheels wheel =
    record {
      radix = λ t p. cond (wheel t p) 10 1;
      value = λ t p. cond (wheel t p) (slice_index t p - 48) 0;
      byte = λ t p v. cond (cond (wheel t p) (nat_lt v 10) false) (48 + v) (slice_index t p);
    }

abbrev pub plain_place : List ℕ → ℕ → Bool
plain_place t p = is_digit (slice_index t p)

-- a > stands just before place p
abbrev pub after_mark : List ℕ → ℕ → Bool
after_mark t p = cond (p == 0) false (slice_index t (p - 1) == 62)

abbrev pub code128_place : List ℕ → ℕ → Bool
code128_place t p = cond (after_mark t p) false (plain_place t p)
