-- Check characters: modulus 10 as GS1 defines it, modulus 43 as ISO/IEC 16388 does.
--   value10 b, value43 b     what a character counts for; a character outside the set of its check counts for 0
--   character43 v            the character that counts for v
--   counts c b               what a character counts for under the check c
--   weight n                 in modulus 10 a digit with n digits behind it counts 3 times, once, 3 times, .. from the
--                            right
--   check_sum c t            the weighted sum of t under the check c
--   check_character c t      the check character of t, as a text of one byte; none for NoCheck
--   admits c b               the check c takes the character b;  admits_all c t  it takes all of t
use Rattle.std.specs.Prelude.{ℕ, ◌+◌, ◌-◌, ◌*◌, ◌%◌, Bool, true, false, cond, List, [], ◌∷◌, length, ◌==◌, nat_lt, slice_index}
use Rattle.std.specs.List.{list_all}
use Rattle.limits.specs.Bytes.{is_digit, is_capital}
use Rattle.texts.specs.declared.checks.Check.{Check}
use Rattle.texts.specs.declared.checks.Check.TheVariants.{NoCheck, Modulus10, Modulus43}

abbrev pub value10 : ℕ → ℕ
value10 b = cond (is_digit b) (b - 48) 0

-- 0 to 9 count for 0 to 9, A to Z for 10 to 35, then - . space $ / + % for 36 to 42
abbrev pub special43 : ℕ → ℕ
special43 b =
    cond (b == 45) 36 (cond (b == 46) 37 (cond (b == 32) 38 (cond (b == 36) 39
    (cond (b == 47) 40 (cond (b == 43) 41 (cond (b == 37) 42 0))))))

abbrev pub value43 : ℕ → ℕ
value43 b = cond (is_digit b) (b - 48) (cond (is_capital b) (b - 55) (special43 b))

abbrev pub character43 : ℕ → ℕ
character43 v =
    cond (nat_lt v 10) (48 + v) (cond (nat_lt v 36) (55 + v)
    (slice_index (45 ∷ 46 ∷ 32 ∷ 36 ∷ 47 ∷ 43 ∷ 37 ∷ []) (v - 36)))

abbrev pub weight : ℕ → ℕ
weight n = cond (n % 2 == 0) 3 1

abbrev pub counts : Check → ℕ → ℕ
counts NoCheck b = 0
counts Modulus10 b = value10 b
counts Modulus43 b = value43 b

abbrev pub worth : Check → ℕ → ℕ → ℕ
worth NoCheck n b = counts NoCheck b
worth Modulus10 n b = weight n * counts Modulus10 b
worth Modulus43 n b = counts Modulus43 b

abbrev pub check_sum : Check → List ℕ → ℕ
check_sum c [] = 0
check_sum c (b ∷ bs) = worth c (length bs) b + check_sum c bs

abbrev pub check_character : Check → List ℕ → List ℕ
check_character NoCheck t = []
check_character Modulus10 t = (48 + (10 - check_sum Modulus10 t % 10) % 10) ∷ []
check_character Modulus43 t = character43 (check_sum Modulus43 t % 43) ∷ []

abbrev pub admits43 : ℕ → Bool
admits43 b = cond (is_digit b) true (cond (is_capital b) true (cond (special43 b == 0) false true))

abbrev pub admits : Check → ℕ → Bool
admits NoCheck b = true
admits Modulus10 b = is_digit b
admits Modulus43 b = admits43 b

abbrev pub admits_all : Check → List ℕ → Bool
admits_all c = list_all (admits c)
