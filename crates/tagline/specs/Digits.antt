-- Numbers as a tag writes them.
--   digit n      the last decimal digit of n, as a character
--   digits k n   the last k digits of n
--   two_digits n, four_digits n   the last two digits of n, the last four
use Rattle.std.specs.Prelude.{ℕ, zero, suc, ◌+◌, ◌/◌, ◌%◌, ◌^◌, List, [], ◌∷◌}

abbrev pub digit : ℕ → ℕ
digit n = 48 + n % 10

abbrev pub digits : ℕ → ℕ → List ℕ
digits zero n = []
digits (suc zero) n = digit n ∷ []
digits (suc (suc k)) n = digit (n / 10 ^ suc k) ∷ digits (suc k) n

abbrev pub two_digits : ℕ → List ℕ
two_digits n = digit (n / 10) ∷ digit n ∷ []

abbrev pub four_digits : ℕ → List ℕ
four_digits n = digit (n / 1000) ∷ digit (n / 100) ∷ digit (n / 10) ∷ digit n ∷ []
