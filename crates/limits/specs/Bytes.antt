-- The kinds of bytes that texts and commands are made of.
--   is_digit b     b is one of 0 to 9
--   is_capital b   b is one of A to Z
--   in_text b      a text may hold b: 20H to 7EH, but no comma
use Rattle.std.specs.Prelude.{Bool, true, false, cond, ℕ, leb, eqb}

abbrev pub between : ℕ → ℕ → ℕ → Bool
between low high b = cond (leb low b) (leb b high) false

abbrev pub is_digit : ℕ → Bool
is_digit = between 48 57

abbrev pub is_capital : ℕ → Bool
is_capital = between 65 90

abbrev pub in_text : ℕ → Bool
in_text b = cond (between 32 126 b) (cond (eqb b 44) false true) false
