-- How a refusal is written: `R`, its number, its layer's letter, its form and its place, parted by commas, and LF.
--   six_digits n           the last six digits of n
--   refusal_line f  the line of the fault f
use Rattle.std.specs.Prelude.{ℕ, ◌/◌, List, [], ◌∷◌, ◌++◌}
use Rattle.tagline.specs.Digits.{digit, two_digits}
use Rattle.faults.specs.Numbers.{number_of, layer_of, letter_of}
use Rattle.faults.specs.declared.Fault.{Fault}

abbrev pub six_digits : ℕ → List ℕ
six_digits n = digit (n / 100000) ∷ digit (n / 10000) ∷ digit (n / 1000) ∷ digit (n / 100) ∷ two_digits n

abbrev pub refusal_line : Fault → List ℕ
refusal_line f =
    82 ∷ 44 ∷ (two_digits
    (number_of f.refusal) ++
    (44 ∷ letter_of (layer_of f.refusal) ∷ 44 ∷ (two_digits f.form ++ (44 ∷ (six_digits f.place ++ (10 ∷ []))))))
