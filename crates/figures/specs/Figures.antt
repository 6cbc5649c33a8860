-- The worked figures: what the definitions give, beside what they are to give. `codes` is the bytes of a text.
--   Figure      two lists of numbers that are to be equal
--   figures     the table
--   AllHold fs  the two of each figure are equal
use Rattle.std.specs.Prelude.{◌≡◌, ℕ, List, [], ◌∷◌, pos, negsuc, Some, codes}
use Rattle.std.specs.List.{AllByRecursion}
use Rattle.fields.specs.Joining.{joined_text}
use Rattle.picture.specs.Places.{dot_of}
use Rattle.texts.specs.Checks.{check_character}
use Rattle.texts.specs.Digits.{digit_wheels, plain_place, code128_place}
use Rattle.texts.specs.Finishing.{finished_text}
use Rattle.texts.specs.Turning.{turned}
use Rattle.texts.specs.declared.checks.Check.TheVariants.{NoCheck, Modulus10, Modulus43}

pub record Figure : Type 0 where
  pub given : List ℕ
  pub wanted : List ℕ

abbrev pub is : List ℕ → List ℕ → Figure
is given wanted = record { given = given; wanted = wanted }

abbrev pub figures : List Figure
figures =
    -- zero suppression
    is (finished_text NoCheck (Some 0) (codes "0000")) (codes "    ")
    ∷ is (finished_text NoCheck (Some 1) (codes "0000")) (codes "   0")
    ∷ is (finished_text NoCheck (Some 2) (codes "0000")) (codes "  00")
    ∷ is (finished_text NoCheck (Some 2) (codes "0A12")) (codes " A12")
    -- counting
    ∷ is (turned (digit_wheels code128_place) (codes "0A9>08") (pos 1)) (codes "0A9>09")
    ∷ is (turned (digit_wheels code128_place) (codes "0A9>09") (pos 1)) (codes "1A0>00")
    ∷ is (turned (digit_wheels plain_place) (codes "999") (pos 1)) (codes "000")
    ∷ is (turned (digit_wheels plain_place) (codes "000") (negsuc 0)) (codes "999")
    -- check characters
    ∷ is (check_character Modulus10 (codes "629104150021")) (codes "3")
    ∷ is (check_character Modulus43 (codes "BOOT7")) (codes "9")
    -- link strings, for a field with the links 2 and 1
    ∷ is (joined_text (codes "A" ∷ codes "B" ∷ []) (2 ∷ 1 ∷ [])) (codes "BA")
    ∷ is (joined_text (codes "A" ∷ []) (2 ∷ 1 ∷ [])) (codes "A")
    -- tenths of a millimetre to dots
    ∷ is (dot_of 539 ∷ []) (431 ∷ [])
    ∷ []

abbrev pub AllHold : List Figure → Type 0
AllHold = AllByRecursion (λ f. f.given ≡ f.wanted)
