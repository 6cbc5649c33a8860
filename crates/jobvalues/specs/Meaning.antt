-- What the parts of a command mean. A reader lets only digits through where a number stands, only texts where a text
-- stands, and so on; what is said here of other bytes makes the meanings total, and no command that was read comes to
-- it.
--   up_to high bs     the number of a numeric part, and `high` where it is higher
--   four_digit_number bs, two_digit_number bs   a number of four digits at most, and one of two
--   signed bs, step_of s   a sign and ten digits as a number; a step that is not given is 0
--   kept_of s         the places that zero suppression keeps, if it is given
--   text_of bs        a text; bytes that are none are the empty text
--   parted bs         the strings that commas part
--   pieces n bs       the first n of them; one that was not sent is empty
--   links_of bs       up to four link numbers parted by commas; one that no string has is left out
--   strings_of bs     the eight link strings that a command sends at most
--   text_check_of s, bar_check_of bs   the check character of a field: behind M, 0 is modulus 10 and 1 is modulus 43;
--                     a bar's is 1 for none and 3 for modulus 43
use Rattle.std.specs.Prelude.{ℕ, ◌-◌, min, Bool, cond, List, [], ◌∷◌, ◌++◌, map, length, take, drop, replicate, ℤ, pos, neg_ℤ, Some, None, Option, ◌==◌, nat_eq, nat_le}
use Rattle.std.specs.List.{list_all, slice_split}
use Rattle.limits.specs.Bytes.{in_text}
use Rattle.limits.specs.Limits.{longest_text}
use Rattle.texts.specs.declared.checks.Check.{Check}
use Rattle.texts.specs.declared.checks.Check.TheVariants.{NoCheck, Modulus10, Modulus43}
use Rattle.fields.specs.Records.{link_taken}
use Rattle.jobparts.specs.Kinds.{stands}
use Rattle.jobparts.specs.Parts.{PartSeen, missing, given, linked}
use Rattle.jobparts.specs.Values.{number_of}

abbrev pub up_to : ℕ → List ℕ → ℕ
up_to high bs = min (number_of bs) high

abbrev pub four_digit_number : List ℕ → ℕ
four_digit_number bs = up_to 9999 bs

abbrev pub two_digit_number : List ℕ → ℕ
two_digit_number bs = up_to 99 bs

abbrev pub signed : List ℕ → ℤ
signed bs = cond (stands (nat_eq 45) bs 0) (neg_ℤ (pos (up_to 9999999999 (drop 1 bs))))
    (pos (up_to 9999999999 (drop 1 bs)))

abbrev pub step_of : PartSeen → ℤ
step_of missing = pos 0
step_of (given p bs) = signed bs
step_of (linked p bs) = signed bs

abbrev pub kept_of : PartSeen → Option ℕ
kept_of missing = None
kept_of (given p bs) = Some (two_digit_number bs)
kept_of (linked p bs) = Some (two_digit_number bs)

abbrev pub all_in_text : List ℕ → Bool
all_in_text bs = list_all in_text bs

unfoldable pub text_of : List ℕ → List ℕ
text_of bs = cond (all_in_text bs) (cond (nat_le (length bs) longest_text) bs []) []

abbrev pub parted : List ℕ → List (List ℕ)
parted bs = slice_split (λ b. b == 44) bs

abbrev pub pieces : ℕ → List ℕ → List (List ℕ)
pieces n bs = take n (parted bs) ++ replicate (n - length (parted bs)) []

unfoldable pub with_link : List ℕ → ℕ → List ℕ
with_link ns n = cond (link_taken ns n) (ns ++ n ∷ []) ns

abbrev pub with_links : List ℕ → List (List ℕ) → List ℕ
with_links ns [] = ns
with_links ns (b ∷ bs) = with_links (with_link ns (two_digit_number b)) bs

unfoldable pub links_of : List ℕ → List ℕ
links_of bs = with_links [] (take 4 (parted bs))

unfoldable pub strings_of : List ℕ → List (List ℕ)
strings_of bs = map text_of (pieces 8 bs)

abbrev pub text_check_of : PartSeen → Check
text_check_of missing = NoCheck
text_check_of (given p bs) = cond (number_of bs == 0) Modulus10 Modulus43
text_check_of (linked p bs) = cond (number_of bs == 0) Modulus10 Modulus43

abbrev pub bar_check_of : List ℕ → Check
bar_check_of bs = cond (number_of bs == 3) Modulus43 NoCheck
