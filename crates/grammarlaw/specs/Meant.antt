-- What the parts of a command that was read mean: their bytes, with nothing cut off, left out or put in their place.
--   Each P xs       P is true of each of xs
--   MeansNumber n bs   n digits: the number that they write, as each kind of number that holds it
--   MeansStep bs    a sign and ten digits
--   MeansStrings most bs, MeansLinks most bs   the strings, and the link numbers, that commas part
--   AllMeant steps ss  each part of a command means its bytes
use Rattle.std.specs.Prelude.{◌≡◌, ◌≤◌, ℕ, suc, ◌-◌, cond, List, [], ◌∷◌, ◌++◌, map, length, drop, replicate, pos, neg_ℤ, nat_eq}
use Rattle.limits.specs.Limits.{most_links}
use Rattle.jobparts.specs.Grammar.{Item, fixed, part, number, chosen, lettered, signed, text, strings, source}
use Rattle.jobparts.specs.Kinds.{stands}
use Rattle.jobparts.specs.Parts.{PartSeen, missing, given, linked}
use Rattle.jobparts.specs.Values.{value, number_of}
use Rattle.jobparts.specs.declared.part.ByteKind.{ByteKind}
use Rattle.jobparts.specs.declared.part.ByteKind.TheVariants.{Digit, Capital, CapitalOrDigit, Text}
use Rattle.jobgroups.specs.Commands.{CommandSeen}
use Rattle.jobgroups.specs.Table.{parts_of}
use Rattle.jobvalues.specs.Meaning.{four_digit_number, two_digit_number, signed as step, text_of, parted, links_of, strings_of}
use Rattle.grammarlaw.specs.Rows.{Step, anew, item, steps_of}
use Rattle.grammarlaw.specs.Written.{IsText, IsLink}

abbrev pub Each : (List ℕ → Type 0) → List (List ℕ) → Type 0
Each P [] = Unit {0}
Each P (x ∷ xs) = P x × Each P xs

pub record MeansNumber (n : ℕ) (bs : List ℕ) : Type 0 where
  pub whole : n ≤ 10 → number_of bs ≡ value bs
  pub four_digit_number : n ≤ 4 → four_digit_number bs ≡ value bs
  pub two_digit_number : n ≤ 2 → two_digit_number bs ≡ value bs

pub record MeansStep (bs : List ℕ) : Type 0 where
  pub step :
      step bs ≡ cond (stands (nat_eq 45) bs 0) (neg_ℤ (pos (value (drop 1 bs)))) (pos (value (drop 1 bs)))

-- at most so many strings; one that was not sent is empty
pub record MeansStrings (most : ℕ) (bs : List ℕ) : Type 0 where
  pub few : length (parted bs) ≤ most
  pub each : Each IsText (parted bs)
  pub strings : most ≤ 8 → strings_of bs ≡ parted bs ++ replicate (8 - length (parted bs)) []

pub record MeansLinks (most : ℕ) (bs : List ℕ) : Type 0 where
  pub few : length (parted bs) ≤ most
  pub each : Each IsLink (parted bs)
  pub links : most ≤ most_links → links_of bs ≡ map number_of (parted bs)

abbrev pub MeansKind : ByteKind → ℕ → List ℕ → Type 0
MeansKind Digit n bs = MeansNumber n bs
MeansKind Capital n bs = Unit {0}
MeansKind CapitalOrDigit n bs = Unit {0}
MeansKind Text n bs = Unit {0}

abbrev pub OfBytes : (List ℕ → Type 0) → PartSeen → Type 0
OfBytes P missing = Unit {0}
OfBytes P (given p bs) = P bs
OfBytes P (linked p bs) = P bs

abbrev pub MeansSource : ℕ → PartSeen → Type 0
MeansSource most missing = Unit {0}
MeansSource most (given p bs) = text_of bs ≡ bs
MeansSource most (linked p bs) = MeansLinks most bs

abbrev pub PartMeant : Item → PartSeen → Type 0
PartMeant (fixed b) s = Unit {0}
PartMeant (part kind n) s = OfBytes (MeansKind kind n) s
PartMeant (number n low high) s = OfBytes (MeansNumber n) s
PartMeant (chosen kind n admits) s = OfBytes (MeansKind kind n) s
PartMeant (lettered letter n high last) s = OfBytes (MeansNumber n) s
PartMeant (signed n last) s = OfBytes (λ bs. n ≤ 10 → MeansStep bs) s
PartMeant text s = OfBytes (λ bs. text_of bs ≡ bs) s
PartMeant (strings most) s = OfBytes (MeansStrings (suc (most - 1))) s
PartMeant (source most) s = MeansSource (suc (most - 1)) s

abbrev pub FirstMeant : Item → (List PartSeen → Type 0) → List PartSeen → Type 0
FirstMeant i Others [] = ⊥
FirstMeant i Others (s ∷ ss) = PartMeant i s × Others ss

abbrev pub AllMeant : List Step → List PartSeen → Type 0
AllMeant [] ss = ss ≡ []
AllMeant (anew ∷ steps) ss = AllMeant steps ss
AllMeant (item (fixed b) ∷ steps) ss = AllMeant steps ss
AllMeant (item i ∷ steps) ss = FirstMeant i (AllMeant steps) ss

abbrev pub CommandMeant : CommandSeen → Type 0
CommandMeant p = AllMeant (steps_of (parts_of p.letters)) p.parts
