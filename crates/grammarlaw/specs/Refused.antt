-- Where a part is not admitted, its bytes being right and all before it being admitted.
--   RefusedOne i e rest p      the part of the item i that rest begins with, told at the place p
--   Refused steps e rest p     the same for the first of the steps that is not admitted
use Rattle.std.specs.Prelude.{◌≡◌, ◌<◌, ℕ, zero, suc, ◌+◌, ◌-◌, Bool, true, false, List, [], ◌∷◌, ◌++◌, map, length, ◌⊎◌, nat_eq}
use Rattle.limits.specs.Limits.{longest_text, last_link}
use Rattle.jobparts.specs.Grammar.{Item, fixed, part, number, chosen, lettered, signed, text, strings, source}
use Rattle.jobparts.specs.Kinds.{is_sign}
use Rattle.jobparts.specs.Parts.{PartSeen, bytes_of}
use Rattle.jobparts.specs.declared.part.ByteKind.{ByteKind}
use Rattle.jobparts.specs.declared.part.ByteKind.TheVariants.{Digit, Text}
use Rattle.jobparts.specs.declared.part.List.{List as Listed}
use Rattle.jobparts.specs.declared.part.List.TheVariants.{Strings, Numbers}
use Rattle.grammarlaw.specs.Right.{AllOf, Sized}
use Rattle.grammarlaw.specs.Rows.{Step, anew, item}
use Rattle.grammarlaw.specs.Written.{Rule, lies_between, any, IsElement, Writes}

pub record RefusedPart (k : ByteKind) (n : ℕ) (rule : Rule) (rest : List ℕ) (p : ℕ) : Type 0 where
  pub own : List ℕ
  pub behind : List ℕ
  pub whole : rest ≡ own ++ behind
  pub sized : Sized k n own
  pub refused : rule own behind ≡ false
  pub place : p ≡ 0

-- an option's part begins behind its comma and letter
pub record RefusedOption (f : ℕ → Bool) (n : ℕ) (rule : Rule) (rest : List ℕ) (p : ℕ) : Type 0 where
  pub c : ℕ
  pub digits : List ℕ
  pub behind : List ℕ
  pub whole : rest ≡ 44 ∷ c ∷ (digits ++ behind)
  pub led : f c ≡ true
  pub sized : Sized Digit n digits
  pub refused : rule digits behind ≡ false
  pub place : p ≡ 2

pub record RefusedText (rest : List ℕ) (p : ℕ) : Type 0 where
  pub kind : AllOf Text rest
  pub long : longest_text < length rest
  pub place : p ≡ 0

-- a link string ends where the body does, or before a comma
pub data Stopped (behind : List ℕ) : Type 0 where
  ended : behind ≡ [] → Stopped behind
  comma : (more : List ℕ) → behind ≡ 44 ∷ more → Stopped behind

pub record RefusedString (rest : List ℕ) (p : ℕ) : Type 0 where
  pub own : List ℕ
  pub behind : List ℕ
  pub whole : rest ≡ own ++ behind
  pub text : RefusedText own p
  pub stopped : Stopped behind

abbrev pub RefusedElement : Listed → List ℕ → ℕ → Type 0
RefusedElement Strings rest p = RefusedString rest p
RefusedElement Numbers rest p = RefusedPart Digit 2 (lies_between 1 last_link) rest p

pub record RefusedFurther (First : List ℕ → Type 0) (Later : List ℕ → ℕ → Type 0) (rest : List ℕ)
    (p : ℕ) : Type 0 where
  pub mine : List ℕ
  pub theirs : List ℕ
  pub q : ℕ
  pub whole : rest ≡ mine ++ (44 ∷ theirs)
  pub first : First mine
  pub later : Later theirs q
  pub place : p ≡ length mine + 1 + q

abbrev pub RefusedList : Listed → ℕ → List ℕ → ℕ → Type 0
RefusedList list zero rest p = RefusedElement list rest p
RefusedList list (suc further) rest p =
    RefusedElement list rest p ⊎ RefusedFurther (IsElement list) (RefusedList list further) rest p

pub data RefusedSource (further : ℕ) (rest : List ℕ) (p : ℕ) : Type 0 where
  in_text : (t : List ℕ) (q : ℕ) → rest ≡ 61 ∷ t → RefusedText t q → p ≡ 1 + q → RefusedSource further rest p
  in_links : (t : List ℕ) (q : ℕ) → rest ≡ 59 ∷ t → RefusedList Numbers further t q → p ≡ 1 + q →
      RefusedSource further rest p

abbrev pub RefusedOne : Item → List (List ℕ) → List ℕ → ℕ → Type 0
RefusedOne (fixed b) e rest p = ⊥
RefusedOne (part kind n) e rest p = RefusedPart kind n any rest p
RefusedOne (number n low high) e rest p = RefusedPart Digit n (lies_between low high) rest p
RefusedOne (chosen kind n admits) e rest p = RefusedPart kind n (admits e) rest p
RefusedOne (lettered letter n high last) e rest p = RefusedOption (nat_eq letter) n (lies_between 0 high) rest p
RefusedOne (signed n last) e rest p = RefusedOption is_sign n any rest p
RefusedOne text e rest p = RefusedText rest p
RefusedOne (strings most) e rest p = RefusedList Strings (most - 1) rest p
RefusedOne (source most) e rest p = RefusedSource (most - 1) rest p

pub record RefusedLater (First : List (List ℕ) → List PartSeen → List ℕ → List ℕ → Type 0)
    (Later : List (List ℕ) → List ℕ → ℕ → Type 0) (e : List (List ℕ)) (rest : List ℕ) (p : ℕ) : Type 0 where
  pub own : List PartSeen
  pub mine : List ℕ
  pub theirs : List ℕ
  pub q : ℕ
  pub whole : rest ≡ mine ++ theirs
  pub first : First e own mine theirs
  pub later : Later (e ++ map bytes_of own) theirs q
  pub place : p ≡ length mine + q

abbrev pub Refused : List Step → List (List ℕ) → List ℕ → ℕ → Type 0
Refused [] e rest p = ⊥
Refused (anew ∷ steps) e rest p = Refused steps [] rest p
Refused (item i ∷ steps) e rest p = RefusedOne i e rest p ⊎ RefusedLater (Writes i) (Refused steps) e rest p
