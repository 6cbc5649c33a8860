-- What each part of a command that was read holds, so that it can be meant.
--   IsOption P s   the part was left out, or given with bytes that are P
--   PartFits i s   the part that the item i yields has the bytes that the item asks for
--   AllFit steps ss   each part of a command does
use Rattle.std.specs.Prelude.{◌≡◌, ℕ, ◌-◌, true, List, [], ◌∷◌}
use Rattle.limits.specs.Bytes.{between}
use Rattle.jobparts.specs.Grammar.{Item, fixed, part, number, chosen, lettered, signed, text, strings, source}
use Rattle.jobparts.specs.Kinds.{is_sign}
use Rattle.jobparts.specs.Parts.{PartSeen, missing, given, linked}
use Rattle.jobparts.specs.Values.{number_of}
use Rattle.jobparts.specs.declared.part.ByteKind.TheVariants.{Digit}
use Rattle.jobparts.specs.declared.part.List.TheVariants.{Strings, Numbers}
use Rattle.jobgroups.specs.Commands.{CommandSeen}
use Rattle.jobgroups.specs.Table.{parts_of}
use Rattle.grammarlaw.specs.Right.{Sized}
use Rattle.grammarlaw.specs.Rows.{Step, anew, item, steps_of}
use Rattle.grammarlaw.specs.Written.{IsText, IsList}

pub record IsNumber (n low high : ℕ) (bs : List ℕ) : Type 0 where
  pub digits : Sized Digit n bs
  pub admitted : between low high (number_of bs) ≡ true

-- a sign and n digits
pub record IsSigned (n : ℕ) (bs : List ℕ) : Type 0 where
  pub sign : ℕ
  pub digits : List ℕ
  pub whole : bs ≡ sign ∷ digits
  pub signs : is_sign sign ≡ true
  pub sized : Sized Digit n digits

abbrev pub IsGiven : (List ℕ → Type 0) → PartSeen → Type 0
IsGiven P missing = ⊥
IsGiven P (given p bs) = P bs
IsGiven P (linked p bs) = ⊥

abbrev pub IsOption : (List ℕ → Type 0) → PartSeen → Type 0
IsOption P missing = Unit {0}
IsOption P (given p bs) = P bs
IsOption P (linked p bs) = ⊥

abbrev pub IsSource : ℕ → PartSeen → Type 0
IsSource further missing = Unit {0}
IsSource further (given p bs) = IsText bs
IsSource further (linked p bs) = IsList Numbers further bs

-- a fixed byte yields no part
abbrev pub PartFits : Item → PartSeen → Type 0
PartFits (fixed b) s = ⊥
PartFits (part kind n) s = IsGiven (Sized kind n) s
PartFits (number n low high) s = IsGiven (IsNumber n low high) s
PartFits (chosen kind n admits) s = IsGiven (Sized kind n) s
PartFits (lettered letter n high last) s = IsOption (IsNumber n 0 high) s
PartFits (signed n last) s = IsOption (IsSigned n) s
PartFits text s = IsGiven IsText s
PartFits (strings most) s = IsGiven (IsList Strings (most - 1)) s
PartFits (source most) s = IsSource (most - 1) s

abbrev pub FirstFits : Item → (List PartSeen → Type 0) → List PartSeen → Type 0
FirstFits i Others [] = ⊥
FirstFits i Others (s ∷ ss) = PartFits i s × Others ss

abbrev pub AllFit : List Step → List PartSeen → Type 0
AllFit [] ss = ss ≡ []
AllFit (anew ∷ steps) ss = AllFit steps ss
AllFit (item (fixed b) ∷ steps) ss = AllFit steps ss
AllFit (item i ∷ steps) ss = FirstFits i (AllFit steps) ss

abbrev pub CommandFits : CommandSeen → Type 0
CommandFits p = AllFit (steps_of (parts_of p.letters)) p.parts
