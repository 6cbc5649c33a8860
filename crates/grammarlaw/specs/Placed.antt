-- Where the parts of a command that was read stand in the job, and each link string and link number of a part with
-- its own place.
--   Stands bs p w        the bytes w stand in bs at the place p
--   EachStands bs ss     the bytes of each part stand at its place
--   elements_of s        the link strings or link numbers of a part, each with its place
use Rattle.std.specs.Prelude.{◌≡◌, ℕ, ◌+◌, List, [], ◌∷◌, ◌++◌, length}
use Rattle.jobparts.specs.Parts.{PartSeen, missing, given, linked}
use Rattle.jobgroups.specs.Commands.{CommandSeen}
use Rattle.jobvalues.specs.Meaning.{parted}

pub record Stands (bs : List ℕ) (p : ℕ) (w : List ℕ) : Type 0 where
  pub before : List ℕ
  pub after : List ℕ
  pub whole : bs ≡ before ++ (w ++ after)
  pub place : p ≡ length before

abbrev pub PartStands : List ℕ → PartSeen → Type 0
PartStands bs missing = Unit {0}
PartStands bs (given p w) = Stands bs p w
PartStands bs (linked p w) = Stands bs p w

abbrev pub EachStands : List ℕ → List PartSeen → Type 0
EachStands bs [] = Unit {0}
EachStands bs (s ∷ ss) = PartStands bs s × EachStands bs ss

abbrev pub pieces_from : ℕ → List (List ℕ) → List PartSeen
pieces_from p [] = []
pieces_from p (x ∷ xs) = given p x ∷ pieces_from (p + (length x + 1)) xs

abbrev pub elements_of : PartSeen → List PartSeen
elements_of missing = []
elements_of (given p w) = pieces_from p (parted w)
elements_of (linked p w) = pieces_from p (parted w)

abbrev pub ElementsStand : List ℕ → List PartSeen → Type 0
ElementsStand bs [] = Unit {0}
ElementsStand bs (s ∷ ss) = EachStands bs (elements_of s) × ElementsStand bs ss

pub record CommandStands (job : List ℕ) (p : CommandSeen) : Type 0 where
  pub parts : EachStands job p.parts
  pub elements : ElementsStand job p.parts
