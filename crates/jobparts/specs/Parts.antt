-- What reading yields: for each part of a command a slot, with places and bytes as numbers and lists.
--   PartSeen          a part that is missing, one that is given, or link numbers
--   Got           the slots so far, and the place behind them
--   wrong_byte p  a byte that does not fit stands at p, or is missing there
--   not_admitted p the part that begins at p is not admitted
--   then r f      f of what r yields; a wrong part stays the answer
--   seen_part, seen_option, seen_source   a part of the code as a slot
--   part_alone, option_alone, source_alone   the same, as the one slot of an item
use Rattle.std.specs.Prelude.{ℕ, List, [], ◌∷◌, Some, None, Ok, Err, Option, Result}
use Rattle.jobparts.specs.declared.part.Part.{Part}
use Rattle.jobparts.specs.declared.part.Source.{Source}
use Rattle.jobparts.specs.declared.part.Source.TheVariants.{Nothing, Text, Links}
use Rattle.jobparts.specs.declared.part.Wrong.{Wrong}
use Rattle.jobparts.specs.declared.part.ReadRefusal.TheVariants.{WrongByte, NotAdmitted}

pub data PartSeen : Type 0 where
  missing : PartSeen
  given : ℕ → List ℕ → PartSeen
  linked : ℕ → List ℕ → PartSeen

abbrev pub bytes_of : PartSeen → List ℕ
bytes_of missing = []
bytes_of (given p bs) = bs
bytes_of (linked p bs) = bs

abbrev pub Got : Type 0
Got = List PartSeen × ℕ

abbrev pub wrong_byte : ℕ → Wrong
wrong_byte at = record { refusal = WrongByte; place = at }

abbrev pub not_admitted : ℕ → Wrong
not_admitted at = record { refusal = NotAdmitted; place = at }

abbrev pub then : {X Y : Type 0} → Result X Wrong → (X → Result Y Wrong) → Result Y Wrong
then (Ok x) f = f x
then (Err e) f = Err e

abbrev pub seen_part : Part → PartSeen
seen_part p = given p.place p.bytes.now

abbrev pub seen_option : Option Part → PartSeen
seen_option None = missing
seen_option (Some p) = seen_part p

abbrev pub seen_source : Source → PartSeen
seen_source Nothing = missing
seen_source (Text p) = seen_part p
seen_source (Links p) = linked p.place p.bytes.now

abbrev pub part_alone : Part → List PartSeen
part_alone p = seen_part p ∷ []

abbrev pub option_alone : Option Part → List PartSeen
option_alone p = seen_option p ∷ []

abbrev pub source_alone : Source → List PartSeen
source_alone s = seen_source s ∷ []
