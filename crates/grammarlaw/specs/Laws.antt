-- The law of a row of the table, for the bytes rest behind others.
--   RightRow, WritesRow, RefusedRow   what is right, written and refused, for groups of items
--   RowSays      what reading comes to: parts from which the bytes are written; or a place, up to which the bytes
--                are right and at which they break; or the place of a part that is not admitted. No other refusal comes
--   RowLaws      that reading says so, that what is written is read, and that what is refused is told
use Rattle.std.specs.Prelude.{◌≡◌, ℕ, ◌+◌, List, [], ◌++◌, map, length, true, Ok, Err, Result}
use Rattle.jobparts.specs.Grammar.{Item, row_at}
use Rattle.jobparts.specs.Parts.{PartSeen, not_admitted}
use Rattle.jobparts.specs.declared.part.ReadRefusal.{ReadRefusal}
use Rattle.jobparts.specs.declared.part.ReadRefusal.TheVariants.{OutOfBounds, AtEnd, NoEscape, NoEnding, UnknownLetters, WrongByte, NotAdmitted}
use Rattle.jobparts.specs.declared.part.Wrong.{Wrong}
use Rattle.grammarlaw.specs.Bodies.{BreaksAt}
use Rattle.grammarlaw.specs.Laid.{is_laid}
use Rattle.joblaw.specs.Located.{shift_part}
use Rattle.grammarlaw.specs.Refused.{Refused}
use Rattle.grammarlaw.specs.Right.{AllRight}
use Rattle.grammarlaw.specs.Rows.{steps_of}
use Rattle.grammarlaw.specs.Written.{WritesAll}

abbrev pub Groups : Type 0
Groups = List (List Item)

abbrev pub RightRow : Groups → List ℕ → Type 0
RightRow groups w = AllRight (steps_of groups) w

abbrev pub WritesRow : Groups → List PartSeen → List ℕ → Type 0
WritesRow groups ss bs = WritesAll (steps_of groups) [] ss bs

abbrev pub RefusedRow : Groups → List ℕ → ℕ → Type 0
RefusedRow groups rest p = Refused (steps_of groups) [] rest p

-- a fact of a place, and that place counted from elsewhere
pub record PlacedAt (P : ℕ → Type 0) (start place : ℕ) : Type 0 where
  pub at : ℕ
  pub counted : place ≡ start + at
  pub here : P at

pub record WrittenAt (groups : Groups) (rest : List ℕ) (start : ℕ) (found : List PartSeen) : Type 0 where
  pub parts : List PartSeen
  pub counted : found ≡ map (shift_part start) parts
  pub written : WritesRow groups parts rest

abbrev pub RowRefuses : Groups → List ℕ → ℕ → ReadRefusal → ℕ → Type 0
RowRefuses groups rest start OutOfBounds place = ⊥
RowRefuses groups rest start AtEnd place = ⊥
RowRefuses groups rest start NoEscape place = ⊥
RowRefuses groups rest start NoEnding place = ⊥
RowRefuses groups rest start UnknownLetters place = ⊥
RowRefuses groups rest start WrongByte place = PlacedAt (BreaksAt (RightRow groups) rest) start place
RowRefuses groups rest start NotAdmitted place = PlacedAt (RefusedRow groups rest) start place

abbrev pub RowSays : Groups → List ℕ → ℕ → Result (List PartSeen) Wrong → Type 0
RowSays groups rest start (Ok found) = WrittenAt groups rest start found
RowSays groups rest start (Err w) = RowRefuses groups rest start w.refusal w.place

pub record RowLaws (groups : Groups) (before rest : List ℕ) : Type 0 where
  pub says : RowSays groups rest (length before) (row_at groups [] (before ++ rest) (length before))
  pub written :
      (parts : List PartSeen) → WritesRow groups parts rest →
      row_at groups [] (before ++ rest) (length before) ≡ Ok (map (shift_part (length before)) parts)
  pub refused :
      (p : ℕ) → RefusedRow groups rest p →
      row_at groups [] (before ++ rest) (length before) ≡ Err (not_admitted (length before + p))

abbrev pub Laws : Type 0
Laws = (groups : Groups) → is_laid (steps_of groups) ≡ true → (before rest : List ℕ) → RowLaws groups before rest
