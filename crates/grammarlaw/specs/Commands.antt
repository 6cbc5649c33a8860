-- The law of commands: letters, and what stands behind them. A body is what stands between the ESC and the LF;
-- its place is start.
--   WritesCommand p body start   the body is written from the command p, whose parts have their places in the job
--   RightCommand body            the body is right in its bytes, as some command
--   RefusedCommand body p        a part of the body, at its place p, is not admitted, and before it all is
--   BodySays                     what reading a body comes to
use Rattle.std.specs.Prelude.{◌≡◌, ℕ, ◌+◌, List, ◌∷◌, ◌++◌, length, Ok, Err, Result}
use Rattle.jobparts.specs.Parts.{not_admitted}
use Rattle.jobparts.specs.declared.part.ReadRefusal.{ReadRefusal}
use Rattle.jobparts.specs.declared.part.ReadRefusal.TheVariants.{OutOfBounds, AtEnd, NoEscape, NoEnding, UnknownLetters, WrongByte, NotAdmitted}
use Rattle.jobparts.specs.declared.part.Wrong.{Wrong}
use Rattle.jobgroups.specs.Commands.{CommandSeen}
use Rattle.jobgroups.specs.Table.{letters_of, parts_of}
use Rattle.jobgroups.specs.declared.letters.Letters.{Letters}
use Rattle.job.specs.Reading.{body_at}
use Rattle.grammarlaw.specs.Bodies.{BreaksAt}
use Rattle.grammarlaw.specs.Laws.{RightRow, RefusedRow, PlacedAt, WrittenAt}

pub record WritesCommand (p : CommandSeen) (body : List ℕ) (start : ℕ) : Type 0 where
  pub behind : List ℕ
  pub whole : body ≡ letters_of p.letters ++ behind
  pub parts : WrittenAt (parts_of p.letters) behind (start + length (letters_of p.letters)) p.parts

pub record RightCommand (body : List ℕ) : Type 0 where
  pub letters : Letters
  pub behind : List ℕ
  pub whole : body ≡ letters_of letters ++ behind
  pub right : RightRow (parts_of letters) behind

pub record RefusedCommand (body : List ℕ) (p : ℕ) : Type 0 where
  pub letters : Letters
  pub behind : List ℕ
  pub q : ℕ
  pub whole : body ≡ letters_of letters ++ behind
  pub refused : RefusedRow (parts_of letters) behind q
  pub place : p ≡ length (letters_of letters) + q

-- the body begins with the letters of no command
abbrev pub NoLetters : List ℕ → Type 0
NoLetters body = (letters : Letters) (behind : List ℕ) → body ≡ letters_of letters ++ behind → ⊥

abbrev pub BodyRefuses : List ℕ → ℕ → ReadRefusal → ℕ → Type 0
BodyRefuses body at OutOfBounds place = ⊥
BodyRefuses body at AtEnd place = ⊥
BodyRefuses body at NoEscape place = ⊥
BodyRefuses body at NoEnding place = ⊥
BodyRefuses body at UnknownLetters place = (place ≡ at) × NoLetters body
BodyRefuses body at WrongByte place = PlacedAt (BreaksAt RightCommand body) (at + 1) place
BodyRefuses body at NotAdmitted place = PlacedAt (RefusedCommand body) (at + 1) place

-- for a body behind an ESC at the place
abbrev pub BodySays : List ℕ → ℕ → Result CommandSeen Wrong → Type 0
BodySays body at (Ok p) = WritesCommand p body (at + 1)
BodySays body at (Err w) = BodyRefuses body at w.refusal w.place

pub record BodyLaws (before body : List ℕ) : Type 0 where
  pub says : BodySays body (length before) (body_at (before ++ (27 ∷ body)) (length before))
  pub written :
      (p : CommandSeen) → WritesCommand p body (length before + 1)
      → body_at (before ++ (27 ∷ body)) (length before) ≡ Ok p
  pub refused :
      (p : ℕ) → RefusedCommand body p →
      body_at (before ++ (27 ∷ body)) (length before) ≡ Err (not_admitted (length before + 1 + p))

-- a body breaks at one place at most, and not where it is right
pub record OnePlace (body : List ℕ) : Type 0 where
  pub one : (p q : ℕ) → BreaksAt RightCommand body p → BreaksAt RightCommand body q → p ≡ q
  pub right : RightCommand body → (p : ℕ) → BreaksAt RightCommand body p → ⊥
