-- The law of reading at a place of a job.
--   FreeOf b bs   no byte of bs is b
--   Framed        at the place stands a command's frame: an ESC, a body with no LF, the LF that is the first,
--                 and NUL; all are no more bytes than a command may have
--   ReadSays      what reading at the place comes to
--   ReadLaws      that it says so, that each command that is written is read, and that each part that is not
--                 admitted is told
--   Reading       the same of what reading is defined to answer
use Rattle.std.specs.Prelude.{◌≡◌, ◌<◌, ◌≤◌, ℕ, ◌+◌, List, [], ◌∷◌, ◌++◌, length, ◌⊎◌, Ok, Err, Result, slice_index}
use Rattle.limits.specs.Limits.{longest_job, longest_command}
use Rattle.jobparts.specs.declared.part.ReadRefusal.{ReadRefusal}
use Rattle.jobparts.specs.declared.part.ReadRefusal.TheVariants.{OutOfBounds, AtEnd, NoEscape, NoEnding, UnknownLetters, WrongByte, NotAdmitted}
use Rattle.jobgroups.specs.Commands.{CommandSeen}
use Rattle.job.specs.Reading.{read_at, answer_of, next_of}
use Rattle.job.specs.declared.fault.ReadFault.{ReadFault}
use Rattle.grammarlaw.specs.Bodies.{BreaksAt}
use Rattle.grammarlaw.specs.Commands.{WritesCommand, RightCommand, RefusedCommand, NoLetters}
use Rattle.grammarlaw.specs.Laws.{PlacedAt}

abbrev pub FreeOf : ℕ → List ℕ → Type 0
FreeOf b [] = Unit {0}
FreeOf b (c ∷ bs) = (c ≡ b → ⊥) × FreeOf b bs

pub record Framed (job : List ℕ) (at : ℕ) (body : List ℕ) : Type 0 where
  pub before : List ℕ
  pub after : List ℕ
  pub whole : job ≡ before ++ (27 ∷ (body ++ (10 ∷ 0 ∷ after)))
  pub place : at ≡ length before
  pub free : FreeOf 10 body
  pub short : length body + 3 ≤ longest_command

-- a frame stands at the place, and of its body this is true
pub record InFrame (P : List ℕ → Type 0) (job : List ℕ) (at next : ℕ) : Type 0 where
  pub body : List ℕ
  pub frame : Framed job at body
  pub behind : next ≡ at + length body + 3
  pub here : P body

abbrev pub ReadRefuses : List ℕ → ℕ → ReadRefusal → ℕ → ℕ → Type 0
ReadRefuses job at OutOfBounds place next = (longest_job < length job) ⊎ (length job < at)
ReadRefuses job at AtEnd place next = at ≡ length job
ReadRefuses job at NoEscape place next = (at < length job) × (slice_index job at ≡ 27 → ⊥)
ReadRefuses job at NoEnding place next = (slice_index job at ≡ 27) × ((body : List ℕ) → Framed job at body → ⊥)
ReadRefuses job at UnknownLetters place next = InFrame (λ body. (place ≡ at) × NoLetters body) job at next
ReadRefuses job at WrongByte place next =
    InFrame (λ body. PlacedAt (BreaksAt RightCommand body) (at + 1) place) job at next
ReadRefuses job at NotAdmitted place next = InFrame (λ body. PlacedAt (RefusedCommand body) (at + 1) place) job
    at next

-- for the answer, and the place where reading goes on
abbrev pub ReadSays : List ℕ → ℕ → ℕ → Result CommandSeen ReadFault → Type 0
ReadSays job at next (Ok p) = InFrame (λ body. WritesCommand p body (at + 1)) job at next
ReadSays job at next (Err e) = ReadRefuses job at e.refusal e.place next

pub record ReadLaws (job : List ℕ) (at : ℕ) (answer : Result CommandSeen ReadFault) (next : ℕ) : Type 0 where
  pub says : ReadSays job at next answer
  pub written :
      (before body after : List ℕ) → job ≡ before ++ (27 ∷ (body ++ (10 ∷ 0 ∷ after))) → at ≡ length before →
      length job ≤ longest_job → length body + 3 ≤ longest_command → (p : CommandSeen) → WritesCommand p body (at + 1) →
      (answer ≡ Ok p) × (next ≡ at + length body + 3)
  pub refused :
      length job ≤ longest_job → (body : List ℕ) → Framed job at body → (p : ℕ) → RefusedCommand body p →
      answer ≡ Err (record { refusal = NotAdmitted; place = at + 1 + p; next = at + length body + 3 })

-- the law of what reading is defined to answer
abbrev pub Reading : Type 0
Reading = (job : List ℕ) (at : ℕ) → ReadLaws job at (answer_of (read_at job at)) (next_of (read_at job at))
