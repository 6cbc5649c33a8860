-- One step of a job on a station.
--   Moment            what can be seen of a station, and what its answer and its work buffer hold
--   ends f            a fault at which a job is over: of its bounds, of the buffers, or at its end
--   Sent d job at r e the command at a place of a job, sent at d, answers r and leaves e
--   Taken d n e       a print at d is accepted; it tells the line's length n and leaves e
--   tag_next d        a tag comes next
--   Staged job at d t e   the step t of a job at a place leads from d to e: a tag that is owed comes before the
--                     next command, and a reload where the printer is out of stock. With too short a work buffer no
--                     tag comes: the command at the place is refused for it
use Rattle.std.specs.Prelude.{◌≡◌, ℕ, Bool, true, false, cond, List, length, Some, None, Ok, Err, Option, Result, nat_le, nat_lt}
use Rattle.faults.specs.Numbers.{number_of}
use Rattle.faults.specs.declared.Fault.{Fault}
use Rattle.stores.specs.Forms.{Lawful}
use Rattle.station.specs.Steps.{work_bytes, commanded, Commanded, answer_after, work_after, print_fault, Printing, next_line, print_work, Reloaded}
use Rattle.station.specs.Views.{View, owed_by}
use Rattle.jobrun.specs.declared.stage.Stage.{Stage}
use Rattle.jobrun.specs.declared.stage.Stage.TheVariants.{Tag, Done, Refused, Ended, NoStock}

pub record Moment : Type 0 where
  pub view : View
  pub answer : List ℕ
  pub work : List ℕ

abbrev pub ends : Fault → Bool
ends f = nat_le (number_of f.refusal) 3

abbrev pub moment : View → List ℕ → List ℕ → Moment
moment v answer work = record { view = v; answer = answer; work = work }

pub record Sent (job : List ℕ) (at : ℕ) (d : Moment) (r : Result ℕ Fault) (e : Moment) : Type 0 where
  pub step : Commanded (commanded d.view job at (length d.answer) (length d.work)) r d.view e.view
  pub answer : e.answer ≡ answer_after d.view job at d.answer (length d.work)
  pub work : e.work ≡ work_after d.view job at (length d.answer) d.work
  pub store : Lawful d.view.forms

pub record Taken (d : Moment) (n : ℕ) (e : Moment) : Type 0 where
  pub step : Printing d.view (length d.work) (Ok n) e.view
  pub answer : e.answer ≡ d.answer
  pub work : e.work ≡ print_work None (next_line d.view) d.work
  pub long : length e.work ≡ length d.work

abbrev pub Sending : List ℕ → ℕ → Moment → Stage → Moment → Type 0
Sending job at d (Tag n) e = ⊥
Sending job at d (Done next) e = Sent job at d (Ok next) e
Sending job at d (Refused f) e = Sent job at d (Err f) e × (ends f ≡ false)
Sending job at d (Ended f) e = Sent job at d (Err f) e × (ends f ≡ true)
Sending job at d (NoStock f) e = ⊥

abbrev pub with_view : View → Moment → Moment
with_view v d = record d { view = v }

-- a reload, and then a print: it is accepted, or the reload brought no stock
abbrev pub Again : Moment → Stage → Moment → Type 0
Again d (Tag n) e = (m : View) × Reloaded d.view m × Taken (with_view m d) n e
Again d (Done next) e = ⊥
Again d (Refused f) e = ⊥
Again d (Ended f) e = ⊥
Again d (NoStock f) e =
    Reloaded d.view e.view × (print_fault e.view (length d.work) ≡ Some f) × (e.answer ≡ d.answer) × (e.work ≡ d.work)

-- a tag that is owed: its print is accepted, or comes again after a reload
abbrev pub Tagging : Option Fault → Moment → Stage → Moment → Type 0
Tagging None d t e = (n : ℕ) × (t ≡ Tag n) × Taken d n e
Tagging (Some f) d t e = Again d t e

-- labels are owed, and the work buffer has room for a tag's line
abbrev pub tag_next : Moment → Bool
tag_next d = cond (nat_lt (length d.work) work_bytes) false (nat_lt 0 (owed_by d.view))

abbrev pub StagedBy : Bool → List ℕ → ℕ → Moment → Stage → Moment → Type 0
StagedBy true job at d t e = Tagging (print_fault d.view (length d.work)) d t e
StagedBy false job at d t e = Sending job at d t e

abbrev pub Staged : List ℕ → ℕ → Moment → Stage → Moment → Type 0
Staged job at d t e = StagedBy (tag_next d) job at d t e
