-- That a job has one outcome, whichever printer it is done on, and whatever the buffers hold that it is lent.
--   SameFront a a' b b'   the same front was written into the bytes a and b, which are a' and b' now: behind it
--                     they are as they were
--   Same d x e y      x and y, come to from d and e, show the same but for the printer's paper, and the same was
--                     written into the buffers
--   InStep job d e    the job takes one course from d and from e. After equally many steps these are the same, the
--                     place is the same, and the moments show the same; a tag's line is the same; and after the
--                     same steps it is over
--   OneOutcome        a job takes one course on any two new stations that differ in their printers alone, with any
--                     buffers that are long enough, whatever they hold. The printers may be of any two kinds, with
--                     any stock, whatever takes and reloads make of it; each has to be far enough from its last tag
use Rattle.std.specs.Prelude.{◌≡◌, ℕ, ◌+◌, ◌<◌, ◌≤◌, Bool, true, cond, List, ◌++◌, length, take, drop, nat_lt}
use Rattle.limits.specs.Limits.{longest_job, last_tag}
use Rattle.texts.specs.Wheels.{Wheels}
use Rattle.stores.specs.Forms.{Forms}
use Rattle.printers.specs.Paper.{Paper, unused}
use Rattle.station.specs.Steps.{answer_bytes, work_bytes, short_buffers, most_ordered}
use Rattle.station.specs.Views.{View, made, with_paper}
use Rattle.jobrun.specs.Stages.{Moment, moment, Staged}
use Rattle.jobrun.specs.Jobs.{Stages, Worked}
use Rattle.jobrun.specs.declared.stage.Stage.{Stage}
use Rattle.jobrun.specs.declared.stage.Stage.TheVariants.{Tag}

-- what can be seen of a station, its printer set aside
abbrev pub unprinted : View → View
unprinted v = with_paper (unused 0) v

pub record SameFront (a a' b b' : List ℕ) : Type 0 where
  pub front : List ℕ
  pub fits : length front ≤ length a
  pub fits' : length front ≤ length b
  pub one : a' ≡ front ++ drop (length front) a
  pub other : b' ≡ front ++ drop (length front) b

pub record Same (d x e y : Moment) : Type 0 where
  pub view : unprinted x.view ≡ unprinted y.view
  pub answer : SameFront d.answer x.answer e.answer y.answer
  pub work : SameFront d.work x.work e.work y.work

pub record InStep (job : List ℕ) (d e : Moment) : Type 0 where
  pub along : (ts us : List Stage) (p q : ℕ) (x y : Moment) → length ts ≡ length us → Stages job 0 d ts p x →
      Stages job 0 e us q y
      → (ts ≡ us) × (p ≡ q) × Same d x e y
  -- the line of a tag that comes next
  pub lines : (ts us : List Stage) (p q : ℕ) (x y : Moment) → length ts ≡ length us → Stages job 0 d ts p x →
      Stages job 0 e us q y
      → (n k : ℕ) (x' y' : Moment) → Staged job p x (Tag n) x' → Staged job q y (Tag k) y' →
      take n x'.work ≡ take k y'.work
  pub whole : (ts us : List Stage) (x y : Moment) → Worked job d ts x → Worked job e us y → (ts ≡ us) × Same d x e y

-- the job is too long, or a buffer too short
abbrev pub cannot_begin : List ℕ → Moment → Bool
cannot_begin job d = cond (nat_lt longest_job (length job)) true (short_buffers (length d.answer) (length d.work))

-- as far as the bytes needed go: each buffer is long enough in both, or too short in both
pub record AsLong (d e : Moment) : Type 0 where
  pub answer : nat_lt (length d.answer) answer_bytes ≡ nat_lt (length e.answer) answer_bytes
  pub work : nat_lt (length d.work) work_bytes ≡ nat_lt (length e.work) work_bytes

abbrev pub OneOutcome : Type 0
OneOutcome =
    (forms : Forms) (paper paper' : Paper) (first second : Wheels)
    → paper.taken + most_ordered < last_tag
    → paper'.taken + most_ordered < last_tag
    → (job answer work answer' work' : List ℕ)
    → AsLong (moment (made forms paper first second) answer work)
    (moment (made forms paper' first second) answer' work')
    → InStep job (moment (made forms paper first second) answer work)
    (moment (made forms paper' first second) answer' work')
