-- A whole job on a station.
--   is_last t         the step t ends the job
--   place_after t at  the place where the job goes on after the step t at a place
--   Stages job at d ts p e   the steps ts, none of which ends the job, lead from d at a place to e at the place p
--   Led job d ts t e  the steps ts from the beginning of the job, none of which ends it, and then the step t lead
--                     from d to e
--   Worked job d ts e the steps ts from the beginning of the job, and then one that ends it, lead from d to e
--   tags_in ts        the tags that the printer took in the steps
use Rattle.std.specs.Prelude.{◌≡◌, ℕ, ◌+◌, Bool, true, false, List, [], ◌∷◌}
use Rattle.jobrun.specs.Stages.{Moment, Staged}
use Rattle.jobrun.specs.declared.stage.Stage.{Stage}
use Rattle.jobrun.specs.declared.stage.Stage.TheVariants.{Tag, Done, Refused, Ended, NoStock}

abbrev pub is_last : Stage → Bool
is_last (Tag n) = false
is_last (Done next) = false
is_last (Refused f) = false
is_last (Ended f) = true
is_last (NoStock f) = true

abbrev pub place_after : Stage → ℕ → ℕ
place_after (Tag n) at = at
place_after (Done next) at = next
place_after (Refused f) at = f.next
place_after (Ended f) at = at
place_after (NoStock f) at = at

abbrev pub tag_in : Stage → ℕ
tag_in (Tag n) = 1
tag_in (Done next) = 0
tag_in (Refused f) = 0
tag_in (Ended f) = 0
tag_in (NoStock f) = 0

abbrev pub tags_in : List Stage → ℕ
tags_in [] = 0
tags_in (t ∷ ts) = tag_in t + tags_in ts

abbrev pub Stages : List ℕ → ℕ → Moment → List Stage → ℕ → Moment → Type 0
Stages job at d [] p e = (p ≡ at) × (e ≡ d)
Stages job at d (t ∷ ts) p e = (m : Moment) × Staged job at d t m × (is_last t ≡ false) × Stages job
    (place_after t at) m ts p e

pub record Led (job : List ℕ) (d : Moment) (ts : List Stage) (t : Stage) (e : Moment) : Type 0 where
  pub place : ℕ
  pub before : Moment
  pub stages : Stages job 0 d ts place before
  pub step : Staged job place before t e

pub record Worked (job : List ℕ) (d : Moment) (ts : List Stage) (e : Moment) : Type 0 where
  pub last : Stage
  pub led : Led job d ts last e
  pub over : is_last last ≡ true
