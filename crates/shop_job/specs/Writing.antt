-- What is written of a job.
--   written_for t work   for a step, with the work buffer as it left it: a tag's line, a refusal's line, and
--                     nothing for the job's end and all else
--   written_by l         for all steps of the job l, one behind the other
use Rattle.std.specs.Prelude.{ℕ, cond, List, [], ◌∷◌, ◌++◌, take, ◌==◌}
use Rattle.faults.specs.Numbers.{number_of}
use Rattle.jobrun.specs.Stages.{Moment}
use Rattle.jobrun.specs.Jobs.{place_after, Stages, Led}
use Rattle.jobrun.specs.declared.stage.Stage.{Stage}
use Rattle.jobrun.specs.declared.stage.Stage.TheVariants.{Tag, Done, Refused, Ended, NoStock}
use Rattle.shop_job.specs.Refusals.{refusal_line}

abbrev pub written_for : Stage → List ℕ → List ℕ
written_for (Tag n) work = take n work
written_for (Done next) work = []
written_for (Refused f) work = refusal_line f
written_for (Ended f) work = cond (number_of f.refusal == 3) [] (refusal_line f)
written_for (NoStock f) work = []

abbrev pub written_in : (job : List ℕ) (at : ℕ) (d : Moment) (ts : List Stage) (p : ℕ) (e : Moment) →
    Stages job at d ts p e → List ℕ
written_in job at d [] p e h = []
written_in job at d (t ∷ ts) p e h = written_for t h.0.work ++ written_in job (place_after t at) h.0 ts p e h.3

abbrev pub written_by : {job : List ℕ} {d : Moment} {ts : List Stage} {t : Stage} {e : Moment} →
    Led job d ts t e → List ℕ
written_by {job = job} {d = d} {ts = ts} {t = t} {e = e} l =
    written_in job 0 d ts l.place l.before l.stages ++ written_for t e.work
