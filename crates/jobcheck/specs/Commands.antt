-- What the checker hears of a job.
--   heard_of t at   what the step t tells of the command at a place: the command with its refusal or none. A tag
--                   and the job's end tell nothing
--   Hears f t g     the findings f, after the step t, become g: what the step tells comes behind all that was
--                   told, and the place goes on with the job
use Rattle.std.specs.Prelude.{◌≡◌, ℕ, if◌then◌else◌, List, [], ◌∷◌, ◌++◌, Option, Some, None, ◌==◌}
use Rattle.faults.specs.Numbers.{number_of}
use Rattle.jobrun.specs.Jobs.{place_after}
use Rattle.jobrun.specs.declared.stage.Stage.{Stage}
use Rattle.jobrun.specs.declared.stage.Stage.TheVariants.{Tag, Done, Refused, Ended, NoStock}
use Rattle.jobcheck.specs.declared.findings.Findings.{Findings}
use Rattle.jobcheck.specs.declared.findings.Heard.{Heard}

abbrev pub heard_of : Stage → ℕ → Option Heard
heard_of (Tag n) at = None
heard_of (Done next) at = Some (record { at = at; fault = None })
heard_of (Refused f) at = Some (record { at = at; fault = Some f })
heard_of (Ended f) at = if number_of f.refusal == 3 then None else Some (record { at = at; fault = Some f })
heard_of (NoStock f) at = None

abbrev pub listed : Option Heard → List Heard
listed None = []
listed (Some heard) = heard ∷ []

pub record Hears (before : Findings) (step : Stage) (after : Findings) : Type 0 where
  pub place : after.at ≡ place_after step before.at
  pub commands : after.heard.items ≡ before.heard.items ++ listed (heard_of step before.at)
