-- The calls that a job makes on a new station, and the tag ledger's account of them.
--   CallsOf job at a w t es   the calls es are those of the step t at a place of the job, with an answer buffer of
--                     a bytes and a work buffer of w bytes: a print that is accepted, or one that is refused, a
--                     reload and a print; or, with no tag to take, the command at the place alone
--   Makes job at d t es e   the calls es are those of the step t, and lead from the station at d to that at e
--   MakesAll .. h es  the calls es are those of the steps of h, one step's behind another's, and lead from each
--                     moment of h to the next
--   Booked u job answer work ts t e   a job that made the steps ts and then t, from the new station u with these
--                     bytes in the two buffers, made calls of which the promise of a run speaks: before the first
--                     call and after each the ledger accounts for every tag and the history tells of the station,
--                     and both have the tags of the steps at the end
use Rattle.std.specs.Prelude.{◌≡◌, ℕ, ◌+◌, true, false, List, [], ◌∷◌, ◌++◌, length, ◌⊎◌}
use Rattle.station.specs.Steps.{Call, command, print, reload}
use Rattle.station.specs.Views.{View}
use Rattle.ledger.specs.Laws.{Event, Run, AllAccounted, fed}
use Rattle.ledger.specs.Ledgers.{opened}
use Rattle.ledger.specs.Told.{AllTold, history_after}
use Rattle.ledger.specs.Words.{tags}
use Rattle.jobrun.specs.Stages.{Moment, moment}
use Rattle.jobrun.specs.Jobs.{place_after, tag_in, tags_in, Stages, Led}
use Rattle.jobrun.specs.declared.stage.Stage.{Stage}
use Rattle.jobrun.specs.declared.stage.Stage.TheVariants.{Tag, Done, Refused, Ended, NoStock}

abbrev pub accepted : Call → Event
accepted c = record { call = c; accepted = true }

abbrev pub refused : Call → Event
refused c = record { call = c; accepted = false }

abbrev pub CallsOf : List ℕ → ℕ → ℕ → ℕ → Stage → List Event → Type 0
CallsOf job at a w (Tag n) es = (es ≡ accepted (print w) ∷ []) ⊎
    (es ≡ refused (print w) ∷ accepted reload ∷ accepted (print w) ∷ [])
CallsOf job at a w (Done next) es = es ≡ accepted (command job at a w) ∷ []
CallsOf job at a w (Refused f) es = es ≡ refused (command job at a w) ∷ []
CallsOf job at a w (Ended f) es = es ≡ refused (command job at a w) ∷ []
CallsOf job at a w (NoStock f) es = es ≡ refused (print w) ∷ accepted reload ∷ refused (print w) ∷ []

pub record Makes (job : List ℕ) (at : ℕ) (d : Moment) (t : Stage) (es : List Event) (e : Moment) : Type 0 where
  pub calls : CallsOf job at (length d.answer) (length d.work) t es
  pub run : Run d.view es e.view

abbrev pub MakesAll : (job : List ℕ) (at : ℕ) (d : Moment) (ts : List Stage) (p : ℕ) (e : Moment) →
    Stages job at d ts p e → List Event → Type 0
MakesAll job at d [] p e h es = es ≡ []
MakesAll job at d (t ∷ ts) p e h es =
    (fs : List Event) × (gs : List Event) × (es ≡ fs ++ gs) × Makes job at d t fs h.0 × MakesAll job
    (place_after t at) h.0 ts p e h.3 gs

pub record Booked (u : View) (job answer work : List ℕ) (ts : List Stage) (t : Stage) (e : Moment) : Type 0 where
  pub led : Led job (moment u answer work) ts t e
  pub calls : List Event
  pub last_calls : List Event
  pub steps : MakesAll job 0 (moment u answer work) ts led.place led.before led.stages calls
  pub last_step : Makes job led.place led.before t last_calls e
  pub throughout : AllAccounted u (calls ++ last_calls) e.view
  pub told : AllTold u (calls ++ last_calls) e.view
  pub tagged : tags (history_after [] (calls ++ last_calls)) ≡ tags_in ts + tag_in t
  pub taken : (fed u.first u.second (opened u.forms.at) (calls ++ last_calls)).taken ≡ tags_in ts + tag_in t
