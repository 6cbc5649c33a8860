-- What a job prints is told by one number, whatever the stock.
use Rattle.std.proofs.Common.{◌≡◌, ℕ, true, List, IfOk, Ok, Err, Result, sym, refl, ap, ◌∙◌, subst, arith}
use Rattle.stores.specs.Forms.{Forms}
use Rattle.printers.specs.Paper.{Paper, unused}
use Rattle.station.specs.Views.{View, made}
use Rattle.jobrun.specs.Stages.{Moment, moment}
use Rattle.jobrun.specs.Jobs.{is_last, tags_in}
use Rattle.jobrun.specs.Calls.{Booked}
use Rattle.jobrun.specs.Hearing.{Heard, WorkedThrough}
use Rattle.jobrun.specs.declared.stage.Stage.{Stage}
use Rattle.jobrun.specs.Outcomes.{AsLong, InStep, OneOutcome}
use Rattle.jobrun.proofs.Begin.{nothing_done}
use Rattle.shop_job.specs.Printing.{roll_tags, new_store, new_station, plain, code128, at_start, Prints, Told}

-- a new printer is far enough from its last tag
in_step : OneOutcome → (stock : ℕ) (job answer work a w : List ℕ) →
    AsLong (at_start stock a w) (at_start roll_tags answer work)
    → InStep job (at_start stock a w) (at_start roll_tags answer work)
in_step outcome stock job answer work a w long =
    outcome new_store (unused stock) (unused roll_tags) plain code128 (omega arith) (omega arith) job a w
    answer work long

module _ (job answer work : List ℕ) (tags : ℕ) (x : View) (answer' work' : List ℕ) where
  abbrev end : Moment
  end = moment x answer' work'

  abbrev told : OneOutcome → (ts : List Stage) (t : Stage) →
      Booked (new_station roll_tags) job answer work ts t end → tags ≡ tags_in ts → is_last t ≡ true
      → Told job answer work tags answer' work'
  told outcome ts t b counted over =
      let p : Prints roll_tags job answer work tags answer' work' =
      record { stages = ts; final = x; counted = counted; worked = record { last = t; led = b.led; over = over } }
      in
      record {
        prints = p;
        booked = b;
        only = λ stock n a w a' w' long q.
            let one = (in_step outcome stock job answer work a w long).whole q.stages p.stages
            (moment q.final a' w') end q.worked p.worked in
            (q.counted ∙ ap tags_in one.0 ∙ sym p.counted, one.1.answer, one.1.work);
        lines = λ stock a w long. in_step outcome stock job answer work a w long;
        nothing = λ cannot.
            let none = nothing_done job (at_start roll_tags answer work) cannot refl ts b.led.place
            b.led.before end t b.led.stages b.led.step in
            (counted ∙ none.0, none.1, none.2);
      }

-- what working through a job tells, on a new station, and to a listener
module _ {K E : Type 0} (R : K → Stage → List ℕ → K → Type 0) (job answer work : List ℕ) (x : View)
    (answer' work' : List ℕ) (k l : K) (r : Result ℕ E) where
  known : OneOutcome → (o : Result ℕ E) →
      WorkedThrough R (new_station roll_tags) job answer work k o (moment x answer' work') l
      → IfOk o (λ tags. (t : Told job answer work tags answer' work') × Heard R t.booked.led k l)
  known outcome (Ok tags) h = (
    told job answer work tags x answer' work' outcome h.steps h.last h.booked h.over.0 h.over.1,
    (h.heard, h.hears, h.over.2),
  )
  known outcome (Err e) h = tt

  pub told_of : OneOutcome → (forms : Forms) (paper : Paper) → forms ≡ new_store → paper ≡ unused roll_tags
      → WorkedThrough R (made forms paper plain code128) job answer work k r (moment x answer' work') l
      → IfOk r (λ tags. (t : Told job answer work tags answer' work') × Heard R t.booked.led k l)
  told_of outcome forms paper f p h =
      known outcome r
      (subst (λ (q : Paper). WorkedThrough R (made new_store q plain code128) job answer work k r
      (moment x answer' work') l) p
      (subst (λ (q : Forms). WorkedThrough R (made q paper plain code128) job answer work k r
      (moment x answer' work') l) f h))
