-- One step more of a job on a new station: the count fits, less is left to do, and the ledger accounts for it.
use Rattle.std.proofs.Common.{◌≡◌, ℕ, ◌+◌, ◌<◌, ◌≤◌, true, false, List, [], ◌∷◌, ◌++◌, Ok, Err, refl, subst, arith}
use mathlib.Core.Path.{subst⁻¹}
use Rattle.station.specs.Steps.{most_ordered}
use Rattle.station.specs.Views.{View, IsNew}
use Rattle.ledger.proofs.Reading.{reader}
use Rattle.ledger.proofs.Runs.{all_accounted}
use Rattle.ledger.proofs.Telling.{all_told}
use Rattle.jobrun.specs.Stages.{Moment, moment, Staged, with_view}
use Rattle.jobrun.specs.Jobs.{is_last, place_after, tag_in, tags_in, Stages}
use Rattle.jobrun.specs.Calls.{Booked}
use Rattle.jobrun.specs.Hearing.{HearsAll, WorkedThrough}
use Rattle.jobrun.specs.declared.stage.Stage.{Stage}
use Rattle.jobrun.proofs.Calls.{Calls, StepCalls, TurnsCalls, turns_make, turns_more, hears_more, tags_more, step_makes, step_calls, calls_append, few_tags, taken_so_far, tagged}
use Rattle.jobrun.proofs.Effort.{effort, falls}

-- a job on a new station, its steps ts so far, of which a listener k heard and is now l
module _ {K : Type 0} (R : K → Stage → List ℕ → K → Type 0) (job : List ℕ) (start : Moment) (k : K) where
  pub record SoFar (tags at : ℕ) (d : Moment) (l : K) : Type 0 where
    pub steps : List Stage
    pub counted : tags ≡ tags_in steps
    pub stages : Stages job 0 start steps at d
    pub heard : HearsAll R job 0 start steps at d stages k l

  -- before the first step
  pub begun : SoFar 0 0 start k
  begun = record { steps = []; counted = refl; stages = (refl, refl); heard = refl }

  -- and the next step t
  module _ (u : View) (new : IsNew u) (is : start.view ≡ u) (tags at : ℕ) (d e : Moment) (l : K)
      (h : SoFar tags at d l) (t : Stage) (s : Staged job at d t e) where
    abbrev pub first : Moment
    first = moment u start.answer start.work

    abbrev pub moved : (stages : Stages job 0 first h.steps at d) × HearsAll R job 0 first h.steps at d stages k l
    moved = subst
        (λ (v : View). (stages : Stages job 0 (with_view v start) h.steps at d) × HearsAll R job 0
        (with_view v start) h.steps at d stages k l) is (h.stages, h.heard)

    abbrev pub earlier : TurnsCalls job 0 first h.steps at d moved.0
    earlier = turns_make job 0 at first d h.steps moved.0

    abbrev pub latest : StepCalls job at d t e
    latest = step_makes job at d e t s

    abbrev pub after : Calls u (tags_in h.steps + tag_in t) e.view
    after = calls_append u d.view e.view (tags_in h.steps) (tag_in t) earlier.calls (step_calls job at d e t s)

    abbrev pub booked : Booked u job start.answer start.work h.steps t e
    booked = record {
      led = record { place = at; before = d; stages = moved.0; step = s };
      calls = earlier.calls.events;
      last_calls = latest.events;
      steps = earlier.makes;
      last_step = latest.makes;
      throughout = all_accounted reader u e.view after.events new after.run;
      told = all_told reader u e.view after.events new after.run;
      tagged = tagged u new (tags_in h.steps + tag_in t) e.view after;
      taken = taken_so_far u new (tags_in h.steps + tag_in t) e.view after;
    }

    -- the listener gives up at it
    pub given_up : {E : Type 0} (why : E) (m : K) → WorkedThrough R u job start.answer start.work k (Err why) e m
    given_up why m = record { steps = h.steps; last = t; booked = booked; heard = l; hears = moved.1; over = tt }

    -- it is the last
    pub over : {E : Type 0} (m : K) → is_last t ≡ true → R l t e.work m →
        WorkedThrough {E = E} R u job start.answer start.work k (Ok tags) e m
    over m last r =
        record { steps = h.steps; last = t; booked = booked; heard = l; hears = moved.1; over = (h.counted, last, r) }

    module _ (p n : ℕ) (one : n ≡ tag_in t) (place : p ≡ place_after t at) (more : is_last t ≡ false) where
      pub fits : tags + n ≤ most_ordered
      fits = let few = few_tags u new (tags_in h.steps + tag_in t) e.view after in omega (arith, few, h.counted, one)

      pub less : effort job p e.view < effort job at d.view
      less = subst⁻¹ (λ (k : ℕ). effort job k e.view < effort job at d.view) place
          (falls u new job at d e (tags_in h.steps) (tags_in h.steps + tag_in t) earlier.calls after t more s)

      pub again : (o : K) → R l t e.work o → SoFar (tags + n) p e o
      again o r =
          let sum = tags_more h.steps t in
          let counted = h.counted in
          let us = h.steps ++ t ∷ [] in
          let to = turns_more job 0 at start d e h.steps t h.stages s more in
          let both : (stages : Stages job 0 start us p e) × HearsAll R job 0 start us p e stages k o =
          subst⁻¹ (λ (q : ℕ). (stages : Stages job 0 start us q e) × HearsAll R job 0 start us q e stages k o)
          place (to, hears_more R job 0 at start d e h.steps t h.stages s more k l o h.heard r)
          in
          record { steps = us; counted = omega (arith, sum, counted, one); stages = both.0; heard = both.1 }
