-- What the listener of a job hears. R k t w m: a listener k that hears of the step t, while the work buffer holds
-- w, becomes m.
--   HearsAll R .. h k m   a listener k that hears of each step of h, once and in turn, with the work buffer as the
--                     step left it, becomes m
--   HearsFirst R l k m    so does one that hears of the steps of l but for its last
--   Heard R l k m         so does one that hears of all the steps of l, its last included
--   WorkedThrough R u job answer work k r e l   the job, from the new station u with these bytes in the two
--                     buffers, led to e, and its listener from k to l. With a count r it is over: it printed so
--                     many tags, and the listener heard of every step. With a failure the listener gave up at the
--                     last of the steps
use Rattle.std.specs.Prelude.{◌≡◌, ℕ, true, List, [], ◌∷◌, IfOk, Result}
use Rattle.station.specs.Views.{View}
use Rattle.jobrun.specs.Stages.{Moment}
use Rattle.jobrun.specs.Jobs.{place_after, is_last, tags_in, Stages, Led}
use Rattle.jobrun.specs.Calls.{Booked}
use Rattle.jobrun.specs.declared.stage.Stage.{Stage}

abbrev pub HearsAll : {K : Type 0} → (K → Stage → List ℕ → K → Type 0) →
    (job : List ℕ) (at : ℕ) (d : Moment) (ts : List Stage) (p : ℕ) (e : Moment) → Stages job at d ts p e → K →
    K → Type 0
HearsAll R job at d [] p e h k m = m ≡ k
HearsAll {K} R job at d (t ∷ ts) p e h k m = (l : K) × R k t h.0.work l × HearsAll R job (place_after t at) h.0
    ts p e h.3 l m

abbrev pub HearsFirst : {K : Type 0} {job : List ℕ} {d : Moment} {ts : List Stage} {t : Stage} {e : Moment} →
    (K → Stage → List ℕ → K → Type 0) → Led job d ts t e → K → K → Type 0
HearsFirst {job = job} {d = d} {ts = ts} R l k m = HearsAll R job 0 d ts l.place l.before l.stages k m

abbrev pub Heard : {K : Type 0} {job : List ℕ} {d : Moment} {ts : List Stage} {t : Stage} {e : Moment} →
    (K → Stage → List ℕ → K → Type 0) → Led job d ts t e → K → K → Type 0
Heard {K} {t = t} {e = e} R l k m = (n : K) × HearsFirst R l k n × R n t e.work m

pub record WorkedThrough {K E : Type 0} (R : K → Stage → List ℕ → K → Type 0) (u : View)
    (job answer work : List ℕ) (k : K) (r : Result ℕ E) (e : Moment) (l : K) : Type 0 where
  pub steps : List Stage
  pub last : Stage
  pub booked : Booked u job answer work steps last e
  pub heard : K
  pub hears : HearsFirst R booked.led k heard
  pub over : IfOk r (λ tags. (tags ≡ tags_in steps) × (is_last last ≡ true) × R heard last e.work l)
