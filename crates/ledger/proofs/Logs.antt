-- The log of a run, one entry more at a time.
use Rattle.std.proofs.Common.{◌≡◌, ℕ, zero, suc, ◌+◌, ◌<◌, ◌≤◌, Bool, List, [], ◌∷◌, ◌++◌, map, length, get_or, take, set, refl, ap, ◌∙◌, subst, le_of_suc-le-suc, arith, length-set}
use mathlib.Core.Path.{subst⁻¹}
use Rattle.std.proofs.lemmas.List.{map-append, take_more_set, take_all}
use Rattle.station.specs.Steps.{Performed}
use Rattle.station.specs.Views.{View}
use Rattle.ledger.specs.Log.{call_of, event_of, calls_in, events_in, answer_left, work_left, Does}
use Rattle.ledger.specs.Laws.{Event, Run}
use Rattle.ledger.specs.declared.log.LentCall.{LentCall}
use Rattle.ledger.specs.declared.log.LogEntry.{LogEntry}
use Rattle.ledger.proofs.Lending.{noted, does_next, does_whole}
use Rattle.ledger.proofs.Runs.{run_more}

run_next : (answer work : ℕ) (u v x : View) (log : List LogEntry) (i : ℕ) (d : LogEntry) (ok : Bool) → i < length log
    → Run u (map (event_of answer work) (take i log)) v → Performed v (call_of answer work (get_or log i d).call) ok x
    → Run u (map (event_of answer work) (take (i + 1) (set log i (noted (get_or log i d) ok)))) x
run_next answer work u v x log i d ok lt run step =
    let e = noted (get_or log i d) ok in
    let split : map (event_of answer work) (take (i + 1) (set log i e)) ≡ map (event_of answer work)
    (take i log) ++ event_of answer work e ∷ [] =
    ap (map (event_of answer work)) (take_more_set log i e lt)
    ∙ map-append (event_of answer work) (take i log) (e ∷ [])
    in
    subst⁻¹ (λ (es : List Event). Run u es x) split
    (run_more u v x (map (event_of answer work) (take i log)) (event_of answer work e) run step)

calls_kept : (log : List LogEntry) (i : ℕ) (d : LogEntry) (ok : Bool) → i < length log →
    calls_in (set log i (noted (get_or log i d) ok)) ≡ calls_in log
calls_kept [] i d ok h = refl
calls_kept (e ∷ es) zero d ok h = refl
calls_kept (e ∷ es) (suc i) d ok h = ap (λ (r : List LentCall). e.call ∷ r) (calls_kept es i d ok (le_of_suc-le-suc h))

run_whole : (answer work : ℕ) (u f x : View) (log : List LogEntry) (i : ℕ) → u ≡ f → length log ≤ i →
    Run u (map (event_of answer work) (take i log)) x
    → Run f (map (event_of answer work) log) x
run_whole answer work u f x log i e h r =
    subst (λ (z : View). Run z (map (event_of answer work) log) x) e
    (subst (λ (es : List LogEntry). Run u (map (event_of answer work) es) x) (take_all i log h) r)

-- the first i calls of a log are done: they lead from the station u, with these bytes in the buffers, to v, a and w
pub record Begun (u : View) (answer work : List ℕ) (before log : List LogEntry) (i : ℕ) (v : View)
    (a w : List ℕ) : Type 0 where
  pub within : i ≤ length log
  pub run : Run u (events_in answer work (take i log)) v
  pub does : Does u answer work (take i log) v a w
  pub calls : calls_in log ≡ calls_in before

pub begun : (u : View) (answer work : List ℕ) (log : List LogEntry) → Begun u answer work log log 0 u answer work
begun u answer work log = record { within = omega arith; run = refl; does = (refl, refl, refl); calls = refl }

pub begun_next : (u v x : View) (answer work a w b z : List ℕ) (before log : List LogEntry) (i : ℕ) (n : LogEntry)
    (ok : Bool) → i < length log
    → length a ≡ length answer → length w ≡ length work
    → Begun u answer work before log i v a w
    → Performed v (call_of (length a) (length w) (get_or log i n).call) ok x
    → b ≡ answer_left v (get_or log i n).call a w → z ≡ work_left v (get_or log i n).call a w
    → Begun u answer work before (set log i (noted (get_or log i n) ok)) (i + 1) x b z
begun_next u v x answer work a w b z before log i n ok lt la lw h s p q =
    let step : Performed v (call_of (length answer) (length work) (get_or log i n).call) ok x =
    subst (λ (k : ℕ). Performed v (call_of k (length work) (get_or log i n).call) ok x) la
    (subst (λ (k : ℕ). Performed v (call_of (length a) k (get_or log i n).call) ok x) lw s)
    in
    record {
      within = subst⁻¹ (λ (k : ℕ). i + 1 ≤ k) (length-set log i (noted (get_or log i n) ok)) (omega (arith, lt));
      run = run_next (length answer) (length work) u v x log i n ok lt h.run step;
      does = does_next u v x answer work a w b z log i n ok lt h.does s p q;
      calls = calls_kept log i n ok lt ∙ h.calls;
    }

-- all of its calls
pub record Whole (u : View) (answer work : List ℕ) (log : List LogEntry) (x : View) (a w : List ℕ) : Type 0 where
  pub run : Run u (events_in answer work log) x
  pub does : Does u answer work log x a w

pub whole : (u f x : View) (answer work a w : List ℕ) (before log : List LogEntry) (i : ℕ) → u ≡ f →
    length log ≤ i → Begun u answer work before log i x a w → Whole f answer work log x a w
whole u f x answer work a w before log i e past h = record {
  run = run_whole (length answer) (length work) u f x log i e past h.run;
  does = does_whole u f x answer work a w log i e past h.does;
}
