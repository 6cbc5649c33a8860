-- The steps of a job are calls of a run, so what holds throughout runs holds throughout jobs.
use Rattle.std.proofs.Common.{◌≡◌, ℕ, ◌+◌, ◌≤◌, Bool, true, false, List, [], ◌∷◌, ◌++◌, length, Some, None, Ok, Err, Option, Result, inl, inr, sym, refl, ap, subst, arith}
use mathlib.Core.Path.{subst⁻¹}
use Rattle.faults.specs.declared.Fault.{Fault}
use Rattle.texts.specs.Wheels.{Wheels}
use Rattle.jobgroups.specs.Commands.{CommandSeen}
use Rattle.station.specs.Reads.{read_at, Misread}
use Rattle.station.specs.Requests.{Request, on_label, issue, begin_saving, end_saving, recall, empty_store, tell_status, reset, request_of}
use Rattle.station.specs.Steps.{Call, command, print, reload, whole_at, print_fault, most_ordered}
use Rattle.station.specs.Views.{View, IsNew}
use Rattle.ledger.specs.Ledgers.{Form, Ledger, opened, feed, noted, label_noted, end_noted, recall_noted, read_noted}
use Rattle.ledger.specs.Histories.{Deed, deed_of, deed_by}
use Rattle.ledger.specs.Laws.{Event, Run, fed}
use Rattle.ledger.specs.Told.{history_after}
use Rattle.ledger.specs.Words.{tags}
use Rattle.ledger.proofs.Bond.{Bound, tied_step}
use Rattle.ledger.proofs.Reading.{reader}
use Rattle.ledger.proofs.Runs.{bound_new}
use Rattle.jobrun.specs.Stages.{Moment, Sent, Again, Sending, Tagging, StagedBy, Staged, tag_next}
use Rattle.jobrun.specs.Jobs.{tag_in, tags_in, Stages, place_after, is_last}
use Rattle.jobrun.specs.Calls.{accepted, refused, CallsOf, Makes, MakesAll}
use Rattle.jobrun.specs.Hearing.{HearsAll}
use Rattle.jobrun.specs.declared.stage.Stage.{Stage}
use Rattle.jobrun.specs.declared.stage.Stage.TheVariants.{Tag, Done, Refused, Ended, NoStock}

-- ---- the tags that are taken in calls
abbrev pub taken_by : Call → Bool → ℕ
taken_by (command job at answer work) ok = 0
taken_by (print work) true = 1
taken_by (print work) false = 0
taken_by reload ok = 0

abbrev pub taken_in : List Event → ℕ
taken_in [] = 0
taken_in (e ∷ es) = taken_by e.call e.accepted + taken_in es

pub taken_append : (es fs : List Event) → taken_in (es ++ fs) ≡ taken_in es + taken_in fs
taken_append [] fs = omega arith
taken_append (e ∷ es) fs = let h = taken_append es fs in omega arith

-- and in the history
tags_by : (s : List Deed) (c : Call) (ok : Bool) → tags (deed_by c ok ∷ s) ≡ tags s + taken_by c ok
tags_by s (command job at answer work) true = go (read_at job at)
  where
    go : (o : Result CommandSeen Misread) → tags (deed_of o (whole_at job at) ∷ s) ≡ tags s + 0
    go (Ok c) = omega arith
    go (Err e) = omega arith
tags_by s (print work) true = refl
tags_by s reload true = omega arith
tags_by s (command job at answer work) false = omega arith
tags_by s (print work) false = omega arith
tags_by s reload false = omega arith

tags_after : (s : List Deed) (es : List Event) → tags (history_after s es) ≡ tags s + taken_in es
tags_after s [] = omega arith
tags_after s (e ∷ es) =
    let h = tags_after (deed_by e.call e.accepted ∷ s) es in
    let k = tags_by s e.call e.accepted in
    omega (arith, h, k)

pub run_append : (u v x : View) (es fs : List Event) → Run u es v → Run v fs x → Run u (es ++ fs) x
run_append u v x [] fs run more = subst (λ (z : View). Run z fs x) run more
run_append u v x (e ∷ es) fs run more = (run.0, run.1, run_append run.0 v x es fs run.2 more)

-- ---- a step of a job
pub record Calls (v : View) (n : ℕ) (x : View) : Type 0 where
  pub events : List Event
  pub run : Run v events x
  pub taken : taken_in events ≡ n

-- the calls of a step
pub record StepCalls (job : List ℕ) (at : ℕ) (d : Moment) (t : Stage) (e : Moment) : Type 0 where
  pub events : List Event
  pub makes : Makes job at d t events e
  pub taken : taken_in events ≡ tag_in t

module _ (job : List ℕ) (at : ℕ) (d e : Moment) where
  again_calls : (f : Fault) → print_fault d.view (length d.work) ≡ Some f → (t : Stage) → Again d t e →
      StepCalls job at d t e
  again_calls f h (Tag n) a =
      let w = length d.work in
      record {
        events = refused (print w) ∷ accepted reload ∷ accepted (print w) ∷ [];
        makes = record
            { calls = inr refl; run = (d.view, (f, h, refl), (a.0, a.1, (e.view, (a.2.step.0, a.2.step.1), refl))) };
        taken = refl;
      }
  again_calls f h (Done next) a = absurd a
  again_calls f h (Refused g) a = absurd a
  again_calls f h (Ended g) a = absurd a
  again_calls f h (NoStock g) a =
      let w = length d.work in
      record {
        events = refused (print w) ∷ accepted reload ∷ refused (print w) ∷ [];
        makes = record { calls = refl; run = (d.view, (f, h, refl), (e.view, a.0, (e.view, (g, a.1, refl), refl))) };
        taken = refl;
      }

  refused_calls : (f : Fault) → Sent job at d (Err f) e →
      Run d.view (refused (command job at (length d.answer) (length d.work)) ∷ []) e.view
  refused_calls f s = (e.view, (f, s.step.0, s.step.1), refl)

  sending_calls : (t : Stage) → Sending job at d t e → StepCalls job at d t e
  sending_calls (Tag n) s = absurd s
  sending_calls (Done next) s =
      record {
        events = accepted (command job at (length d.answer) (length d.work)) ∷ [];
        makes = record { calls = refl; run = (e.view, (next, s.step), refl) };
        taken = refl;
      }
  sending_calls (Refused f) s =
      record { events = _; makes = record { calls = refl; run = refused_calls f s.0 }; taken = refl }
  sending_calls (Ended f) s =
      record { events = _; makes = record { calls = refl; run = refused_calls f s.0 }; taken = refl }
  sending_calls (NoStock f) s = absurd s

  tagging_calls : (o : Option Fault) → print_fault d.view (length d.work) ≡ o → (t : Stage) → Tagging o d t e →
      StepCalls job at d t e
  tagging_calls None q t h =
      let w = length d.work in
      let es : List Event = accepted (print w) ∷ [] in
      record {
        events = es;
        makes = record {
          calls = subst⁻¹ (λ (x : Stage). CallsOf job at (length d.answer) w x es) h.1 (inl refl);
          run = (e.view, (h.2.step.0, h.2.step.1), refl);
        };
        taken = sym (ap tag_in h.1);
      }
  tagging_calls (Some f) q t h = again_calls f q t h

  pub step_makes : (t : Stage) → Staged job at d t e → StepCalls job at d t e
  step_makes t h = go (tag_next d) h
    where
      go : (b : Bool) → StagedBy b job at d t e → StepCalls job at d t e
      go true h = tagging_calls (print_fault d.view (length d.work)) refl t h
      go false h = sending_calls t h

abbrev pub step_calls : (job : List ℕ) (at : ℕ) (d e : Moment) (t : Stage) → Staged job at d t e →
    Calls d.view (tag_in t) e.view
step_calls job at d e t h = let c = step_makes job at d e t h in
    record { events = c.events; run = c.makes.run; taken = c.taken }

-- ---- many steps
abbrev pub calls_append : (u v x : View) (n k : ℕ) → Calls u n v → Calls v k x → Calls u (n + k) x
calls_append u v x n k a b = record {
  events = a.events ++ b.events;
  run = run_append u v x a.events b.events a.run b.run;
  taken = let sum = taken_append a.events b.events in let one = a.taken in let more = b.taken in
      omega (arith, sum, one, more);
}

pub record TurnsCalls (job : List ℕ) (at : ℕ) (d : Moment) (ts : List Stage) (p : ℕ) (e : Moment)
    (h : Stages job at d ts p e) : Type 0 where
  pub calls : Calls d.view (tags_in ts) e.view
  pub makes : MakesAll job at d ts p e h calls.events

pub turns_make : (job : List ℕ) (at p : ℕ) (d e : Moment) (ts : List Stage) (h : Stages job at d ts p e) →
    TurnsCalls job at d ts p e h
turns_make job at p d e [] h =
    record { calls = record { events = []; run = ap (λ (m : Moment). m.view) h.1; taken = refl }; makes = refl }
turns_make job at p d e (t ∷ ts) h =
    let one = step_makes job at d h.0 t h.1 in
    let more = turns_make job (place_after t at) p h.0 e ts h.3 in
    record {
      calls = calls_append d.view h.0.view e.view (tag_in t) (tags_in ts) (step_calls job at d h.0 t h.1) more.calls;
      makes = (one.events, more.calls.events, refl, one.makes, more.makes);
    }

pub tags_more : (ts : List Stage) (t : Stage) → tags_in (ts ++ t ∷ []) ≡ tags_in ts + tag_in t
tags_more [] t = omega arith
tags_more (x ∷ ts) t = let h = tags_more ts t in omega arith

-- one step more
abbrev pub turns_more : (job : List ℕ) (at p : ℕ) (d m e : Moment) (ts : List Stage) (t : Stage) →
    Stages job at d ts p m → Staged job p m t e → is_last t ≡ false
    → Stages job at d (ts ++ t ∷ []) (place_after t p) e
turns_more job at p d m e [] t h s l = (
  e,
  subst (λ (k : ℕ). Staged job k d t e) h.0 (subst (λ (z : Moment). Staged job p z t e) h.1 s),
  l,
  (ap (place_after t) h.0, refl),
)
turns_more job at p d m e (x ∷ ts) t h s l = (h.0, h.1, h.2, turns_more job (place_after x at) p h.0 m e ts t h.3 s l)

-- and a listener that hears of it too
pub hears_more : {K : Type 0} (R : K → Stage → List ℕ → K → Type 0) (job : List ℕ) (at p : ℕ) (d m e : Moment)
    (ts : List Stage) (t : Stage) (h : Stages job at d ts p m) (s : Staged job p m t e) (l : is_last t ≡ false)
    → (k n o : K) → HearsAll R job at d ts p m h k n → R n t e.work o →
    HearsAll R job at d (ts ++ t ∷ []) (place_after t p) e (turns_more job at p d m e ts t h s l) k o
hears_more R job at p d m e [] t h s l k n o q r = (o, subst (λ x. R x t e.work o) q r, refl)
hears_more R job at p d m e (x ∷ ts) t h s l k n o q r =
    (q.0, q.1, hears_more R job (place_after x at) p h.0 m e ts t h.3 s l q.0 n o q.2 r)

-- ---- the ledger of a run
module _ (w w' : Wheels) (base : ℕ) where
  pub bound_run : (l : Ledger) (u x : View) (es : List Event) → Bound w w' base l u → Run u es x →
      Bound w w' base (fed w w' l es) x
  bound_run l u x [] h run = subst⁻¹ (λ (z : View). Bound w w' base l z) run h
  bound_run l u x (e ∷ es) h run =
      bound_run (feed w w' l e.call e.accepted) run.0 x es
      (tied_step reader w w' base l u run.0 e.call e.accepted h run.1) run.2

  noted_taken : (q : Request) (whole : List ℕ) (l : Ledger) → (noted q whole l).taken ≡ l.taken
  noted_taken (on_label a) whole l = go l.saving
    where
      go : (o : Option ℕ) → (label_noted o a whole l).taken ≡ l.taken
      go None = refl
      go (Some n) = refl
  noted_taken (issue n) whole l = refl
  noted_taken (begin_saving n) whole l = refl
  noted_taken end_saving whole l = go l.saving
    where
      go : (o : Option ℕ) → (end_noted o l).taken ≡ l.taken
      go None = refl
      go (Some n) = refl
  noted_taken (recall n) whole l = go (l.forms n)
    where
      go : (o : Option Form) → (recall_noted o l).taken ≡ l.taken
      go None = refl
      go (Some x) = refl
  noted_taken empty_store whole l = refl
  noted_taken tell_status whole l = refl
  noted_taken reset whole l = refl

  read_taken : (o : Result CommandSeen Misread) (whole : List ℕ) (l : Ledger) → (read_noted o whole l).taken ≡ l.taken
  read_taken (Ok c) whole l = noted_taken (request_of c) whole l
  read_taken (Err e) whole l = refl

  feed_taken : (l : Ledger) (c : Call) (ok : Bool) → (feed w w' l c ok).taken ≡ l.taken + taken_by c ok
  feed_taken l (command job at answer work) true = let h = read_taken (read_at job at) (whole_at job at) l in
      omega (arith, h)
  feed_taken l (print work) true = refl
  feed_taken l reload true = omega arith
  feed_taken l (command job at answer work) false = omega arith
  feed_taken l (print work) false = omega arith
  feed_taken l reload false = omega arith

  pub fed_taken : (l : Ledger) (es : List Event) → (fed w w' l es).taken ≡ l.taken + taken_in es
  fed_taken l [] = omega arith
  fed_taken l (e ∷ es) =
      let one = feed_taken l e.call e.accepted in
      let more = fed_taken (feed w w' l e.call e.accepted) es in
      omega (arith, one, more)

-- the ledger of a job on a new station, so far
module _ (u : View) (new : IsNew u) (n : ℕ) (x : View) (c : Calls u n x) where
  abbrev pub ledger_so_far : Ledger
  ledger_so_far = fed u.first u.second (opened u.forms.at) c.events

  pub bound_so_far : Bound u.first u.second u.paper.taken ledger_so_far x
  bound_so_far = bound_run u.first u.second u.paper.taken (opened u.forms.at) u x c.events (bound_new u new) c.run

  pub taken_so_far : ledger_so_far.taken ≡ n
  taken_so_far =
      (let h = fed_taken u.first u.second u.paper.taken (opened u.forms.at) c.events in let k = c.taken in
      omega (arith, h, k))

  pub tagged : tags (history_after [] c.events) ≡ n
  tagged = let h = tags_after [] c.events in let k = c.taken in omega (arith, h, k)

  -- no station takes more labels than may be ordered of it
  pub few_tags : n ≤ most_ordered
  few_tags = let b = bound_so_far in let t = taken_so_far in omega (arith, b.most, b.tags, t)
