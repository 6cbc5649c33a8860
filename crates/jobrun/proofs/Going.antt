-- A job goes on: unless it ends the job, a command call tells a place behind its own.
use Rattle.std.proofs.Common.{◌≡◌, ℕ, ◌<◌, ◌≤◌, Bool, true, false, cond, List, length, Ok, Err, Result, sym, refl, ap, ◌∙◌, subst, arith}
use Rattle.faults.specs.declared.Fault.{Fault}
use Rattle.faults.specs.declared.Refusal.TheVariants.{ShortBuffer}
use Rattle.jobparts.specs.declared.part.ReadRefusal.TheVariants.{OutOfBounds, AtEnd, NoEscape, NoEnding, UnknownLetters, WrongByte, NotAdmitted}
use Rattle.jobparts.specs.declared.part.ReadRefusal.{ReadRefusal}
use Rattle.job.proofs.Onward.{ended, onward}
use Rattle.jobgroups.specs.Commands.{CommandSeen}
use Rattle.job.specs.Reading.{fault_of, answer_of, next_of, fault, read_at as reader_at}
use Rattle.job.specs.declared.fault.ReadFault.{ReadFault}
use Rattle.station.specs.Reads.{read_at, next_at, out_of_bounds}
use Rattle.station.specs.Steps.{commanded, on_read, concluded, short_buffers, fault_at}
use Rattle.station.specs.Views.{View}
use Rattle.station.specs.declared.blame.Blame.{Blame}
use Rattle.ledger.proofs.Basics.{never, not_ok, ok_inj}
use Rattle.jobrun.specs.Stages.{ends}

pub record Onward (job : List ℕ) (at next : ℕ) : Type 0 where
  pub within : at ≤ length job
  pub on : at < next

pub err_inj : {A E : Type 0} {x y : E} → ◌≡◌ {A = Result A E} (Err x) (Err y) → x ≡ y
err_inj e = cc

-- the reader ends a job
abbrev over : Result (CommandSeen × ℕ) ReadFault → Bool
over (Ok x) = false
over (Err e) = ends (fault_of e)

over_is : (r : Result (CommandSeen × ℕ) ReadFault) → over r ≡ ended (answer_of r)
over_is (Ok x) = refl
over_is (Err e) = go e.refusal
  where
    go : (r : ReadRefusal) → over (Err (fault r e.place e.next)) ≡ ended (answer_of (Err (fault r e.place e.next)))
    go OutOfBounds = refl
    go AtEnd = refl
    go NoEscape = refl
    go NoEnding = refl
    go UnknownLetters = refl
    go WrongByte = refl
    go NotAdmitted = refl

module _ (job : List ℕ) (at : ℕ) where
  reading_on : over (reader_at job at) ≡ false → Onward job at (next_of (reader_at job at))
  reading_on h =
      let o = onward job at (sym h ∙ over_is (reader_at job at)) in
      record { within = omega (arith, o.0); on = o.1 }

  module _ (v : View) (answer work : ℕ) where
    -- an accepted command
    pub accepted_on : (u : View) (next : ℕ) → commanded v job at answer work ≡ Ok (u, next) → Onward job at next
    accepted_on u next e =
        go (reader_at job at) refl (reading_on) (bounds (out_of_bounds job at) (short_buffers answer work) e)
      where
        bounds : (a b : Bool) →
            cond a (on_read v job at (read_at job at))
            (cond b (Err (fault_at ShortBuffer 0 at at)) (on_read v job at (read_at job at))) ≡ Ok (u, next)
            → on_read v job at (read_at job at) ≡ Ok (u, next)
        bounds true b e = e
        bounds false true e = not_ok e
        bounds false false e = e

        told : (o : Result View Blame) (k : ℕ) → concluded o k ≡ Ok (u, next) → k ≡ next
        told (Ok y) k e = ap (λ (p : View × ℕ). p.1) (ok_inj e)
        told (Err b) k e = not_ok e

        go : (r : Result (CommandSeen × ℕ) ReadFault) → reader_at job at ≡ r →
            (over r ≡ false → Onward job at (next_of r)) → on_read v job at (answer_of r) ≡ Ok (u, next) →
            Onward job at next
        go (Ok x) q g e = subst (Onward job at) (sym (ap next_of q) ∙ told _ (next_at job at) e) (g refl)
        go (Err x) q g e = not_ok e

    -- a refused one that does not end the job
    pub refused_on : (f : Fault) → commanded v job at answer work ≡ Err f → ends f ≡ false → Onward job at f.next
    refused_on f e h = bounds (out_of_bounds job at) (short_buffers answer work) e
      where
        told : (o : Result View Blame) (k : ℕ) → concluded o k ≡ Err f → k ≡ f.next
        told (Ok y) k e = not_ok (sym e)
        told (Err b) k e = ap (λ (x : Fault). x.next) (err_inj e)

        go : (r : Result (CommandSeen × ℕ) ReadFault) → reader_at job at ≡ r →
            (over r ≡ false → Onward job at (next_of r)) → on_read v job at (answer_of r) ≡ Err f →
            Onward job at f.next
        go (Ok x) q g e = subst (Onward job at) (sym (ap next_of q) ∙ told _ (next_at job at) e) (g refl)
        go (Err x) q g e = subst (Onward job at) (ap (λ (y : Fault). y.next) (err_inj e))
            (g (ap ends (err_inj e) ∙ h))

        read : on_read v job at (read_at job at) ≡ Err f → Onward job at f.next
        read e = go (reader_at job at) refl (reading_on) e

        bounds : (a b : Bool) →
            cond a (on_read v job at (read_at job at))
            (cond b (Err (fault_at ShortBuffer 0 at at)) (on_read v job at (read_at job at))) ≡ Err f →
            Onward job at f.next
        bounds true b e = read e
        bounds false true e = never (sym (ap ends (err_inj e) ∙ h))
        bounds false false e = read e
