-- A job that is too long, or lent too short buffers, is over at its first step.
use Rattle.std.proofs.Common.{◌≡◌, ℕ, ◌+◌, Bool, true, false, cond, ltb, List, [], ◌∷◌, length, take, Ok, Err, Result, sym, refl, ap, ◌∙◌, subst, arith}
use Rattle.std.proofs.lemmas.Bool.Decides.{nat_tests}
use Rattle.faults.specs.declared.Fault.{Fault}
use Rattle.faults.specs.declared.Refusal.TheVariants.{ShortBuffer}
use Rattle.limits.specs.Limits.{longest_job}
use Rattle.jobparts.specs.declared.part.ReadRefusal.TheVariants.{OutOfBounds}
use Rattle.jobgroups.specs.Commands.{CommandSeen}
use Rattle.job.specs.Reading.{fault, fault_of, answer_of, bounds_at, begin_at, ending_at, body_at, placed, then_read}
use Rattle.job.specs.declared.fault.ReadFault.{ReadFault}
use Rattle.station.specs.Reads.{read_at, out_of_bounds}
use Rattle.station.specs.Steps.{commanded, on_read, short_buffers, fault_at, work_bytes, answer_after, answer_on, work_after, work_on}
use Rattle.station.specs.Views.{View, owed_by}
use Rattle.ledger.proofs.Basics.{never, not_ok}
use Rattle.jobrun.specs.Stages.{Moment, Sending, StagedBy, Staged, tag_next, ends}
use Rattle.jobrun.specs.Jobs.{is_last, tag_in, tags_in, Stages}
use Rattle.jobrun.specs.Outcomes.{cannot_begin}
use Rattle.jobrun.specs.declared.stage.Stage.{Stage}
use Rattle.jobrun.specs.declared.stage.Stage.TheVariants.{Tag, Done, Refused, Ended, NoStock}
use Rattle.jobrun.proofs.Going.{err_inj}

module _ (job : List ℕ) (d : Moment) (cannot : cannot_begin job d ≡ true) (none : owed_by d.view ≡ 0) where
  record Over : Type 0 where
    why : Fault
    refused : commanded d.view job 0 (length d.answer) (length d.work) ≡ Err why
    ended : ends why ≡ true
    answer : answer_after d.view job 0 d.answer (length d.work) ≡ d.answer
    work : work_after d.view job 0 (length d.answer) d.work ≡ d.work

  over : Over
  over = go (ltb longest_job (length job)) refl cannot
    where
      short : Bool
      short = short_buffers (length d.answer) (length d.work)

      too_long : ltb longest_job (length job) ≡ true → Over
      too_long q =
          let opened : bounds_at job 0 ≡ Err (fault OutOfBounds 0 0) =
          ap (λ (b : Bool). cond b (Err (fault OutOfBounds 0 0))
          (cond (ltb (length job) 0) (Err (fault OutOfBounds 0 0)) (Ok tt))) q in
          let read : read_at job 0 ≡ Err (fault OutOfBounds 0 0) =
          ap (λ (o : Result (Unit {0}) ReadFault). answer_of
          (then_read o
          (λ _. then_read (begin_at job 0)
          (λ _. then_read (ending_at job 0) (λ end. placed (end + 2) (body_at (take end job) 0)))))) opened in
          let outside : out_of_bounds job 0 ≡ true = ap (λ (b : Bool). cond b true (ltb (length job) 0)) q in
          let either : (b : Bool) → cond b d.answer d.answer ≡ d.answer = elim [ true ↦ refl | false ↦ refl ] in
          let either' : (b : Bool) → cond b d.work d.work ≡ d.work = elim [ true ↦ refl | false ↦ refl ] in
          record {
            why = fault_of (fault OutOfBounds 0 0);
            refused = ap
                (λ (b : Bool). cond b (on_read d.view job 0 (read_at job 0))
                (cond short (Err (fault_at ShortBuffer 0 0 0)) (on_read d.view job 0 (read_at job 0)))) outside
                ∙ ap (on_read d.view job 0) read;
            ended = refl;
            answer = ap (λ (o : Result CommandSeen ReadFault). cond short d.answer (answer_on o d.view d.answer))
                read ∙ either short;
            work = ap (λ (o : Result CommandSeen ReadFault). cond short d.work (work_on o d.view d.work)) read
                ∙ either' short;
          }

      too_short : ltb longest_job (length job) ≡ false → short ≡ true → Over
      too_short q h =
          let within : ltb (length job) 0 ≡ false = grind (arith, nat_tests) in
          let inside : out_of_bounds job 0 ≡ false = ap (λ (b : Bool). cond b true (ltb (length job) 0)) q ∙ within in
          record {
            why = fault_at ShortBuffer 0 0 0;
            refused = ap
                (λ (b : Bool). cond b (on_read d.view job 0 (read_at job 0))
                (cond short (Err (fault_at ShortBuffer 0 0 0)) (on_read d.view job 0 (read_at job 0)))) inside
                ∙ ap (λ (b : Bool). cond b (Err (fault_at ShortBuffer 0 0 0))
                (on_read d.view job 0 (read_at job 0))) h;
            ended = refl;
            answer = ap (λ (b : Bool). cond b d.answer (answer_on (read_at job 0) d.view d.answer)) h;
            work = ap (λ (b : Bool). cond b d.work (work_on (read_at job 0) d.view d.work)) h;
          }

      go : (b : Bool) → ltb longest_job (length job) ≡ b → cond b true short ≡ true → Over
      go true q h = too_long q
      go false q h = too_short q h

  at_once : (e : Moment) (t : Stage) → Staged job 0 d t e →
      (is_last t ≡ true) × (e.answer ≡ d.answer) × (e.work ≡ d.work)
  at_once e t s = next (ltb (length d.work) work_bytes) s
    where
      sending : (t : Stage) → Sending job 0 d t e → (is_last t ≡ true) × (e.answer ≡ d.answer) × (e.work ≡ d.work)
      sending (Tag n) s = absurd s
      sending (Done next) s = not_ok (sym over.refused ∙ s.step)
      sending (Refused f) s = never (sym s.1 ∙ ap ends (err_inj (sym s.0.step.0 ∙ over.refused)) ∙ over.ended)
      sending (Ended f) s = (refl, s.0.answer ∙ over.answer, s.0.work ∙ over.work)
      sending (NoStock f) s = absurd s

      next : (b : Bool) → StagedBy (cond b false (ltb 0 (owed_by d.view))) job 0 d t e →
          (is_last t ≡ true) × (e.answer ≡ d.answer) × (e.work ≡ d.work)
      next true s = sending t s
      next false s = sending t (subst (λ (n : ℕ). StagedBy (ltb 0 n) job 0 d t e) none s)

  pub nothing_done : (ts : List Stage) (p : ℕ) (m e : Moment) (t : Stage) → Stages job 0 d ts p m →
      Staged job p m t e → (tags_in ts ≡ 0) × (e.answer ≡ d.answer) × (e.work ≡ d.work)
  nothing_done [] p m e t h s =
      let o = at_once e t
      (subst (λ (k : ℕ). Staged job k d t e) h.0 (subst (λ (x : Moment). Staged job p x t e) h.1 s)) in
      (refl, o.1, o.2)
  nothing_done (x ∷ ts) p m e t h s = never (sym h.2 ∙ (at_once h.0 x h.1).0)
