-- Reading goes on behind the place, unless the job ends there or is not open.
use Rattle.std.proofs.Common.{◌≡◌, ℕ, ◌<◌, Ok, Err, Result, false, refl, ap, ◌∙◌, arith}
use Rattle.faults.specs.declared.Fault.{Fault}
use Rattle.faults.specs.declared.Refusal.TheVariants.{JobBounds, JobEnd}
use Rattle.jobgroups.specs.Commands.{CommandSeen}
use Rattle.job.specs.Reading.{answer_of, next_of, refusal_of}
use Rattle.job.specs.declared.fault.ReadFault.{ReadFault}
use Rattle.job.proofs.Onward.{ended, others_go_on}
use Rattle.label.specs.Labels.{LabelSeen}
use Rattle.tagview.specs.Doing.{Done}

abbrev GoesOn : ℕ → ℕ → Result ℕ Fault → Type 0
GoesOn long at (Ok next) = (at < long) × (at < next)
GoesOn long at (Err f) = (f.refusal ≡ JobBounds → ⊥) → (f.refusal ≡ JobEnd → ⊥) → (at < long) × (at < f.next)

pub done_onward :
    (read : Result (CommandSeen × ℕ) ReadFault) (long at : ℕ) (r : Result ℕ Fault) (before after : LabelSeen)
    → (false ≡ ended (answer_of read) → (at < long) × (at < next_of read))
    → Done (answer_of read) (next_of read) at r before after → GoesOn long at r
done_onward (Ok x) long at (Ok n) before after goes done = let o = goes refl in let is = done.0 in (o.0, omega arith)
done_onward (Ok x) long at (Err f) before after goes done =
    λ bounds unended. let o = goes refl in let is = ap (λ (f : Fault). f.next) done.1 in (o.0, omega arith)
done_onward (Err e) long at (Ok n) before after goes done = absurd done
done_onward (Err e) long at (Err f) before after goes done =
    λ bounds unended.
    let why = ap (λ (f : Fault). f.refusal) done.0 in
    let is = ap (λ (f : Fault). f.next) done.0 in
    let o = goes (others_go_on e.refusal (λ h. bounds (why ∙ ap refusal_of h))
    (λ h. unended (why ∙ ap refusal_of h))) in
    (o.0, omega arith)
