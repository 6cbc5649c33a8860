-- What is done to a label at a place of a job.
--   label_fault_at   the fault of a command that was read at a place and that the label refuses
--   Done read next at r before after   the answer r, where `read` is the command at the place or why there is none,
--                  and `next` is where reading goes on: the place `next` after a command that the label accepts, or
--                  that is none of its own; else why it was not read, or why the label refuses it, and the label is
--                  as it was
use Rattle.std.specs.Prelude.{◌≡◌, ℕ, Some, None, Ok, Err, Option, Result}
use Rattle.faults.specs.declared.Fault.{Fault}
use Rattle.jobgroups.specs.Commands.{CommandSeen}
use Rattle.job.specs.Reading.{fault_of}
use Rattle.job.specs.declared.fault.ReadFault.{ReadFault}
use Rattle.label.specs.Actions.{Action, action_of}
use Rattle.label.specs.Labels.{LabelSeen, Acted, refusal_of}
use Rattle.label.specs.declared.fault.LabelFault.{LabelFault}

abbrev pub label_fault_at : ℕ → ℕ → LabelFault → Fault
label_fault_at at next e = record { refusal = refusal_of e; form = 0; place = at; next = next }

-- a command that asks for nothing of a label leaves it as it is
abbrev pub Obeyed : Option Action → Result (Unit {0}) LabelFault → LabelSeen → LabelSeen → Type 0
Obeyed None r before after = (r ≡ Ok tt) × (after ≡ before)
Obeyed (Some a) r before after = Acted a r before after

abbrev pub Done : Result CommandSeen ReadFault → ℕ → ℕ → Result ℕ Fault → LabelSeen → LabelSeen → Type 0
Done (Ok c) next at (Ok n) before after = (n ≡ next) × Obeyed (action_of c) (Ok tt) before after
Done (Ok c) next at (Err f) before after =
    (e : LabelFault) × (f ≡ label_fault_at at next e) × Obeyed (action_of c) (Err e) before after
Done (Err e) next at (Ok n) before after = ⊥
Done (Err e) next at (Err f) before after = (f ≡ fault_of e) × (after ≡ before)
