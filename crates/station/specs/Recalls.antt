-- Doing the commands of a form, one after another, all or none.
--   FormCommand       what a command of a form came to when it was read: its place in the form, and the command
--                     or the fault
--   commands_of f     the commands of the form f in their order, as far as they can be read
--   done_all n l cs   the label l after all commands cs of form n; or the first refused one. A form holds label
--                     commands alone
use Rattle.std.specs.Prelude.{ℕ, zero, suc, cond, List, [], ◌∷◌, length, Some, None, Ok, Err, Option, Result, nat_lt}
use Rattle.faults.specs.declared.Refusal.TheVariants.{NotWhileSaving}
use Rattle.jobgroups.specs.Commands.{CommandSeen}
use Rattle.job.specs.Reading.{refusal_of as read_refusal}
use Rattle.label.specs.Actions.{Action, action_of}
use Rattle.label.specs.Labels.{LabelSeen, label_refusal, label_after, refusal_of}
use Rattle.label.specs.declared.fault.LabelFault.{LabelFault}
use Rattle.station.specs.Reads.{read_at, next_at, Misread}
use Rattle.station.specs.declared.blame.Blame.{Blame}

pub record FormCommand : Type 0 where
  pub place : ℕ
  pub read : Result CommandSeen Misread

-- the commands from a place on; as many turns as the form has bytes suffice
abbrev pub commands_from : ℕ → List ℕ → ℕ → List FormCommand
commands_from zero form at = []
commands_from (suc turns) form at =
    cond (nat_lt at (length form))
    (record { place = at; read = read_at form at } ∷ commands_from turns form (next_at form at)) []

abbrev pub commands_of : List ℕ → List FormCommand
commands_of form = commands_from (length form) form 0

-- an action that a label refuses is blamed on the command at a place
abbrev pub acted : ℕ → LabelSeen → Action → ℕ → Option LabelFault → Result LabelSeen Blame
acted n l a at None = Ok (label_after l a)
acted n l a at (Some e) = Err (record { refusal = refusal_of e; form = n; place = at })

abbrev pub acted_on : ℕ → LabelSeen → ℕ → Option Action → Result LabelSeen Blame
acted_on n l at (Some a) = acted n l a at (label_refusal l a)
acted_on n l at None = Err (record { refusal = NotWhileSaving; form = n; place = at })

abbrev pub done_one : ℕ → LabelSeen → ℕ → Result CommandSeen Misread → Result LabelSeen Blame
done_one n l at (Ok c) = acted_on n l at (action_of c)
done_one n l at (Err e) = Err (record { refusal = read_refusal e.refusal; form = n; place = e.place })

abbrev pub then_done : Result LabelSeen Blame → (LabelSeen → Result LabelSeen Blame) → Result LabelSeen Blame
then_done (Ok l) f = f l
then_done (Err e) f = Err e

abbrev pub done_all : ℕ → LabelSeen → List FormCommand → Result LabelSeen Blame
done_all n l [] = Ok l
done_all n l (c ∷ cs) = then_done (done_one n l c.place c.read) (λ l'. done_all n l' cs)
