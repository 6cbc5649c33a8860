use Rattle.std.proofs.Common.{sym, ap, ◌∙◌, arith}
use Rattle.job.specs.Reading.{seen_answer}
use Rattle.job.proofs.Onward.{ended, others_go_on, onward}
use Rattle.joblist.proofs.list_one.Goals as goal

pub returns-in_ok-show_command-in-Ok : goal.returns-in_ok-show_command-in-Ok
returns-in_ok-show_command-in-Ok c =
    let o = onward c.args.job.now c.args.at
    (ap ended (ap seen_answer (sym c.in-Ok.is) ∙ c.read-next.ensures.answer)) in
    omega arith

pub returns-in_default : goal.returns-in_default
returns-in_default c =
    let other = others_go_on c.in-Err.fault.refusal c.in_default.not-OutOfBounds c.in_default.not-AtEnd in
    let o = onward c.args.job.now c.args.at
    (other ∙ ap ended (ap seen_answer (sym c.in-Err.is) ∙ c.read-next.ensures.answer)) in
    omega arith
