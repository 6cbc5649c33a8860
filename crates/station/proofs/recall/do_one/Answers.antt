use Rattle.std.proofs.Common.{◌≡◌, ◌<◌, Ok, sym, ap, ◌∙◌, subst, rules}
use Rattle.job.specs.Reading.{seen_answer}
use Rattle.jobgroups.specs.Commands.{seen_command}
use Rattle.station.specs.Reads.{read_at}
use Rattle.job.proofs.Onward.{ended, onward}
use Rattle.station.proofs.recall.do_one.Goals as goal

pub returns-clause-on : goal.returns-clause-on
returns-clause-on c =
    let form = c.args.form.now in
    let at = c.args.at in
    let was : c.read-next.result.0 ≡ Ok c.in_ok-command.command = search rules in
    let read : read_at form at ≡ Ok (seen_command c.in_ok-command.command) =
    sym c.read-next.ensures.answer ∙ ap seen_answer was in
    subst (λ k. at < k) (sym c.read-next.ensures.next) (onward form at (sym (ap ended read))).1
