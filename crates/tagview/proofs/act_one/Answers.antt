use Rattle.std.proofs.Common.{length, Ok, Err}
use Rattle.job.specs.Reading.{read_at}
use Rattle.job.proofs.Onward.{onward}
use Rattle.tagview.proofs.Onward.{done_onward}
use Rattle.tagview.proofs.act_one.Goals as goal

pub returns-in-Ok : goal.returns-in-Ok
returns-in-Ok c =
    let job = c.args.job.now in
    done_onward (read_at job c.args.at) (length job) c.args.at (Ok c.in-Ok.next) _ _
    (onward job c.args.at) c.in-Ok.ensures

pub returns-in_default : goal.returns-in_default
returns-in_default c =
    let job = c.args.job.now in
    done_onward (read_at job c.args.at) (length job) c.args.at (Err c.in-Err.fault) _ _
    (onward job c.args.at) c.in-Err.ensures c.in_default.not-JobBounds c.in_default.not-JobEnd
