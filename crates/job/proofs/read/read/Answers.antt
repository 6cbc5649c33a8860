use Rattle.std.proofs.Common.{sym, ◌∙◌}
use Rattle.job.proofs.Onward.{next_is}
use Rattle.job.proofs.read.read.Goals as goal

pub returns-in-Ok-clause-next : goal.returns-in-Ok-clause-next
returns-in-Ok-clause-next c =
    next_is c.args.job.now c.args.at c.in-Ok.end (sym c.end_of.ensures.answer ∙ c.in-Ok.is)
