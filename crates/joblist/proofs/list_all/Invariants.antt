use Rattle.std.proofs.Common.{◌-◌, length}
use Rattle.joblist.proofs.list_all.Given as goal

abbrev pub decreases-loop-next : goal.decreases-loop-next
decreases-loop-next l = length l.job - l.at
