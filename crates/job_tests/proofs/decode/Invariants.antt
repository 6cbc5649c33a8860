use Rattle.std.proofs.Common.{length}
use Rattle.job_tests.proofs.decode.Given as goal

abbrev pub decreases-loop-text : goal.decreases-loop-text
decreases-loop-text l = length l.text
