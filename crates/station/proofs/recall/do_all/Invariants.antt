use Rattle.std.proofs.Common.{◌-◌, length}
use Rattle.label.specs.Labels.{seen_label}
use Rattle.station.specs.Recalls.{commands_of, done_all}
use Rattle.station.proofs.Recalling.{Left}
use Rattle.station.proofs.recall.do_all.Given as goal

abbrev pub invariant-loop-at : goal.invariant-loop-at
invariant-loop-at l = Left l.number l.form l.at (seen_label l.label)
    (done_all l.number (seen_label l.initial.label) (commands_of l.form))

abbrev pub decreases-loop-at : goal.decreases-loop-at
decreases-loop-at l = length l.form - l.at
