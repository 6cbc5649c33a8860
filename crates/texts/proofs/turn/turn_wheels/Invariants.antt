-- The places from `left` on are turned.
use Rattle.std.proofs.Common.{◌≡◌, ◌-◌, ◌≤◌, length}
use Rattle.texts.proofs.Carried.{Carried}
use Rattle.texts.proofs.turn.turn_wheels.Given as goal

abbrev pub invariant-loop-left : goal.invariant-loop-left
invariant-loop-left g l =
    let w = g.R.CountingRule.wheels l.rule in
    let t = l.initial.text in
    record {
      way : l.carry.down ≡ l.initial.carry.down;
      inside : l.left ≤ length t;
      turned : Carried w t l.initial.carry.down l.initial.carry.by (length t - l.left) l.carry.by l.text;
    }

abbrev pub decreases-loop-left : goal.decreases-loop-left
decreases-loop-left g l = l.left
