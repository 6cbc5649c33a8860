-- What is left to rewrite gives what rewriting all gives.
use Rattle.std.proofs.Common.{◌≡◌}
use Rattle.texts.specs.Turning.{rewritten}
use Rattle.texts.proofs.rule.CountingRule.rewrite.Given as goal

abbrev pub invariant-loop-left : goal.invariant-loop-left
invariant-loop-left g l =
    rewritten (g.Self.CountingRule.wheels l.self) l.text l.left
    ≡ rewritten (g.Self.CountingRule.wheels l.self) l.initial.text l.places

abbrev pub decreases-loop-left : goal.decreases-loop-left
decreases-loop-left g l = l.left
