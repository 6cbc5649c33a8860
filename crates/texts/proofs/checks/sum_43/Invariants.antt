-- The sum so far, and that of the characters behind, make the whole.
use Rattle.std.proofs.Common.{◌≡◌, ◌+◌, ◌*◌, ◌≤◌, drop}
use Rattle.texts.specs.Checks.{check_sum}
use Rattle.texts.specs.declared.checks.Check.TheVariants.{Modulus43}
use Rattle.texts.proofs.checks.sum_43.Given as goal

abbrev pub invariant-loop-b : goal.invariant-loop-b
invariant-loop-b l =
    record {
      sum : l.sum + check_sum Modulus43 (drop l.b-index l.text) ≡ check_sum Modulus43 l.text;
      fits : l.sum ≤ 42 * l.b-index;
    }
