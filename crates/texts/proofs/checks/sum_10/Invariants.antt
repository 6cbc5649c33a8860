-- The sum so far, by how many digits are still behind, and that of the digits behind, make the whole.
use Rattle.std.proofs.Common.{◌≡◌, suc, ◌+◌, ◌*◌, ◌≤◌, length, drop}
use Rattle.texts.specs.Checks.{weight, check_sum}
use Rattle.texts.specs.declared.checks.Check.TheVariants.{Modulus10}
use Rattle.texts.proofs.checks.sum_10.Given as goal

abbrev pub invariant-loop-b : goal.invariant-loop-b
invariant-loop-b l =
    let rest = drop l.b-index l.text in
    record {
      sum : weight (length rest) * l.thrice + weight (suc (length rest)) * l.once + check_sum Modulus10 rest
          ≡ check_sum Modulus10 l.text;
      few_thrice : l.thrice ≤ 9 * l.b-index;
      few_once : l.once ≤ 9 * l.b-index;
    }
