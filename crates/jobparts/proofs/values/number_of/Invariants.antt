use Rattle.std.proofs.Common.{◌≡◌, ◌+◌, ◌*◌, ◌^◌, ◌≤◌, drop}
use Rattle.jobparts.specs.Values.{value_after, value}
use Rattle.jobparts.proofs.values.number_of.Given as goal

abbrev pub invariant-loop-b : goal.invariant-loop-b
invariant-loop-b l = (value_after l.n (drop l.b-index l.digits) ≡ value l.digits) × (l.n + 29 ≤ 29 * 10 ^ l.b-index)
