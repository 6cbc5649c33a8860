use Rattle.std.proofs.Common.{◌≡◌, ◌-◌}
use Rattle.stores.specs.Forms.{others_to}
use Rattle.stores.proofs.quota.others_of.Given as goal

abbrev pub invariant-loop-number : goal.invariant-loop-number
invariant-loop-number g l = l.sum ≡ others_to (g.S.FormStore.forms l.store).at l.but (l.number - 1)
