use Rattle.std.proofs.Common.{refl, arith}
use Rattle.limits.specs.Limits.{last_form}
use Rattle.stores.specs.PackedForms.{packed_vacant, used_none, sizes_none}
use Rattle.stores.proofs.packed.lens.Lens.none.Goals as goal

pub invariant_of-result : goal.invariant_of-result
invariant_of-result c = record { all = refl; within = omega (arith, used_none last_form); short = sizes_none last_form }

pub returns : goal.returns
returns c = packed_vacant
