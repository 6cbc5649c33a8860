use Rattle.std.proofs.Common.{◌<◌, length, ap, arith, length-set}
use Rattle.stores.specs.Packed.{size_at}
use Rattle.stores.specs.PackedForms.{used_put, sizes_set}
use Rattle.stores.proofs.packed.lens.Lens.set.Goals as goal

pub invariant_of-self : goal.invariant_of-self
invariant_of-self c =
    let ls = c.args.self.now.entries in
    let lt : c.place.result < length ls = omega (arith, c.args.self.now.all) in
    let same = ap (size_at ls) c.place.ensures in
    let room = c.requires.room in
    record {
      all = simp length-set c.args.self.now.all;
      within = used_put ls c.place.result c.args.len lt (omega arith);
      short = sizes_set ls c.place.result c.args.len lt c.args.self.now.short c.requires.short;
    }
