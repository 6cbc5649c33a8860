-- What a vector of fixed room holds.
--   items v   its items, in order
use Rattle.std.specs.Prelude.{ℕ, List, take}
use Rattle.fixedvec.specs.declared.FixedVec.{FixedVec}

abbrev pub items : {T : Type 0} {N : ℕ} → FixedVec T N → List T
items v = take v.len v.cells
