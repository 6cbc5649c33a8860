-- The meaning of a packed store: of its table of lengths and its bytes together.
use Rattle.stores.specs.Forms.{Forms}
use Rattle.stores.specs.Packed.{packed_forms}
use Rattle.stores.specs.declared.packed.PackedStore.{PackedStore}

abbrev pub packed_of : PackedStore → Forms
packed_of s = packed_forms s.lens.entries s.bytes
