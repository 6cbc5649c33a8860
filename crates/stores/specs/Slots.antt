-- What a slot store holds: room for a form of 512 bytes under each number.
--   slot_longest, slot_total   the bytes of a slot, and of all twenty
--   slot_at slots k            the form in a slot of a list, counted from 0
--   slot_forms                 the meaning of a slot store
use Rattle.std.specs.Prelude.{ℕ, ◌*◌, List, None, Option, option_map, slice_index_or}
use Rattle.fixedvec.specs.Items.{items}
use Rattle.fixedvec.specs.declared.FixedVec.{FixedVec}
use Rattle.limits.specs.Limits.{last_form}
use Rattle.stores.specs.Forms.{Forms, forms_from_one}
use Rattle.stores.specs.declared.slots.TheConstants.{SLOT_BYTES}

abbrev pub slot_longest : ℕ
slot_longest = SLOT_BYTES

abbrev pub slot_total : ℕ
slot_total = last_form * slot_longest

abbrev pub Slot : Type 0
Slot = Option (FixedVec ℕ slot_longest)

unfoldable pub slot_at : List Slot → ℕ → Option (List ℕ)
slot_at slots k = option_map items (slice_index_or slots k None)

abbrev pub slot_forms : List Slot → Forms
slot_forms slots = forms_from_one (slot_at slots) slot_longest slot_total
