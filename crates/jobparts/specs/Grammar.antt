-- How a command is written: its items in order, in groups, and the one reading of them.
--   Item         a fixed byte, or something that yields a part, see below
--   item_at      what an item yields at a place of a body, or the first thing wrong in it
--   group_at     what the items of a group yield, one behind the other, or the leftmost wrong one
--   groups_at    what groups yield, one behind the other
--   row_at       what the groups of a command yield; nothing may be left over behind them
--   one_of, one_letter   the rules that admit some numbers, and some letters
use Rattle.std.specs.Prelude.{ℕ, ◌-◌, Bool, true, false, cond, List, [], ◌∷◌, ◌++◌, map, Ok, Result, ◌==◌, slice_index}
use Rattle.jobparts.specs.Items.{Admits, byte_at, end_at, part_at, number_at, chosen_at, text_at, list_part_at, lettered_at, signed_at, source_at}
use Rattle.jobparts.specs.Parts.{PartSeen, Got, bytes_of, then}
use Rattle.jobparts.specs.Values.{number_of}
use Rattle.jobparts.specs.declared.part.ByteKind.{ByteKind}
use Rattle.jobparts.specs.declared.part.List.TheVariants.{Strings}
use Rattle.jobparts.specs.declared.part.Wrong.{Wrong}

pub data Item : Type 0 where
  -- a fixed byte
  fixed : ℕ → Item
  -- so many bytes of a kind
  part : ByteKind → ℕ → Item
  -- so many digits, whose number lies between two limits
  number : ℕ → ℕ → ℕ → Item
  -- so many bytes of a kind, with a rule of their own
  chosen : ByteKind → ℕ → Admits → Item
  -- an option: a comma, a letter, and so many digits up to a highest number; whether it is the last option
  lettered : ℕ → ℕ → ℕ → Bool → Item
  -- an option: a comma, a sign and so many digits; whether it is the last option
  signed : ℕ → Bool → Item
  -- a text to the body's end
  text : Item
  -- link strings to the body's end, parted by commas: one or more, up to a number
  strings : ℕ → Item
  -- nothing, `=` and a text, or `;` and link numbers 01 to 08 parted by commas: one or more, up to a number
  source : ℕ → Item

abbrev pub item_at : Item → List (List ℕ) → List ℕ → ℕ → Result Got Wrong
item_at (fixed b) earlier body at = then (byte_at b body at) (λ next. Ok ([], next))
item_at (part kind n) earlier body at = part_at kind n body at
item_at (number n low high) earlier body at = number_at n low high body at
item_at (chosen kind n admits) earlier body at = chosen_at kind n admits earlier body at
item_at (lettered letter n high last) earlier body at = lettered_at letter n high last body at
item_at (signed n last) earlier body at = signed_at n last body at
item_at text earlier body at = text_at body at
item_at (strings most) earlier body at = list_part_at Strings (most - 1) body at
item_at (source most) earlier body at = source_at (most - 1) body at

abbrev pub group_at : List Item → List PartSeen → List ℕ → ℕ → Result Got Wrong
group_at [] seen body at = Ok (seen, at)
group_at (item ∷ items) seen body at =
    then (item_at item (map bytes_of seen) body at) (λ o. group_at items (seen ++ o.0) body o.1)

abbrev pub groups_at : List (List Item) → List PartSeen → List ℕ → ℕ → Result Got Wrong
groups_at [] seen body at = Ok (seen, at)
groups_at (group ∷ groups) seen body at =
    then (group_at group [] body at) (λ o. groups_at groups (seen ++ o.0) body o.1)

abbrev pub row_at : List (List Item) → List PartSeen → List ℕ → ℕ → Result (List PartSeen) Wrong
row_at [] seen body at = then (end_at body at) (λ _. Ok seen)
row_at (group ∷ groups) seen body at = then (group_at group [] body at) (λ o. row_at groups (seen ++ o.0) body o.1)

abbrev pub is_one_of : List ℕ → ℕ → Bool
is_one_of [] n = false
is_one_of (x ∷ xs) n = cond (n == x) true (is_one_of xs n)

abbrev pub one_of : List ℕ → Admits
one_of numbers earlier own behind = is_one_of numbers (number_of own)

abbrev pub one_letter : List ℕ → Admits
one_letter letters earlier own behind = is_one_of letters (slice_index own 0)
