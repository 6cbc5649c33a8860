-- The table of commands as a program can read it, and the table of the contracts.
--   rule_of     what a rule admits
--   item_of     an item among those of the contracts
--   items_of    the items of a row, without their names
--   row_of c    all items of a command, one behind the other
use Rattle.std.specs.Prelude.{List, [], ◌∷◌, ◌++◌, map}
use Rattle.jobparts.specs.Grammar.{Item, fixed, part, number, chosen, lettered, signed, text, strings, source, one_of, one_letter}
use Rattle.jobparts.specs.Items.{Admits}
use Rattle.jobgroups.specs.Table.{not_above_pitch, fits_type, not_slanted, parts_of}
use Rattle.jobgroups.specs.declared.letters.Letters.{Letters}
use Rattle.jobtable.specs.declared.item.Item.{Item as Told}
use Rattle.jobtable.specs.declared.item.Item.TheVariants.{Byte, Part, Number, Chosen, Lettered, Signed, Text, Strings, Source}
use Rattle.jobtable.specs.declared.item.Named.{Named}
use Rattle.jobtable.specs.declared.item.Rule.{Rule}
use Rattle.jobtable.specs.declared.item.Rule.TheVariants.{Length, BarCheck, LineEnd, Rotation, BarType, Letters as OneLetter}

abbrev pub rule_of : Rule → Admits
rule_of Length = not_above_pitch
rule_of BarCheck = fits_type
rule_of LineEnd = not_slanted
rule_of Rotation = one_of (0 ∷ 11 ∷ 22 ∷ 33 ∷ [])
rule_of BarType = one_of (3 ∷ 9 ∷ [])
rule_of (OneLetter one other) = one_letter (one ∷ other ∷ [])

abbrev pub item_of : Told → Item
item_of (Byte b) = fixed b
item_of (Part kind n) = part kind n
item_of (Number n low high) = number n low high
item_of (Chosen kind n rule) = chosen kind n (rule_of rule)
item_of (Lettered letter n high last) = lettered letter n high last
item_of (Signed n last) = signed n last
item_of Text = text
item_of (Strings most) = strings most
item_of (Source most) = source most

abbrev pub items_of : List Named → List Item
items_of row = map (λ (n : Named). item_of n.1) row

abbrev pub joined : List (List Item) → List Item
joined [] = []
joined (group ∷ groups) = group ++ joined groups

abbrev pub row_of : Letters → List Item
row_of c = joined (parts_of c)
