-- Items, groups, rows and bodies, moved.
use Rattle.std.proofs.Common.{◌≡◌, ℕ, ◌+◌, ◌-◌, List, [], ◌∷◌, ◌++◌, map, length, drop, Some, None, Option, sym, refl, ap, ◌∙◌, add_assoc}
use Rattle.std.proofs.Math.Seq.{drop-append-add}
use Rattle.std.proofs.lemmas.List.{map-append}
use Rattle.jobparts.specs.Grammar.{Item, fixed, part, number, chosen, lettered, signed, text, strings, source, item_at, group_at, row_at}
use Rattle.jobparts.specs.Parts.{PartSeen, bytes_of, then}
use Rattle.jobparts.specs.declared.part.List.TheVariants.{Strings}
use Rattle.jobgroups.specs.Commands.{command_at}
use Rattle.jobgroups.specs.Table.{letters_of, parts_of, order}
use Rattle.jobgroups.specs.declared.letters.Letters.{Letters}
use Rattle.job.specs.Reading.{first_led, parsed_at, body_at}
use Rattle.joblaw.specs.Located.{shift_part, shift_got, shift_plain, moved}
use Rattle.joblaw.proofs.Leaves.{then_moved, bytes_same, byte_moves, part_moves, number_moves}
use Rattle.joblaw.proofs.Texts.{end_moves, text_moves, list_part_moves, lettered_moves, signed_moves, source_moves, chosen_moves}

pub item_moves : (item : Item) (earlier : List (List ℕ)) (pre body : List ℕ) (at : ℕ) →
    item_at item earlier (pre ++ body) (length pre + at)
    ≡ moved (shift_got (length pre)) (length pre) (item_at item earlier body at)
item_moves (fixed b) earlier pre body at =
    then_moved (λ n. length pre + n) (shift_got (length pre)) (length pre) _ _ _ _ (byte_moves b pre body at)
    (λ _. refl)
item_moves (part k n) earlier pre body at = part_moves k n pre body at
item_moves (number n low high) earlier pre body at = number_moves n low high pre body at
item_moves (chosen k n admits) earlier pre body at = chosen_moves k n admits earlier pre body at
item_moves (lettered letter n high last) earlier pre body at = lettered_moves letter n high last pre body at
item_moves (signed n last) earlier pre body at = signed_moves n last pre body at
item_moves text earlier pre body at = text_moves pre body at
item_moves (strings most) earlier pre body at = list_part_moves Strings (most - 1) pre body at
item_moves (source most) earlier pre body at = source_moves (most - 1) pre body at

pub all_bytes_same : (s : ℕ) (xs : List PartSeen) → map bytes_of (map (shift_part s) xs) ≡ map bytes_of xs
all_bytes_same s [] = refl
all_bytes_same s (x ∷ xs) =
    ap (λ b. b ∷ map bytes_of (map (shift_part s) xs)) (bytes_same s x)
    ∙ ap (λ bs. bytes_of x ∷ bs) (all_bytes_same s xs)

group_moves : (items : List Item) (seen : List PartSeen) (pre body : List ℕ) (at : ℕ) →
    group_at items (map (shift_part (length pre)) seen) (pre ++ body) (length pre + at)
    ≡ moved (shift_got (length pre)) (length pre) (group_at items seen body at)
group_moves [] seen pre body at = refl
group_moves (item ∷ items) seen pre body at =
    ap (λ e. then (item_at item e (pre ++ body) (length pre + at))
    (λ o. group_at items (map (shift_part (length pre)) seen ++ o.0) (pre ++ body) o.1))
    (all_bytes_same (length pre) seen)
    ∙ then_moved (shift_got (length pre)) (shift_got (length pre)) (length pre) _ _ _ _
    (item_moves item (map bytes_of seen) pre body at)
    (λ o. ap (λ xs. group_at items xs (pre ++ body) (length pre + o.1))
    (sym (map-append (shift_part (length pre)) seen o.0)) ∙ group_moves items (seen ++ o.0) pre body o.1)

row_moves : (groups : List (List Item)) (seen : List PartSeen) (pre body : List ℕ) (at : ℕ) →
    row_at groups (map (shift_part (length pre)) seen) (pre ++ body) (length pre + at)
    ≡ moved (map (shift_part (length pre))) (length pre) (row_at groups seen body at)
row_moves [] seen pre body at =
    then_moved (λ u. u) (map (shift_part (length pre))) (length pre) _ _ _ _ (end_moves pre body at) (λ _. refl)
row_moves (group ∷ groups) seen pre body at =
    then_moved (shift_got (length pre)) (map (shift_part (length pre))) (length pre) _ _ _ _
    (group_moves group [] pre body at)
    (λ o. ap (λ xs. row_at groups xs (pre ++ body) (length pre + o.1))
    (sym (map-append (shift_part (length pre)) seen o.0)) ∙ row_moves groups (seen ++ o.0) pre body o.1)

command_moves : (c : Letters) (pre body : List ℕ) (at : ℕ)
    → command_at c (pre ++ body) (length pre + at)
    ≡ moved (shift_plain (length pre)) (length pre) (command_at c body at)
command_moves c pre body at =
    then_moved (map (shift_part (length pre))) (shift_plain (length pre)) (length pre) _ _ _ _
    (row_moves (parts_of c) [] pre body at) (λ _. refl)

parsed_moves : (found : Option Letters) (pre body : List ℕ) (at start : ℕ) →
    parsed_at found (pre ++ body) (length pre + at) (length pre + start)
    ≡ moved (shift_plain (length pre)) (length pre) (parsed_at found body at start)
parsed_moves None pre body at start = refl
parsed_moves (Some c) pre body at start =
    ap (command_at c (pre ++ body)) (add_assoc (length pre) start (length (letters_of c)))
    ∙ command_moves c pre body (start + length (letters_of c))

pub body_moves : (pre body : List ℕ) (at : ℕ)
    → body_at (pre ++ body) (length pre + at) ≡ moved (shift_plain (length pre)) (length pre) (body_at body at)
body_moves pre body at =
    ap (λ i. parsed_at (first_led order (drop i (pre ++ body))) (pre ++ body) (length pre + at) i)
    (add_assoc (length pre) at 1)
    ∙ ap (λ bs. parsed_at (first_led order bs) (pre ++ body) (length pre + at) (length pre + (at + 1)))
    (drop-append-add pre body (at + 1))
    ∙ parsed_moves (first_led order (drop (at + 1) body)) pre body at (at + 1)
