-- A command's groups of items as one list.
--   Step       an item, or the beginning of a group: the parts that a rule may look back at begin anew there
--   steps_of   the steps of groups
--   steps_at   what the steps yield from the front of a list of bytes, places counted from there; nothing may be
--              left over
use Rattle.std.specs.Prelude.{ℕ, List, [], ◌∷◌, ◌++◌, map, drop, Ok, Result}
use Rattle.jobparts.specs.Grammar.{Item, item_at}
use Rattle.jobparts.specs.Items.{end_at}
use Rattle.jobparts.specs.Parts.{PartSeen, Got, bytes_of, then}
use Rattle.jobparts.specs.declared.part.Wrong.{Wrong}
use Rattle.joblaw.specs.Located.{shift_part, moved}

pub data Step : Type 0 where
  anew : Step
  item : Item → Step

abbrev pub group_then : List Item → List Step → List Step
group_then [] steps = steps
group_then (i ∷ items) steps = item i ∷ group_then items steps

abbrev pub steps_of : List (List Item) → List Step
steps_of [] = []
steps_of (group ∷ groups) = anew ∷ group_then group (steps_of groups)

-- what is read behind the parts so far
abbrev pub onward : Got → Result (List PartSeen) Wrong → Result (List PartSeen) Wrong
onward o later = moved (λ parts. o.0 ++ map (shift_part o.1) parts) o.1 later

abbrev pub steps_at : List Step → List (List ℕ) → List ℕ → Result (List PartSeen) Wrong
steps_at [] earlier rest = then (end_at rest 0) (λ _. Ok [])
steps_at (anew ∷ steps) earlier rest = steps_at steps [] rest
steps_at (item i ∷ steps) earlier rest =
    then (item_at i earlier rest 0) (λ o. onward o (steps_at steps (earlier ++ map bytes_of o.0) (drop o.1 rest)))
