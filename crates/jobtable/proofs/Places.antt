-- The item of a row at a place.
use Rattle.std.proofs.Common.{◌≡◌, ℕ, List, Option, slice_get, sym, ap, ◌∙◌}
use Rattle.std.specs.Option.{option_map}
use Rattle.std.proofs.lemmas.Option.{slice_get-map}
use Rattle.jobparts.specs.Grammar.{Item}
use Rattle.jobtable.specs.Items.{item_of, items_of}
use Rattle.jobtable.specs.declared.item.Named.{Named}

pub item_there : (row : List Named) (n : ℕ) (found : Option Named) → found ≡ slice_get row n
    → option_map (λ (named : Named). item_of named.1) found ≡ slice_get (items_of row) n
item_there row n found is =
    ap (λ (o : Option Named). option_map (λ (named : Named). item_of named.1) o) is
    ∙ sym (slice_get-map (λ (named : Named). item_of named.1) row n)
