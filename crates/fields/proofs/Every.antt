-- A loop over all fields of a kind that does g to each.
use Rattle.std.proofs.Common.{◌≡◌, ℕ, ◌+◌, ◌<◌, List, ◌++◌, map, length, get_or, take, drop, set, sym, ap, ◌∙◌, arith}
use Rattle.std.proofs.lemmas.List.{map-set, get_or-map, length-map}
use Rattle.std.proofs.lemmas.List.Edits.{map_over_more}
use Rattle.fields.specs.Records.{FieldSeen, seen_field}
use Rattle.fields.specs.declared.field.Field.{Field}

-- the first i fields are done
abbrev pub Done : (FieldSeen → FieldSeen) → List Field → List Field → ℕ → Type 0
Done g before fields i = map seen_field fields ≡ map g (take i (map seen_field before)) ++ drop i
    (map seen_field before)

module _ (g : FieldSeen → FieldSeen) (before fields : List Field) (i : ℕ) where
  pub done_more : (d new : Field) → i < length before → length fields ≡ length before → Done g before fields i
      → seen_field new ≡ g (seen_field (get_or fields i d)) → Done g before (set fields i new) (i + 1)
  done_more d new lt same inv h =
      let lt' : i < length (map seen_field before) = omega (arith, length-map before seen_field) in
      map-set seen_field fields i new
      ∙ ap (set (map seen_field fields) i) h
      ∙ map_over_more g (map seen_field before) (map seen_field fields) i
      (seen_field (get_or fields i d)) lt' inv (sym (get_or-map seen_field fields i d _ (omega arith)))
