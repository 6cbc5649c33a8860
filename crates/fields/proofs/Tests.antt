-- What no field's joined text being too long gives.
use Rattle.std.proofs.Common.{◌≡◌, ℕ, Bool, true, false, cond, List, [], ◌∷◌, map, Some, None, refl, ap, ◌∙◌}
use Rattle.std.proofs.lemmas.Bool.{or_parts}
use Rattle.fields.specs.Records.{FieldSeen}
use Rattle.fields.specs.Tables.{Table, some_field, any_field, each_field}
use Rattle.fields.specs.Linking.{too_long, outside, linked_field, linked_if_fits, linked, link_refusal}
use Rattle.fields.specs.declared.fault.FieldFault.TheVariants.{JoinedTooLong, OutsideCheck}

linked_fits : (strings : List (List ℕ)) (seen : List FieldSeen) → some_field (too_long strings) seen ≡ false
    → map (linked_if_fits strings) seen ≡ map (linked_field strings) seen
linked_fits strings [] h = refl
linked_fits strings (s ∷ ss) h =
    let b = or_parts (too_long strings s) (some_field (too_long strings) ss) h in
    ap (λ t. cond t s (linked_field strings s) ∷ map (linked_if_fits strings) ss) b.0
    ∙ ap (λ l. linked_field strings s ∷ l) (linked_fits strings ss b.1)

-- where strings are not refused, all joined texts fit
accepted_fits : (strings : List (List ℕ)) (t : Table) → link_refusal strings t ≡ None
    → any_field (too_long strings) t ≡ false
accepted_fits strings t = go (any_field (too_long strings) t)
  where
    go : (b : Bool) → cond b (Some JoinedTooLong)
        (cond (any_field (outside strings) t) (Some OutsideCheck) None) ≡ None
        → b ≡ false
    go true h = cc
    go false h = refl

-- so every linked field gets its joined text
pub table_fits : (strings : List (List ℕ)) (t : Table) → link_refusal strings t ≡ None
    → each_field (linked_if_fits strings) t ≡ linked strings t
table_fits strings t accepted =
    let fits = or_parts _ _ (accepted_fits strings t accepted) in
    let texts = linked_fits strings t.texts fits.0 in
    let bars = linked_fits strings t.bars fits.1 in
    cc

-- where all joined texts fit, only a character outside a check's set is a reason to refuse
pub refusal_fits : (strings : List (List ℕ)) (t : Table) (b : Bool) → any_field (too_long strings) t ≡ false
    → any_field (outside strings) t ≡ b → link_refusal strings t ≡ cond b (Some OutsideCheck) None
refusal_fits strings t b fits e =
    ap (λ l. cond l (Some JoinedTooLong) (cond (any_field (outside strings) t) (Some OutsideCheck) None)) fits
    ∙ ap (λ o. cond o (Some OutsideCheck) None) e
