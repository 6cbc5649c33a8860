use Rattle.std.proofs.Common.{◌≡◌, Bool, ◌||◌, List, [], ◌∷◌, map, refl, ap, ◌∙◌, rules, tests}
use Rattle.std.specs.List.{list_any}
use Rattle.std.proofs.lemmas.Iterator.{YieldsList-from_slice}
use Rattle.std.proofs.lemmas.Iterator.Search.{any_from_yields_List}
use Rattle.std.proofs.lemmas.Iterator.Consumers.{YieldsList-from_chain}
use Rattle.std.proofs.lemmas.List.Folds.{list_any-append}
use Rattle.fields.specs.Records.{FieldSeen, seen_field}
use Rattle.fields.specs.Tables.{some_field}
use Rattle.fields.specs.declared.field.Field.{Field}
use Rattle.fields.proofs.table.Fields.any.Goals as goal

seen : (p : FieldSeen → Bool) (fields : List Field)
    → list_any (λ f. p (seen_field f)) fields ≡ some_field p (map seen_field fields)
seen p [] = refl
seen p (f ∷ fs) = ap (λ r. p (seen_field f) || r) (seen p fs)

pub returns : goal.returns
returns g c p k =
    let t = c.args.self.now in
    any_from_yields_List (λ f. p (seen_field f)) _ _ c.any.result c.any.ensures.ran
    (YieldsList-from_chain (YieldsList-from_slice t.texts cc) (YieldsList-from_slice t.bars cc) (cc) (cc))
    (λ x b q h. search (rules, tests, k))
    ∙ list_any-append _ t.texts t.bars
    ∙ ap (λ r. r || list_any (λ f. p (seen_field f)) t.bars) (seen p t.texts)
    ∙ ap (λ r. some_field p (map seen_field t.texts) || r) (seen p t.bars)
