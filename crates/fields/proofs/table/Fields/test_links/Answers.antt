use Rattle.std.proofs.Common.{◌≡◌, true, false, map, sym, ◌∙◌, rules}
use Rattle.texts.specs.Contents.{contents}
use Rattle.fields.specs.Tables.{seen_fields, any_field}
use Rattle.fields.specs.Linking.{too_long, outside}
use Rattle.fields.proofs.Tests.{refusal_fits}
use Rattle.fields.proofs.table.Fields.test_links.Goals as goal

pub returns-then-any-2 : goal.returns-then-any-2
returns-then-any-2 c =
    let strings = map contents c.args.strings.now in
    let t = seen_fields c.args.self.now in
    let fits : any_field (too_long strings) t ≡ false =
    sym (c.any.ensures (too_long strings) (λ x r h. search rules)) ∙ c.if-any.false in
    let yes : any_field (outside strings) t ≡ true =
    sym (c.any-2.ensures (outside strings) (λ x r h. search rules)) ∙ c.if-any-2.true in
    sym (refusal_fits strings t true fits yes)

pub returns : goal.returns
returns c =
    let strings = map contents c.args.strings.now in
    let t = seen_fields c.args.self.now in
    let fits : any_field (too_long strings) t ≡ false =
    sym (c.any.ensures (too_long strings) (λ x r h. search rules)) ∙ c.if-any.false in
    let no : any_field (outside strings) t ≡ false =
    sym (c.any-2.ensures (outside strings) (λ x r h. search rules)) ∙ c.if-any-2.false in
    sym (refusal_fits strings t false fits no)
