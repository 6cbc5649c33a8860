use Rattle.std.proofs.Common.{map, ◌∙◌, rules}
use Rattle.texts.specs.Contents.{contents}
use Rattle.fields.specs.Tables.{seen_fields}
use Rattle.fields.specs.Linking.{linked_if_fits}
use Rattle.fields.proofs.Tests.{table_fits}
use Rattle.fields.proofs.table.Fields.link_fields.Goals as goal

pub returns : goal.returns
returns c accepted =
    let strings = map contents c.args.strings.now in
    let t = seen_fields c.args.self.now in
    c.each.ensures (linked_if_fits strings) (λ x y h. search rules) ∙ table_fits strings t accepted
