use Rattle.std.proofs.Common.{rules}
use Rattle.texts.specs.Contents.{contents}
use Rattle.fields.specs.Records.{seen_format}
use Rattle.fields.specs.Calls.{outside_check, replaced_by}
use Rattle.fields.proofs.table.Fields.replace.Goals as goal

pub returns : goal.returns
returns c =
    c.update.ensures (λ _. outside_check c.args.format.check (contents c.args.text))
    (λ _. replaced_by (seen_format c.args.format) (contents c.args.text)) (λ x y r h. search rules)
