use Rattle.std.proofs.Common.{rules}
use Rattle.texts.specs.Contents.{contents}
use Rattle.fields.specs.Calls.{retext, retext_refusal}
use Rattle.fields.proofs.table.Fields.set_text.Goals as goal

pub returns : goal.returns
returns c = c.update.ensures (λ s. retext_refusal s.format (contents c.args.text))
    (retext (contents c.args.text)) (λ x y r h. search rules)
