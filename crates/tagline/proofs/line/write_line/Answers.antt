-- The line of the code's fields is short, whatever the buffer.
use Rattle.std.proofs.Common.{◌≡◌, map, length, sym, ap, ◌∙◌}
use Rattle.std.proofs.lemmas.List.{length-map}
use Rattle.limits.specs.Limits.{text_fields, bar_fields}
use Rattle.fields.specs.Records.{seen_field}
use Rattle.fields.specs.Tables.{seen_fields}
use Rattle.tagline.proofs.Bounds.{line_short, seen_short}
use Rattle.tagline.proofs.line.write_line.Goals as goal

pub returns-then-work-lt-LONGEST_LINE-clause-short : goal.returns-then-work-lt-LONGEST_LINE-clause-short
returns-then-work-lt-LONGEST_LINE-clause-short c =
    let t = c.args.fields.now in
    let texts : length (map seen_field t.texts) ≡ text_fields =
    sym (ap length c.texts-texts.ensures.seen) ∙ length-map c.texts-texts.result.now seen_field
    ∙ c.texts-texts.ensures.count in
    let bars : length (map seen_field t.bars) ≡ bar_fields =
    sym (ap length c.bars-bars.ensures.seen) ∙ length-map c.bars-bars.result.now seen_field
    ∙ c.bars-bars.ensures.count in
    line_short c.args.number c.args.size (seen_fields t) texts bars (seen_short t.texts) (seen_short t.bars)

pub returns-clause-short : goal.returns-clause-short
returns-clause-short c =
    let t = c.args.fields.now in
    let texts : length (map seen_field t.texts) ≡ text_fields =
    sym (ap length c.texts-texts.ensures.seen) ∙ length-map c.texts-texts.result.now seen_field
    ∙ c.texts-texts.ensures.count in
    let bars : length (map seen_field t.bars) ≡ bar_fields =
    sym (ap length c.bars-bars.ensures.seen) ∙ length-map c.bars-bars.result.now seen_field
    ∙ c.bars-bars.ensures.count in
    line_short c.args.number c.args.size (seen_fields t) texts bars (seen_short t.texts) (seen_short t.bars)
