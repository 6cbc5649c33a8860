use Rattle.std.proofs.Common.{◌<◌, length, rules}
use Rattle.fields.proofs.Lifting.{in_texts, in_bars}
use Rattle.fields.proofs.table.Fields.update.Goals as goal

pub returns-in_ok-self-in-Text : goal.returns-in_ok-self-in-Text
returns-in_ok-self-in-Text g c why done k =
    let lt : c.in_ok-self-in-Text.field-0 < length c.args.self.now.texts = search rules in
    in_texts _ c.args.self.now.bars _ c.in-Text.n _ _ c.args.name why done c.change.result lt c.in-Text.is
    c.in_ok-self-in-Text.ensures (k _ _ _ c.change.ensures)

pub returns-in_ok-self-in-Bar : goal.returns-in_ok-self-in-Bar
returns-in_ok-self-in-Bar g c why done k =
    let lt : c.in_ok-self-in-Bar.field-0 < length c.args.self.now.bars = search rules in
    in_bars c.args.self.now.texts _ _ c.in-Bar.n _ _ c.args.name why done c.change-in-Bar.result lt c.in-Bar.is
    c.in_ok-self-in-Bar.ensures (k _ _ _ c.change-in-Bar.ensures)
