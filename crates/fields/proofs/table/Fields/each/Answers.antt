use Rattle.std.proofs.Common.{◌∙◌, arith, length-set}
use Rattle.fields.proofs.Every.{done_more}
use Rattle.fields.proofs.table.Fields.each.Goals as goal

pub loop-f-preserved : goal.loop-f-preserved
loop-f-preserved g c =
    record {
      made = λ h k. done_more h c.args.self.now.texts c.loop-f.f-items c.loop-f.f-index c.f-item.result _
          (omega arith) c.loop-f.invariant.long (c.loop-f.invariant.made h k) (k _ _ c.change.ensures);
      long = length-set _ _ _ ∙ c.loop-f.invariant.long;
    }

pub loop-f-2-preserved : goal.loop-f-2-preserved
loop-f-2-preserved g c =
    record {
      made = λ h k. done_more h c.args.self.now.bars c.loop-f-2.f-items c.loop-f-2.f-index
          c.f-item-in-loop-f-2.result _
          (omega arith) c.loop-f-2.invariant.long (c.loop-f-2.invariant.made h k)
          (k _ _ c.change-in-loop-f-2.ensures);
      long = length-set _ _ _ ∙ c.loop-f-2.invariant.long;
    }
