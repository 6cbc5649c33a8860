use Rattle.picture.proofs.Drawn.{drawn_more}
use Rattle.picture.proofs.Rows.{redrawn_as, redrawn_then}
use Rattle.picture.proofs.draw_all.Goals as goal

pub loop-drawing-preserved : goal.loop-drawing-preserved
loop-drawing-preserved c =
    let more = drawn_more c.args.drawings.now c.loop-drawing.drawing-index _ in
    redrawn_as _ _ _ _ (λ r k dot hr hk. more r k dot c.loop-drawing-test.true)
    (redrawn_then _ _ _ _ _ c.loop-drawing.invariant c.draw_one.ensures)
