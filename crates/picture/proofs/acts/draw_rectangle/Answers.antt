use Rattle.picture.specs.Places.{amid, near}
use Rattle.picture.specs.Spans.{within}
use Rattle.picture.proofs.Rows.{redrawn_as, redrawn_then}
use Rattle.picture.proofs.Shapes.{between_is, frame}
use Rattle.picture.proofs.acts.draw_rectangle.Goals as goal

pub returns : goal.returns
returns c =
    let a = c.args.corner in
    let b = c.args.opposite in
    let thick = c.args.thick in
    let rows = c.between-rows.result in
    let columns = c.between-columns.result in
    let beside = c.between-beside.result in
    let wide = between_is columns a.x b.x c.between-columns.ensures.from c.between-columns.ensures.to in
    let above_below = redrawn_then _ _ _ _ _ c.fill_box.ensures c.fill_box-2.ensures in
    let and_left = redrawn_then _ _ _ _ _ above_below c.fill_box-3.ensures in
    redrawn_as _ _ _ _
    (λ r k dot hr hk.
    frame (within rows.first r) (within rows.last r) (within rows.inner r) (within columns k)
    (within beside.first k) (within beside.last k)
    (amid a.y b.y r) (near thick a.y b.y r) (amid a.x b.x k) (near thick a.x b.x k) dot
    (c.between-rows.ensures.edge r) (c.between-rows.ensures.inner r) (wide k) (c.between-beside.ensures.edge k))
    (redrawn_then _ _ _ _ _ and_left c.fill_box-4.ensures)
