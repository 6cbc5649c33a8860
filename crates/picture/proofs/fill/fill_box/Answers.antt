use Rattle.std.proofs.Common.{◌<◌, ◌≤◌, arith}
use Rattle.picture.proofs.Rows.{redrawn_as, redrawn_then, row_more}
use Rattle.picture.proofs.fill.fill_box.Goals as goal

pub loop-row-preserved : goal.loop-row-preserved
loop-row-preserved c =
    let low : c.args.rows.from ≤ c.loop-row.row = omega arith in
    let high : c.loop-row.row < c.min-row-end.result = omega arith in
    let rows = c.args.rows in
    redrawn_as _ _ _ _
    (λ r k dot hr hk. row_more c.args.ink rows.from c.min-row-end.result c.args.columns c.loop-row.row r k dot low high)
    (redrawn_then _ _ _ _ _ c.loop-row.invariant c.fill_row.ensures)
