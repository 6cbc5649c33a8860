use Rattle.std.proofs.lemmas.Result.{err_from_is_err_and}
use Rattle.station.proofs.Recalling.{again, stops, ended}
use Rattle.station.proofs.recall.do_all.Goals as goal

pub returns-in_err-at : goal.returns-in_err-at
returns-in_err-at c =
    let p = err_from_is_err_and c.from_residual.result c.from_residual.ensures.1 in
    rw (p.1, p.2) (stops _ _ _ _ _ _ c.loop-at-test.true c.in_err-at.ensures.done.0 c.loop-at.invariant)

pub loop-at-preserved : goal.loop-at-preserved
loop-at-preserved c =
    let told = c.in_ok-at.ensures in
    again _ _ _ _ _ _ _ c.loop-at-test.true told.on told.done.1 told.done.0 c.loop-at.invariant

pub returns : goal.returns
returns c = ended _ _ _ _ _ c.loop-at-test.false c.loop-at.invariant
