use Rattle.shop_job.proofs.Outcome.{told_of}
use Rattle.shop_job.proofs.running.run_job.Goals as goal

pub returns : goal.returns
returns g c = told_of g.L.Listener.hears _ _ _ _ _ _ _ _ c.work_through-told.result.1
    c.work_through-told.ensures.one_outcome _ _ c.new-2.ensures c.in-Ok.ensures.1
    c.work_through-told.ensures.accounted
