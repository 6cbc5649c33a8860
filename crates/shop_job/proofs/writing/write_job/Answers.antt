use Rattle.shop_job.proofs.Written.{told_written}
use Rattle.shop_job.proofs.writing.write_job.Goals as goal

pub returns : goal.returns
returns g c = told_written (λ r. g.W.Write.contents r.out) _ _ _ _ _ _ _ c.run_job-told.result c.run_job-told.ensures
