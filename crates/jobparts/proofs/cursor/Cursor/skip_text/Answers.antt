use Rattle.std.proofs.Common.{ap, arith}
use Rattle.jobparts.specs.Kinds.{run}
use Rattle.jobparts.specs.declared.part.ByteKind.TheVariants.{Text}
use Rattle.jobparts.proofs.Runs.{run_le}
use Rattle.jobparts.proofs.cursor.Cursor.skip_text.Goals as goal

pub returns-clause-stop : goal.returns-clause-stop
returns-clause-stop c =
    let le = run_le Text c.rest_at-rest.result.now in
    let same = ap (run Text) c.rest_at-rest.ensures.bytes in
    omega arith
