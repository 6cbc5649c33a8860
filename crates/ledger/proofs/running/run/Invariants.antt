use Rattle.ledger.proofs.Logs.{Begun}
use Rattle.ledger.proofs.running.run.Given as goal

abbrev pub invariant-loop-e : goal.invariant-loop-e
invariant-loop-e g l =
    let v = g.M.Machine.view in
    Begun (v l.initial.station) l.initial.answer l.initial.work l.initial.log l.log l.e-index
    (v l.station) l.answer l.work
