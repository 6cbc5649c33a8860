use Rattle.std.proofs.Common.{false, [], arith}
use Rattle.ledger.specs.declared.log.LentCall.TheVariants.{Command}
use Rattle.ledger.specs.declared.log.LogEntry.{LogEntry}
use Rattle.ledger.proofs.Logs.{begun_next, whole}
use Rattle.ledger.proofs.Reading.{reader}
use Rattle.ledger.proofs.Runs.{all_accounted, all_answered, accounted_after}
use Rattle.ledger.proofs.Telling.{told_throughout, all_told, told_after}
use Rattle.ledger.proofs.running.run.Goals as goal

pub loop-e-preserved : goal.loop-e-preserved
loop-e-preserved g c =
    let none : LogEntry = record { call = Command (record { ref_ptr = (0, 0); now = [] }) 0 0 0; accepted = false } in
    begun_next _ _ _ _ _ _ _ _ _ _ c.loop-e.log c.loop-e.e-index none c.perform-e.result
    (omega arith) c.loop-e.auto.answer c.loop-e.auto.work c.loop-e.invariant
    c.perform-e.ensures.step c.perform-e.ensures.answer c.perform-e.ensures.work

pub returns : goal.returns
returns g c =
    let u = g.M.Machine.made_of c.args.parts in
    let x = g.M.Machine.view c.loop-e.station in
    let h = whole _ u x c.args.answer.now c.args.work.now _ _ _ c.loop-e.log c.loop-e.e-index c.make-station.ensures
    (omega arith) c.loop-e.invariant in
    let new = g.met.M.Machine.new c.args.parts in
    let law = all_accounted reader u x _ new h.run in
    record {
      calls = c.loop-e.invariant.calls;
      does = h.does;
      accounted = law;
      answered = all_answered u x _ law;
      end = accounted_after u x _ law;
      told = told_throughout reader u x c.args.answer.now c.args.work.now _ _ c.loop-e.log new h.does;
      told_end = told_after u x _ (all_told reader u x _ new h.run);
    }
