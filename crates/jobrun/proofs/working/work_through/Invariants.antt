use Rattle.jobrun.specs.Stages.{moment}
use Rattle.jobrun.proofs.Effort.{effort}
use Rattle.jobrun.proofs.Steps.{SoFar}
use Rattle.jobrun.proofs.working.work_through.Given as goal

abbrev pub invariant-loop-why : goal.invariant-loop-why
invariant-loop-why g l =
    let v = g.M.Machine.view in
    SoFar g.L.Listener.hears l.job (moment (v l.initial.station) l.initial.answer l.initial.work)
    l.initial.listener l.tags l.at
    (moment (v l.station) l.answer l.work) l.listener

abbrev pub decreases-loop-why : goal.decreases-loop-why
decreases-loop-why g l = effort l.job l.at (g.M.Machine.view l.station)
