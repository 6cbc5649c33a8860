use Rattle.std.proofs.Common.{◌≡◌, true, false, sym, refl, ◌∙◌, arith}
use Rattle.jobrun.specs.Jobs.{is_last}
use Rattle.jobrun.proofs.Only.{one_outcome}
use Rattle.jobrun.proofs.Steps.{fits, less, again, given_up, over}
use Rattle.jobrun.proofs.working.work_through.Goals as goal

pub overflow_add-tags : goal.overflow_add-tags
overflow_add-tags g c =
    let on : is_last c.step-stage.result ≡ false = sym c.is_last.ensures ∙ c.if-is_last.false in
    let few = fits g.L.Listener.hears _ _ _ _ (g.met.M.Machine.new c.args.parts) c.make-station.ensures _ _ _ _
    _ c.loop-why.invariant _ c.step-stage.ensures _ _ c.tags-tags.ensures refl on in
    omega (arith, few)

pub loop-why-smaller : goal.loop-why-smaller
loop-why-smaller g c =
    let on : is_last c.step-stage.result ≡ false = sym c.is_last.ensures ∙ c.if-is_last.false in
    less g.L.Listener.hears _ _ _ _ (g.met.M.Machine.new c.args.parts) c.make-station.ensures _ _ _ _ _
    c.loop-why.invariant _ c.step-stage.ensures _ _ c.tags-tags.ensures c.place_after-at.ensures on

pub loop-why-preserved : goal.loop-why-preserved
loop-why-preserved g c =
    let on : is_last c.step-stage.result ≡ false = sym c.is_last.ensures ∙ c.if-is_last.false in
    again g.L.Listener.hears _ _ _ _ (g.met.M.Machine.new c.args.parts) c.make-station.ensures _ _ _ _ _
    c.loop-why.invariant _ c.step-stage.ensures _ _ c.tags-tags.ensures c.place_after-at.ensures on _
    c.in_default.ensures

pub returns-in-Err-clause-accounted : goal.returns-in-Err-clause-accounted
returns-in-Err-clause-accounted g c =
    given_up g.L.Listener.hears _ _ _ _ (g.met.M.Machine.new c.args.parts) c.make-station.ensures _ _ _ _ _
    c.loop-why.invariant _ c.step-stage.ensures _ _

pub returns-in-Err-clause-one_outcome : goal.returns-in-Err-clause-one_outcome
returns-in-Err-clause-one_outcome g c = one_outcome

pub returns-then-is_last : goal.returns-then-is_last
returns-then-is_last g c =
    let last : is_last c.step-stage.result ≡ true = sym c.is_last.ensures ∙ c.if-is_last.true in
    record {
      accounted = over g.L.Listener.hears _ _ _ _ (g.met.M.Machine.new c.args.parts) c.make-station.ensures _ _
          _ _ _ c.loop-why.invariant _ c.step-stage.ensures _ last c.in_default.ensures;
      one_outcome = one_outcome;
    }
