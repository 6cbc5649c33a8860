-- The loop turns place by place until nothing is carried on, and the rest is rewritten.
use Rattle.std.proofs.Common.{◌≡◌, ◌-◌, ◌<◌, pos, nat_abs, sym, refl, ap, ◌∙◌, subst, arith, w64}
use lib.Signed.{lt_z}
use Rattle.std.proofs.lemmas.Int.{to_z-of_z}
use Rattle.std.proofs.lemmas.Bool.{cond-true}
use Rattle.texts.specs.Turning.{rewritten, is_zero}
use Rattle.texts.specs.Rolling.{Rolled}
use Rattle.texts.proofs.Kept.{kept_text}
use Rattle.texts.proofs.Stepped.{zero_bits, some_bits}
use Rattle.texts.proofs.Carried.{carried_none, carried_step, carried_kept, carried_rewritten, carried_all}
use Rattle.texts.proofs.Meant.{turned_means}
use Rattle.texts.proofs.turn.turn_wheels.Goals.{then-loop-left-test+else-carry-gt0, else-loop-left-test}
use Rattle.texts.proofs.turn.turn_wheels.Goals as goal

pub returns-then-step-eq0 : goal.returns-then-step-eq0
returns-then-step-eq0 g c =
    let w = g.R.CountingRule.wheels c.args.rule.now in
    let l = g.met.R.CountingRule.lawful c.args.rule.now in
    let none = zero_bits c.args.step c.ranges.step c.if-step-eq0.true in
    turned_means w l c.args.text.now c.requires c.args.step c.args.text.now
    (sym (cond-true (is_zero c.args.step) c.args.text.now _ none))

pub loop-left-init : goal.loop-left-init
loop-left-init g c =
    let w = g.R.CountingRule.wheels c.args.rule.now in
    let l = g.met.R.CountingRule.lawful c.args.rule.now in
    record {
      way = refl;
      inside = omega arith;
      turned = carried_none w l c.args.text.now c.requires _ c.unsigned_abs.result _ (omega arith);
    }

pub turn_place-requires-clause-text : goal.turn_place-requires-clause-text
turn_place-requires-clause-text g c =
    let w = g.R.CountingRule.wheels c.args.rule.now in
    let l = g.met.R.CountingRule.lawful c.args.rule.now in
    let t = c.args.text.now in
    kept_text w l t c.requires c.loop-left.text
    (carried_kept w l t c.requires _ _ _ _ _ (omega arith) c.loop-left.invariant.turned)

pub loop-left-preserved : goal.loop-left-preserved
loop-left-preserved g c =
    let w = g.R.CountingRule.wheels c.args.rule.now in
    let l = g.met.R.CountingRule.lawful c.args.rule.now in
    let way = c.loop-left.invariant.way in
    let at = c.loop-left.left - 1 in
    let rolled = subst (λ d. Rolled w c.loop-left.text at d c.loop-left.carry.by c.turn_place.new.text
    c.turn_place.new.carry.by) way c.turn_place.ensures.rolled in
    record {
      way = c.turn_place.ensures.way ∙ way;
      inside = omega arith;
      turned = carried_step w l c.args.text.now c.requires _ c.unsigned_abs.result c.loop-left.left _ _
          c.loop-left.text c.turn_place.new.text c.loop-left-test.true c.loop-left.invariant.inside
          c.loop-left.invariant.turned rolled;
    }

pub returns : goal.returns
returns g c =
    let w = g.R.CountingRule.wheels c.args.rule.now in
    let l = g.met.R.CountingRule.lawful c.args.rule.now in
    let t = c.args.text.now in
    let step = c.args.step in
    let bits = to_z-of_z w64 step c.ranges.step in
    let first = c.loop-left.invariant in
    let none : 0 < c.loop-left.left → c.loop-left.carry.by ≡ 0 =
    elim c.loop-left-test.branch [
      | then-loop-left-test+else-carry-gt0 w' ↦ λ lt. omega (arith, w'.if-carry-gt0.false)
      | else-loop-left-test w' ↦ λ lt. absurd (omega (arith, w'.loop-left-test.false))
    ] in
    let all = carried_rewritten w l t c.requires _ c.unsigned_abs.result c.loop-left.left c.loop-left.carry.by
    c.loop-left.text first.inside none first.turned in
    turned_means w l t c.requires step c.rewrite.new.text
    (c.rewrite.ensures
    ∙ carried_all w l t c.requires _ c.unsigned_abs.result _ _ (rewritten w c.loop-left.text c.loop-left.left) step
    (c.unsigned_abs.ensures.value ∙ ap nat_abs bits) (ap (λ z. lt_z z (pos 0)) (sym bits))
    (some_bits step c.if-step-eq0.false) refl all)
