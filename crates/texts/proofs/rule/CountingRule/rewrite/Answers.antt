-- A place that is fixed, or that the text has not, is as it was.
use Rattle.std.proofs.Common.{◌≡◌, ℕ, ◌-◌, suc, Bool, true, false, cond, List, nat_lt, refl, sym, ap, ◌∙◌, arith}
use Rattle.std.proofs.lemmas.Bool.{cond-false}
use Rattle.std.proofs.lemmas.Bool.Decides.{nat_tests}
use Rattle.std.proofs.lemmas.List.{set_past}
use Rattle.texts.specs.Turning.{placed, rewritten}
use Rattle.texts.proofs.rule.CountingRule.rewrite.Goals.{else-left-text-via-then-left-text+else-radix-ge2, else-left-text-via-else-left-text}
use Rattle.texts.proofs.rule.CountingRule.rewrite.Goals as goal

either : (b : Bool) (u t : List ℕ) → u ≡ t → cond b u t ≡ t
either true u t e = e
either false u t e = refl

pub loop-left-preserved : goal.loop-left-preserved
loop-left-preserved g c =
    let w = g.Self.CountingRule.wheels c.args.self.now in
    let t = c.loop-left.text in
    let k = c.loop-left.left - 1 in
    let stays : placed w t k (w.value t k) ≡ t =
    elim c.else-left-text.branch [
      | else-left-text-via-then-left-text+else-radix-ge2 v ↦
          let fixed : nat_lt 1 (w.radix t k) ≡ false =
          grind (arith, nat_tests, v.radix.ensures, v.if-radix-ge2.false) in
          cond-false _ _ _ fixed
      | else-left-text-via-else-left-text v ↦ either _ _ _ (set_past t k _ v.if-left-text.false)
    ]
    in
    let one_more : suc k ≡ c.loop-left.left = omega arith in
    sym (ap (λ u. rewritten w u k) stays) ∙ ap (rewritten w t) one_more ∙ c.loop-left.invariant
