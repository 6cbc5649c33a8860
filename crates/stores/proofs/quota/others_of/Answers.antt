use Rattle.std.proofs.Common.{◌≡◌, ◌+◌, ◌-◌, sym, ap, ◌∙◌, arith, rules}
use Rattle.std.proofs.lemmas.Bool.Decides.{nat_tests}
use Rattle.stores.specs.Forms.{others_to}
use Rattle.stores.specs.FormLaws.{others_none, others_next, others_least, size_told}
use Rattle.stores.proofs.quota.others_of.Goals.{then-number-but, else-number-but}
use Rattle.stores.proofs.quota.others_of.Goals as goal

pub loop-number-init : goal.loop-number-init
loop-number-init g c = sym (others_none (g.S.FormStore.forms c.args.store.now).at c.args.but)

pub overflow_add-sum : goal.overflow_add-sum
overflow_add-sum g c =
    let f = g.S.FormStore.forms c.args.store.now in
    let n = c.loop-number.number in
    let lawful = g.met.S.FormStore.lawful c.args.store.now in
    let before = others_least f c.args.but (n - 1) lawful in
    let short = lawful.short n in
    let size = size_told _ _ (f.at n) c.unwrap_or-sum.ensures c.size.ensures in
    let sum = c.loop-number.invariant in
    search rules

pub loop-number-preserved : goal.loop-number-preserved
loop-number-preserved g c =
    let at = (g.S.FormStore.forms c.args.store.now).at in
    let but = c.args.but in
    let n = c.loop-number.number in
    let next = others_next at but n c.loop-number.auto.number in
    let sum = c.loop-number.invariant in
    let here : n ≡ n + 1 - 1 = omega arith in
    let same : c.if-number-but.sum ≡ others_to at but n =
    elim c.if-number-but.branch [
      | then-number-but w ↦
          let size = size_told _ _ (at n) w.unwrap_or-sum.ensures w.size.ensures in
          let other = w.if-number-but.true in
          let is = w.sum-is in
          grind (arith, nat_tests)
      | else-number-but w ↦
          let but = w.if-number-but.false in
          let is = w.sum-is in
          grind (arith, nat_tests)
    ]
    in same ∙ ap (others_to at but) here
