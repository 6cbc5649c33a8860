use Rattle.std.proofs.Common.{◌≡◌, ◌+◌, ◌-◌, Ok, Err, suc, sym, ap, ◌∙◌, arith, rules}
use Rattle.jobparts.specs.Items.{element_at}
use Rattle.jobparts.proofs.Listing.{behind, behind_goes_on}
use Rattle.jobparts.proofs.cursor.Cursor.elements.Goals as goal

pub returns-in_err-element-2 : goal.returns-in_err-element-2
returns-in_err-element-2 c =
    let less : c.args.further - c.loop.counter ≡ suc (c.args.further - (c.loop.counter + 1)) = omega arith in
    let here : Err c.in_err-element-2.field-0.0 ≡ element_at c.args.list c.loop.self.body.now (c.loop.self.at + 1) =
    search (rules, c.in_err-element-2.ensures.answer) in
    let fails = sym (c.loop.invariant.0
    ∙ behind_goes_on c.args.list _ _ c.loop.self.body.now c.loop.self.at _ less c.if-not-passes.ensures.stood here) in
    search rules

pub loop-preserved : goal.loop-preserved
loop-preserved c =
    let less : c.args.further - c.loop.counter ≡ suc (c.args.further - (c.loop.counter + 1)) = omega arith in
    let here : Ok c.element-in-loop.new.self.at ≡ element_at c.args.list c.loop.self.body.now (c.loop.self.at + 1) =
    search (rules, c.in_ok-element-2.ensures.answer) in
    let same = c.element-in-loop.ensures.body ∙ c.passes.ensures.body in (
      c.loop.invariant.0
          ∙ behind_goes_on c.args.list _ _ c.loop.self.body.now c.loop.self.at _ less c.if-not-passes.ensures.stood here
          ∙ ap (λ body. behind c.args.list
          (c.args.further - (c.loop.counter + 1)) body.now c.element-in-loop.new.self.at) (sym same),
      same ∙ c.loop.invariant.1,
    )
