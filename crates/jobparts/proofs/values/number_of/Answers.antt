use Rattle.std.proofs.Common.{◌≡◌, ◌+◌, ◌-◌, ◌*◌, ◌^◌, ◌<◌, length, get_or, drop, sym, ap, ◌∙◌, pow-suc, add-one, arith, rules}
use Rattle.std.proofs.lemmas.List.{at_drop_more}
use Rattle.jobparts.specs.Values.{value_after}
use Rattle.jobparts.proofs.values.number_of.Goals as goal

pub loop-b-preserved : goal.loop-b-preserved
loop-b-preserved c =
    let i = c.loop-b.b-index in
    let digits = c.first-digits.result.now in
    let lt : i < length digits = search rules in
    let step : value_after c.loop-b.n (drop i digits)
    ≡ value_after (c.loop-b.n * 10 + (get_or digits i 0 - 48)) (drop (i + 1) digits) =
    at_drop_more (value_after c.loop-b.n) digits i 0 lt in
    let more : 10 ^ (i + 1) ≡ 10 ^ i * 10 = rw add-one (pow-suc 10 i) in (
      ap (λ d. value_after (c.loop-b.n * 10 + d) (drop (i + 1) digits)) (c.from.ensures ∙ c.saturating_sub.ensures)
          ∙ sym step ∙ c.loop-b.invariant.0,
      omega arith,
    )
