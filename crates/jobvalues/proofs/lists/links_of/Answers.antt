use Rattle.std.proofs.Common.{ℕ, List, [], ◌∷◌, map, eqb, sym, ap, ap₂, ◌∙◌, rules}
use Rattle.std.proofs.lemmas.Iterator.{YieldsList-from_take}
use Rattle.std.proofs.lemmas.Iterator.Consumers.{YieldsList-end, YieldsList-at}
use Rattle.std.proofs.lemmas.Iterator.Splits.{YieldsList-from_slice_split}
use Rattle.std.proofs.lemmas.List.{map-append}
use denote.Ref.{Bor}
use Rattle.jobvalues.specs.Meaning.{with_link, with_links, links_of}
use Rattle.jobvalues.proofs.Pieces.{with_links_push}
use Rattle.jobvalues.proofs.lists.links_of.Goals as goal

pub loop-number-preserved : goal.loop-number-preserved
unfolding with_link
loop-number-preserved c =
    let more = ap (with_links [])
    (map-append (λ (n : Bor (List ℕ)). n.now) c.loop-number.yielded (c.in-Some.number ∷ []))
    ∙ with_links_push [] (map (λ n. n.now) c.loop-number.yielded) c.in-Some.number.now in
    c.push.ensures.after
    ∙ ap₂ with_link c.loop-number.invariant c.two_digit_number.ensures
    ∙ sym more

pub returns : goal.returns
unfolding links_of
returns c =
    let made = c.split.ensures in
    let parts = YieldsList-from_slice_split {s = c.split.result} _
    (λ (b : ℕ). eqb b 44) c.args.bytes.now made.rest made.done made.closure (search rules) in
    let all = YieldsList-from_take {s = c.into_iter-number-iterator.result} 4 (YieldsList-at (cc) parts) (cc) in
    let done = YieldsList-end all c.loop-number.yielded _ c.loop-number.yielded_by _ _ c.in-None.is c.next.ensures.steps in
    c.loop-number.invariant ∙ ap (with_links []) done.0
