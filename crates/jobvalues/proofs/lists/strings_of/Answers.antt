use Rattle.std.proofs.Common.{ℕ, eqb, length, take, ◌∙◌, rules}
use Rattle.std.proofs.lemmas.Iterator.{YieldsList-from_take}
use Rattle.std.proofs.lemmas.Iterator.Consumers.{YieldsList-end, YieldsList-at, YieldsList-turn, YieldsList-from_enumerate}
use Rattle.std.proofs.lemmas.Iterator.Splits.{YieldsList-from_slice_split}
use Rattle.std.proofs.lemmas.List.{length_push}
use Rattle.std.proofs.lemmas.List.FromFn.{length-enumerate_from}
use Rattle.texts.specs.Contents.{contents}
use Rattle.jobvalues.specs.Meaning.{parted}
use Rattle.jobvalues.proofs.Pieces.{no_strings, string_turn, string_more, strings_of_split}
use Rattle.jobvalues.proofs.lists.strings_of.Goals as goal

pub loop-k-init : goal.loop-k-init
loop-k-init c = no_strings c.args.bytes.now (contents c.empty-strings.result) c.empty-strings.ensures

pub loop-k-preserved : goal.loop-k-preserved
loop-k-preserved c =
    let made = c.split.ensures in
    let bytes = c.args.bytes.now in
    let parts = YieldsList-from_slice_split {s = c.split.result} _
    (λ (b : ℕ). eqb b 44) bytes made.rest made.done made.closure (search rules) in
    let some = YieldsList-from_take {s = c.take.result} 8 (YieldsList-at (cc) parts) (cc) in
    let all = YieldsList-from_enumerate {s = c.into_iter-k-iterator.result} (YieldsList-at (cc) some) (cc) in
    let turn = YieldsList-turn all c.loop-k.yielded _ c.loop-k.yielded_by _ _
    (c.in-Some.k, c.in-Some.string) c.in-Some.is c.next.ensures.steps in
    string_more c.loop-k.strings c.text_of.result bytes c.in-Some.string.now
    (length c.loop-k.yielded) _ c.in-Some.k c.loop-k.invariant c.text_of.ensures
    (string_turn (length c.loop-k.yielded) c.in-Some.k c.in-Some.string.now bytes turn.0 turn.1)
    (length_push c.loop-k.yielded (c.in-Some.k, c.in-Some.string))

pub returns : goal.returns
returns c =
    let made = c.split.ensures in
    let bytes = c.args.bytes.now in
    let parts = YieldsList-from_slice_split {s = c.split.result} _
    (λ (b : ℕ). eqb b 44) bytes made.rest made.done made.closure (search rules) in
    let some = YieldsList-from_take {s = c.take.result} 8 (YieldsList-at (cc) parts) (cc) in
    let all = YieldsList-from_enumerate {s = c.into_iter-k-iterator.result} (YieldsList-at (cc) some) (cc) in
    let done = YieldsList-end all c.loop-k.yielded _ c.loop-k.yielded_by _ _ c.in-None.is c.next.ensures.steps in
    c.loop-k.invariant ∙ strings_of_split bytes (length c.loop-k.yielded)
    (done.1 ∙ length-enumerate_from 0 (take 8 (parted bytes)))
