-- If all so far may stand in a text, each of them may.
use Rattle.std.proofs.Common.{◌≡◌, true}
use Rattle.texts.specs.Plain.{InTextBelow}
use Rattle.texts.proofs.text.are_in_text.Given as goal

abbrev pub invariant-loop-b : goal.invariant-loop-b
invariant-loop-b l = l.all ≡ true → InTextBelow l.s l.b-index
