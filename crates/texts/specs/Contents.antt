-- What a text says, and how one is made.
--   contents t     the bytes of the text t
--   Made s r       r is what making a text from the bytes s answers: the text with just these bytes; or, a byte
--                  that no text may hold being worse than too many bytes, the place of the first such byte; or
--                  that they are too many
use Rattle.std.specs.Prelude.{◌≡◌, ℕ, ◌<◌, ◌≤◌, List, length, Ok, Err, Result}
use Rattle.fixedvec.specs.Items.{items}
use Rattle.limits.specs.Limits.{longest_text}
use Rattle.texts.specs.Plain.{InTextBelow, FirstBad}
use Rattle.texts.specs.declared.text.Text.{Text}
use Rattle.texts.specs.declared.text.TextFault.{TextFault}
use Rattle.texts.specs.declared.text.TextFault.TheVariants.{BadByte, TooLong}

abbrev pub contents : Text → List ℕ
contents t = items t.bytes

abbrev pub Made : List ℕ → Result Text TextFault → Type 0
Made s (Ok t) = (contents t ≡ s) × (length s ≤ longest_text) × InTextBelow s (length s)
Made s (Err (BadByte k)) = FirstBad s k
Made s (Err TooLong) = (longest_text < length s) × InTextBelow s (length s)
