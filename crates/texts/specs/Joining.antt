-- How texts are joined.
--   Fits s r   r is what joining texts to the bytes s answers: the text with just these bytes, or none where they
--              are too many for a text
use Rattle.std.specs.Prelude.{◌≡◌, ℕ, ◌<◌, ◌≤◌, List, length, Some, None, Option}
use Rattle.limits.specs.Limits.{longest_text}
use Rattle.texts.specs.Contents.{contents}
use Rattle.texts.specs.declared.text.Text.{Text}

abbrev pub Fits : List ℕ → Option Text → Type 0
Fits s (Some t) = (contents t ≡ s) × (length s ≤ longest_text)
Fits s None = longest_text < length s
