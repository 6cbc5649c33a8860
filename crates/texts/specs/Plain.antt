-- What a text may be.
--   InTextBelow s n   the first n bytes of s are bytes that a text may hold
--   FirstBad s k      place k is the first whose byte no text may hold
--   IsText s          s is a text: at most forty such bytes
use Rattle.std.specs.Prelude.{◌≡◌, ℕ, ◌<◌, ◌≤◌, true, false, List, length, slice_index}
use Rattle.limits.specs.Bytes.{in_text}
use Rattle.limits.specs.Limits.{longest_text}

abbrev pub InTextBelow : List ℕ → ℕ → Type 0
InTextBelow s n = (k : ℕ) → k < n → in_text (slice_index s k) ≡ true

pub record IsText (s : List ℕ) : Type 0 where
  pub short : length s ≤ longest_text
  pub plain : InTextBelow s (length s)

pub record FirstBad (s : List ℕ) (k : ℕ) : Type 0 where
  pub there : k < length s
  pub before : InTextBelow s k
  pub bad : in_text (slice_index s k) ≡ false
