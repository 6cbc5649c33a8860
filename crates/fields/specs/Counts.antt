-- Numbers of link strings.
--   is_link n               n is the number of a link string
--   LinksBelow ns k         the first k of ns are such numbers
use Rattle.std.specs.Prelude.{◌≡◌, ℕ, ◌<◌, Bool, true, List, slice_index}
use Rattle.limits.specs.Limits.{last_link}
use Rattle.limits.specs.Bytes.{between}

abbrev pub is_link : ℕ → Bool
is_link n = between 1 last_link n

abbrev pub LinksBelow : List ℕ → ℕ → Type 0
LinksBelow ns k = (i : ℕ) → i < k → is_link (slice_index ns i) ≡ true
