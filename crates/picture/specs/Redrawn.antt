-- The bytes of a picture before and after something was drawn.
--   Redrawn f before after   each dot of the picture is what f, given its row and its column, makes of the dot before
use Rattle.std.specs.Prelude.{◌≡◌, ℕ, ◌<◌, Bool, List, slice_index}
use Rattle.limits.specs.Limits.{picture_bytes}
use Rattle.picture.specs.Bits.{bit_of, row_of, column_of}

pub record Redrawn (f : ℕ → ℕ → Bool → Bool) (before after : List ℕ) : Type 0 where
  pub dots : (p j : ℕ) → p < picture_bytes → j < 8
      → bit_of (slice_index after p) j ≡ f (row_of p) (column_of p j) (bit_of (slice_index before p) j)
