-- The picture of a label, dot by dot, and its bytes. A picture tells of a row and a column whether the dot is black.
--   drawn ds r c dot             what the drawings ds, one after the other, make of the dot at row r, column c
--   white                        the picture without a black dot, on which a label is drawn
--   cut_at width long r c dot    the dot where a label of these sizes, in tenths, is cut: white from the width's dot on
--                                and from the length's
--   picture start ds width long  the picture `start` after the drawings, cut
--   packed eight                 the byte of eight dots, the first in the highest bit, black 1
--   byte_at pic p                byte p of a picture
--   bytes_of n pic               the first n bytes of a picture
--   too_short dots               the buffer has no room for a picture
--   shown pic dots               the buffer with the picture at its front; one that is too short stays
use Rattle.std.specs.Prelude.{ℕ, ◌+◌, Bool, false, cond, ◌&&◌, List, [], ◌∷◌, ◌++◌, map, length, drop, nat_lt}
use Rattle.std.specs.List.{range_with_len}
use Rattle.limits.specs.Limits.{picture_bytes}
use Rattle.picture.specs.Bits.{row_of, column_of}
use Rattle.picture.specs.Drawings.{acts}
use Rattle.picture.specs.Places.{dot_of}
use Rattle.picture.specs.declared.drawing.Drawing.{Drawing}

abbrev pub drawn : List Drawing → ℕ → ℕ → Bool → Bool
drawn [] r c dot = dot
drawn (d ∷ ds) r c dot = drawn ds r c (acts d r c dot)

abbrev pub white : ℕ → ℕ → Bool
white r c = false

abbrev pub cut_at : ℕ → ℕ → ℕ → ℕ → Bool → Bool
cut_at width long r c dot = cond (nat_lt r (dot_of long) && nat_lt c (dot_of width)) dot false

abbrev pub picture : (ℕ → ℕ → Bool) → List Drawing → ℕ → ℕ → ℕ → ℕ → Bool
picture start ds width long r c = cut_at width long r c (drawn ds r c (start r c))

abbrev pub packed : (ℕ → Bool) → ℕ
packed eight =
    cond (eight 0) 128 0 + cond (eight 1) 64 0 + cond (eight 2) 32 0 + cond (eight 3) 16 0
    + cond (eight 4) 8 0 + cond (eight 5) 4 0 + cond (eight 6) 2 0 + cond (eight 7) 1 0

abbrev pub byte_at : (ℕ → ℕ → Bool) → ℕ → ℕ
byte_at pic p = packed (λ j. pic (row_of p) (column_of p j))

unfoldable pub bytes_of : ℕ → (ℕ → ℕ → Bool) → List ℕ
bytes_of n pic = map (byte_at pic) (range_with_len 0 n)

abbrev pub too_short : List ℕ → Bool
too_short dots = nat_lt (length dots) picture_bytes

abbrev pub shown : (ℕ → ℕ → Bool) → List ℕ → List ℕ
shown pic dots = cond (too_short dots) dots (bytes_of picture_bytes pic ++ drop picture_bytes dots)
