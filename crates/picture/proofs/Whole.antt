-- The bytes of a picture whose every dot is known.
use Rattle.std.proofs.Common.{◌≡◌, ℕ, ◌<◌, Bool, eqb, List, length, get_or, sym, refl, ◌∙◌, arith}
use Rattle.std.proofs.lemmas.List.FromFn.{length-map-range_with_len, get_or-map-range_with_len}
use Rattle.std.proofs.lemmas.List.{same_lists, get_or_default}
use Rattle.std.proofs.lemmas.Bool.{eqb-true}
use Rattle.limits.specs.Limits.{picture_bytes}
use Rattle.picture.specs.Bits.{bit_of, row_of, column_of}
use Rattle.picture.specs.Picture.{packed, byte_at, bytes_of}
use Rattle.picture.specs.Redrawn.{Redrawn}
use Rattle.picture.proofs.Bytes.{each_at}

-- a byte is told by its eight dots
by_dots : (b : ℕ) → b < 256 → packed (bit_of b) ≡ b
by_dots b h = eqb-true (packed (bit_of b)) b (each_at 256 (λ b. eqb (packed (bit_of b)) b) refl b h)

packed_same : (f g : ℕ → Bool) → ((j : ℕ) → j < 8 → f j ≡ g j) → packed f ≡ packed g
packed_same f g same =
    cc (
      same 0 (omega arith),
      same 1 (omega arith),
      same 2 (omega arith),
      same 3 (omega arith),
      same 4 (omega arith),
      same 5 (omega arith),
      same 6 (omega arith),
      same 7 (omega arith),
    )

length_bytes : (n : ℕ) (pic : ℕ → ℕ → Bool) → length (bytes_of n pic) ≡ n
unfolding bytes_of
length_bytes n pic = length-map-range_with_len (byte_at pic) 0 n

get_d_bytes : (n : ℕ) (pic : ℕ → ℕ → Bool) (k d : ℕ) → k < n → get_or (bytes_of n pic) k d ≡ byte_at pic k
unfolding bytes_of
get_d_bytes n pic k d h = get_or-map-range_with_len (byte_at pic) 0 n k k d h (omega arith)

pub whole :
    (pic : ℕ → ℕ → Bool) (xs ys : List ℕ) → length ys ≡ picture_bytes
    → ((k : ℕ) → k < picture_bytes → get_or ys k 0 < 256)
    → Redrawn (λ r c dot. pic r c) xs ys → ys ≡ bytes_of picture_bytes pic
whole pic xs ys len small now =
    same_lists ys (bytes_of picture_bytes pic)
    (len ∙ sym (length_bytes picture_bytes pic))
    (λ k d h.
    get_or_default ys k d 0 h
    ∙ sym (by_dots (get_or ys k 0) (small k (omega arith)))
    ∙ packed_same (bit_of (get_or ys k 0)) (λ j. pic (row_of k) (column_of k j))
    (λ j hj. now.dots k j (omega arith) hj)
    ∙ sym (get_d_bytes picture_bytes pic k d (omega arith)))
