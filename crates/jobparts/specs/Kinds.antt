-- The kinds of bytes that parts are made of.
--   of_kind k b        the byte b is of the kind k
--   run k bs           how many bytes at the front of bs are of the kind k
--   is_sign b          b is + or -
--   stands f body at   a byte stands at the place, and passes f
use Rattle.std.specs.Prelude.{ℕ, ◌+◌, Bool, true, false, cond, List, [], ◌∷◌, length, ◌==◌, nat_lt, slice_index}
use Rattle.limits.specs.Bytes.{is_digit, is_capital, in_text}
use Rattle.jobparts.specs.declared.part.ByteKind.{ByteKind}
use Rattle.jobparts.specs.declared.part.ByteKind.TheVariants.{Digit, Capital, CapitalOrDigit, Text}

abbrev pub of_kind : ByteKind → ℕ → Bool
of_kind Digit b = is_digit b
of_kind Capital b = is_capital b
of_kind CapitalOrDigit b = cond (is_capital b) true (is_digit b)
of_kind Text b = in_text b

abbrev pub is_sign : ℕ → Bool
is_sign b = cond (b == 43) true (b == 45)

abbrev pub run : ByteKind → List ℕ → ℕ
run k [] = 0
run k (b ∷ bs) = cond (of_kind k b) (1 + run k bs) 0

abbrev pub stands : (ℕ → Bool) → List ℕ → ℕ → Bool
stands f body at = cond (nat_lt at (length body)) (f (slice_index body at)) false
