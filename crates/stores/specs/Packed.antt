-- What a packed store holds: the forms one behind the other, by their numbers, with a table of their lengths.
--   size_in l         the bytes of an entry of the table: its length, or none
--   size_at ls k      the bytes of the k-th entry, counted from 0
--   used ls           the bytes of all entries
--   before ls k       the bytes of the entries before the k-th: where its form begins
--   packed_at ls b k  the form of the k-th entry in the bytes b, or nothing
--   packed_forms      the meaning of a packed store
--   spliced           the bytes once a form stands between start and end, with what came behind moved up to it
use Rattle.std.specs.Prelude.{ℕ, zero, suc, ◌+◌, ◌-◌, List, [], ◌∷◌, ◌++◌, length, take, drop, Some, None, Option, slice_index_or, slice_range, unwrap_or}
use Rattle.stores.specs.Forms.{Forms, forms_from_one}
use Rattle.stores.specs.declared.packed.TheConstants.{LONGEST, TOTAL}

abbrev pub size_in : Option ℕ → ℕ
size_in l = unwrap_or l 0

abbrev pub size_at : List (Option ℕ) → ℕ → ℕ
size_at ls k = size_in (slice_index_or ls k None)

unfoldable pub used : List (Option ℕ) → ℕ
used [] = 0
used (l ∷ ls) = size_in l + used ls

unfoldable pub before : List (Option ℕ) → ℕ → ℕ
before ls zero = 0
before [] (suc k) = 0
before (l ∷ ls) (suc k) = size_in l + before ls k

abbrev pub cut : Option ℕ → List ℕ → Option (List ℕ)
cut (Some long) b = Some (take long b)
cut None b = None

unfoldable pub packed_at : List (Option ℕ) → List ℕ → ℕ → Option (List ℕ)
packed_at [] b k = None
packed_at (l ∷ ls) b zero = cut l b
packed_at (l ∷ ls) b (suc k) = packed_at ls (drop (size_in l) b) k

-- bytes of a form, and of all
abbrev pub packed_longest : ℕ
packed_longest = LONGEST

abbrev pub packed_total : ℕ
packed_total = TOTAL

abbrev pub packed_forms : List (Option ℕ) → List ℕ → Forms
packed_forms ls b = forms_from_one (packed_at ls b) packed_longest packed_total

abbrev pub spliced : List ℕ → ℕ → ℕ → ℕ → List ℕ → List ℕ
spliced b start end all x =
    take start b ++ (x ++ (slice_range b end all ++ drop (start + length x + (all - end)) b))
