-- A row of a picture inked byte by byte, and pictures redrawn one after the other.
use Rattle.std.proofs.Common.{◌≡◌, ℕ, ◌+◌, ◌*◌, ◌/◌, ◌%◌, ◌<◌, ◌≤◌, Bool, ◌&&◌, eqb, ltb, leb, List, get_or, ap, ◌∙◌, arith}
use Rattle.std.proofs.lemmas.Bool.Decides.{nat_tests}
use Rattle.picture.specs.Bits.{bit_of}
use Rattle.picture.specs.Inks.{inked}
use Rattle.picture.specs.Redrawn.{Redrawn}
use Rattle.picture.specs.Spans.{within}
use Rattle.picture.specs.declared.ink.Ink.{Ink}
use Rattle.picture.specs.declared.ink.Ink.TheVariants.{Black, White, Flip}
use Rattle.picture.specs.declared.span.Span.{Span}

-- the dots of a row that are inked once its bytes before k are
abbrev pub sofar : ℕ → Span → ℕ → ℕ → ℕ → Bool
sofar row s k r c = eqb r row && (within s c && ltb (c / 8) k)

-- drawn in another way to the same effect
pub redrawn_as :
    (f g : ℕ → ℕ → Bool → Bool) (xs ys : List ℕ)
    → ((r c : ℕ) (dot : Bool) → r < 400 → c < 432 → f r c dot ≡ g r c dot)
    → Redrawn f xs ys → Redrawn g xs ys
redrawn_as f g xs ys same was =
    record {
      dots =
          λ p j hp hj. was.dots p j hp hj
          ∙ same (p / 54) (p % 54 * 8 + j) (bit_of (get_or xs p 0) j) (omega arith) (omega arith);
    }

-- one drawing and then another
pub redrawn_then :
    (f g : ℕ → ℕ → Bool → Bool) (xs ys zs : List ℕ)
    → Redrawn f xs ys → Redrawn g ys zs → Redrawn (λ r c dot. g r c (f r c dot)) xs zs
redrawn_then f g xs ys zs first second =
    record {
      dots = λ p j hp hj. second.dots p j hp hj ∙ ap (g (p / 54) (p % 54 * 8 + j)) (first.dots p j hp hj);
    }

-- the rows of a box, from `from` on and before `to`, that come before row are inked; then one more is
abbrev pub rows_sofar : ℕ → ℕ → Span → ℕ → ℕ → ℕ → Bool
rows_sofar from to columns row r c = (leb from r && (ltb r row && ltb r to)) && within columns c

pub row_more :
    (i : Ink) (from to : ℕ) (columns : Span) (row r c : ℕ) (dot : Bool) → from ≤ row → row < to
    → inked i (eqb r row && within columns c) (inked i (rows_sofar from to columns row r c) dot)
    ≡ inked i (rows_sofar from to columns (row + 1) r c) dot
row_more Black from to columns row r c dot h k = grind (arith, nat_tests)
row_more White from to columns row r c dot h k = grind (arith, nat_tests)
row_more Flip from to columns row r c dot h k = grind (arith, nat_tests)
