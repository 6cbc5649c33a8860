-- What a span of dots says of the tenths that it was made from, and a rectangle in four parts.
use Rattle.std.proofs.Common.{◌≡◌, ℕ, ◌+◌, min, max, Bool, true, cond, not, ◌&&◌, ◌||◌, arith}
use Rattle.std.proofs.lemmas.Bool.Decides.{nat_tests}
use Rattle.picture.specs.Places.{dot_of, amid}
use Rattle.picture.specs.Spans.{within}
use Rattle.picture.specs.declared.span.Span.{Span}

pub between_is : (s : Span) (a b : ℕ)
    → s.from ≡ min (dot_of a) (dot_of b) → s.to ≡ max (dot_of a) (dot_of b) + 1 → (x : ℕ) → within s x ≡ amid a b x
between_is s a b from to x = grind (arith, nat_tests)

-- rows near an end, whole, and of the rows between the columns near an end
pub frame :
    (first last inner wide left right rows rows_near columns columns_near dot : Bool)
    → (first || last) ≡ (rows && rows_near) → inner ≡ (rows && not rows_near) → wide ≡ columns
    → (left || right) ≡ (columns && columns_near)
    → cond (inner && right) true (cond (inner && left) true (cond (last && wide) true (cond (first && wide) true dot)))
    ≡ cond ((rows && columns) && (rows_near || columns_near)) true dot
frame first last inner wide left right rows rows_near columns columns_near dot h i w k = grind arith
