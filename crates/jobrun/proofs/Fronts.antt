-- Fronts that are written into buffers, one over another.
use Rattle.std.proofs.Common.{◌≡◌, ℕ, ◌+◌, ◌-◌, ◌≤◌, Bool, true, false, leb, List, [], ◌++◌, length, drop, sym, refl, ap, ◌∙◌, append_assoc, append-nil, arith, length-append}
use mathlib.Core.Path.{subst⁻¹}
use Rattle.std.proofs.Math.ListN.{drop_of_length-le}
use Rattle.std.proofs.lemmas.List.{length-drop, drop-append-le}
use Rattle.std.proofs.lemmas.Slice.{drop-append-drop}
use Rattle.std.proofs.lemmas.Bool.{leb-false, leb-true}
use Rattle.jobrun.specs.Outcomes.{SameFront}

over : (f g a : List ℕ) →
    f ++ drop (length f) (g ++ drop (length g) a) ≡ (f ++ drop (length f) g) ++ drop
    (length (f ++ drop (length f) g)) a
over f g a = go (leb (length f) (length g)) refl
  where
    sum : length (f ++ drop (length f) g) ≡ length f + (length g - length f)
    sum = length-append f (drop (length f) g) ∙ ap (λ (k : ℕ). length f + k) (length-drop (length f) g)

    go : (b : Bool) → leb (length f) (length g) ≡ b →
        f ++ drop (length f) (g ++ drop (length g) a) ≡ (f ++ drop (length f) g) ++ drop
        (length (f ++ drop (length f) g)) a
    go true h =
        let le : length f ≤ length g = leb-true (length f) (length g) h in
        let long : length (f ++ drop (length f) g) ≡ length g = omega (arith, sum, le) in
        ap (λ (r : List ℕ). f ++ r) (drop-append-le (length f) g (drop (length g) a) le)
        ∙ sym (append_assoc f (drop (length f) g) (drop (length g) a))
        ∙ sym (ap (λ (k : ℕ). (f ++ drop (length f) g) ++ drop k a) long)
    go false h =
        let more = leb-false (length f) (length g) h in
        let le : length g ≤ length f = omega (arith, more) in
        let none : f ++ drop (length f) g ≡ f = ap (λ (r : List ℕ). f ++ r) (drop_of_length-le g le) ∙ append-nil f in
        ap (λ (r : List ℕ). f ++ r) (drop-append-drop (length g) a g (length f) le refl)
        ∙ sym (ap (λ (r : List ℕ). r ++ drop (length r) a) none)

pub front_none : (a a' b b' : List ℕ) → a' ≡ a → b' ≡ b → SameFront a a' b b'
front_none a a' b b' p q = record { front = []; fits = omega arith; fits' = omega arith; one = p; other = q }

pub kept_long : (f a a' : List ℕ) → length f ≤ length a → a' ≡ f ++ drop (length f) a → length a' ≡ length a
kept_long f a a' le h =
    let sum : length (f ++ drop (length f) a) ≡ length f + (length a - length f) =
    length-append f (drop (length f) a) ∙ ap (λ (k : ℕ). length f + k) (length-drop (length f) a) in
    ap (λ (x : List ℕ). length x) h ∙ omega (arith, sum, le)

pub front_then : (a a' a'' b b' b'' : List ℕ) → SameFront a a' b b' → SameFront a' a'' b' b'' → SameFront a a'' b b''
front_then a a' a'' b b' b'' g h =
    let f = h.front ++ drop (length h.front) g.front in
    let sum : length f ≡ length h.front + (length g.front - length h.front) =
    length-append h.front (drop (length h.front) g.front)
    ∙ ap (λ (k : ℕ). length h.front + k) (length-drop (length h.front) g.front) in
    let la = kept_long g.front a a' g.fits g.one in
    let lb = kept_long g.front b b' g.fits' g.other in
    record {
      front = f;
      fits = let p = g.fits in let q = h.fits in omega (arith, sum, la, p, q);
      fits' = let p = g.fits' in let q = h.fits' in omega (arith, sum, lb, p, q);
      one = h.one ∙ ap (λ (x : List ℕ). h.front ++ drop (length h.front) x) g.one ∙ over h.front g.front a;
      other = h.other ∙ ap (λ (x : List ℕ). h.front ++ drop (length h.front) x) g.other ∙ over h.front g.front b;
    }

pub front_same : (f f' a e a' e' : List ℕ) → f ≡ f' → length f ≤ length a → length f' ≤ length a' →
    e ≡ f ++ drop (length f) a → e' ≡ f' ++ drop (length f') a' → SameFront a e a' e'
front_same f f' a e a' e' same le le' p q = record {
  front = f;
  fits = le;
  fits' = subst⁻¹ (λ (k : List ℕ). length k ≤ length a') same le';
  one = p;
  other = subst⁻¹ (λ (k : List ℕ). e' ≡ k ++ drop (length k) a') same q;
}

-- a line for which a buffer has room
line_fits : (l w e : List ℕ) → e ≡ l ++ drop (length l) w → length e ≡ length w → length l ≤ length w
line_fits l w e p long = let sum = ap (λ (k : List ℕ). length k) p ∙ length-append l (drop (length l) w) in
    omega (arith, sum, long)

pub front_line : (l l' w e w' e' : List ℕ) → l ≡ l' → e ≡ l ++ drop (length l) w →
    e' ≡ l' ++ drop (length l') w' → length e ≡ length w → length e' ≡ length w' → SameFront w e w' e'
front_line l l' w e w' e' same p q long long' =
    front_same l l' w e w' e' same (line_fits l w e p long) (line_fits l' w' e' q long') p q
