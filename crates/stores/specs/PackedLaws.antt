-- What holds of forms that lie one behind the other.
use Rattle.std.specs.Prelude.{◌≡◌, ℕ, zero, suc, ◌+◌, ◌<◌, ◌≤◌, Bool, true, false, cond, List, [], ◌∷◌, length, take, drop, replicate, Some, None, Option, ◌==◌, nat_le, slice_index_or, slice_set, refl}
use Rattle.std.proofs.Common.{sym, ap, ◌∙◌, le_of_suc-le-suc, not-suc-le-zero, zero-add, add_assoc, arith, length-take, length-drop}
use Rattle.std.proofs.Math.Dec.{eqb-zero-suc, eqb-suc-zero, eqb-suc-suc}
use Rattle.std.specs.List.{sum_by}
use Rattle.std.proofs.lemmas.List.{take-take, drop-take, drop-drop}
use Rattle.std.proofs.lemmas.List.Sums.{sum_by-cons, sum_by-set}
use Rattle.std.proofs.lemmas.Bool.Decides.{nat_tests}
use Rattle.stores.specs.Forms.{size_of, others_to, from_one}
use Rattle.stores.specs.Packed.{size_in, size_at, used, before, cut, packed_at}

-- the table
pub before_more : (ls : List (Option ℕ)) (k : ℕ) → before ls (suc k) ≡ before ls k + size_at ls k
unfolding before
before_more [] zero = refl
before_more [] (suc k) = refl
before_more (l ∷ ls) zero = sym (zero-add (size_in l + 0)) ∙ omega arith
before_more (l ∷ ls) (suc k) =
    ap (λ (s : ℕ). size_in l + s) (before_more ls k) ∙ sym (add_assoc (size_in l) (before ls k) (size_at ls k))

pub before_all : (ls : List (Option ℕ)) (k : ℕ) → length ls ≤ k → before ls k ≡ used ls
unfolding before used
before_all [] zero h = refl
before_all [] (suc k) h = refl
before_all (l ∷ ls) zero h = absurd (not-suc-le-zero h)
before_all (l ∷ ls) (suc k) h = ap (λ (s : ℕ). size_in l + s) (before_all ls k (le_of_suc-le-suc h))

pub before_most : (ls : List (Option ℕ)) (k : ℕ) → before ls k ≤ used ls
unfolding before used
before_most ls zero = omega arith
before_most [] (suc k) = omega arith
before_most (l ∷ ls) (suc k) = let h = before_most ls k in omega arith

-- both as sums of the library
pub used_sum : (ls : List (Option ℕ)) → used ls ≡ sum_by size_in ls
unfolding used
used_sum [] = refl
used_sum (l ∷ ls) = ap (λ (s : ℕ). size_in l + s) (used_sum ls) ∙ sym (sum_by-cons size_in l ls)

pub before_used : (ls : List (Option ℕ)) (k : ℕ) → before ls k ≡ used (take k ls)
unfolding before used
before_used ls zero = refl
before_used [] (suc k) = refl
before_used (l ∷ ls) (suc k) = ap (λ (s : ℕ). size_in l + s) (before_used ls k)

pub used_front : (ls : List (Option ℕ)) (k : ℕ) → used (take k ls) + size_at ls k ≤ used ls
used_front ls k =
    let is = before_used ls k in let more = before_more ls k in let most = before_most ls (suc k) in omega arith

pub used_set : (ls : List (Option ℕ)) (n : ℕ) (o : Option ℕ) → n < length ls
    → used (slice_set ls n o) + size_at ls n ≡ used ls + size_in o
used_set ls n o h = omega (arith, used_sum (slice_set ls n o), used_sum ls, sum_by-set size_in ls n o None h)

-- equal fronts hold equal forms
front_cut : (l : Option ℕ) (n : ℕ) (b b' : List ℕ) → size_in l ≤ n → take n b' ≡ take n b → cut l b' ≡ cut l b
front_cut (Some s) n b b' h e =
    ap (λ (x : List ℕ). Some x) (sym (take-take s n b' h) ∙ ap (take s) e ∙ take-take s n b h)
front_cut None n b b' h e = refl

front_drop : (s n : ℕ) (b b' : List ℕ) → take (s + n) b' ≡ take (s + n) b → take n (drop s b') ≡ take n (drop s b)
front_drop s n b b' e = sym (drop-take s n b') ∙ ap (drop s) e ∙ drop-take s n b

pub packed_same : (ls : List (Option ℕ)) (b b' : List ℕ) → take (used ls) b' ≡ take (used ls) b → (k : ℕ)
    → packed_at ls b' k ≡ packed_at ls b k
unfolding used packed_at
packed_same [] b b' e k = refl
packed_same (l ∷ ls) b b' e zero = front_cut l (size_in l + used ls) b b' (omega arith) e
packed_same (l ∷ ls) b b' e (suc k) =
    packed_same ls (drop (size_in l) b) (drop (size_in l) b') (front_drop (size_in l) (used ls) b b' e) k

-- a form put in its place: the bytes before it and behind it are the old ones
pub packed_put : (ls : List (Option ℕ)) (n rest : ℕ) (x b b' : List ℕ) → n < length ls
    → before ls n + (size_at ls n + rest) ≡ used ls
    → take (before ls n) b' ≡ take (before ls n) b → take (length x) (drop (before ls n) b') ≡ x
    → take rest (drop (before ls n + length x) b') ≡ take rest (drop (before ls n + size_at ls n) b)
    → (k : ℕ) → packed_at (slice_set ls n (Some (length x))) b' k ≡ cond (k == n) (Some x) (packed_at ls b k)
unfolding before used packed_at
packed_put [] n rest x b b' h s e₁ e₂ e₃ k = absurd (not-suc-le-zero h)
packed_put (l ∷ ls) zero rest x b b' h s e₁ e₂ e₃ zero = ap (λ (y : List ℕ). Some y) e₂
packed_put (l ∷ ls) zero rest x b b' h s e₁ e₂ e₃ (suc k) =
    let z : rest ≡ used ls = omega arith in
    let f : take (used ls) (drop (length x) b') ≡ take (used ls) (drop (size_in l) b) =
    ap (λ (r : ℕ). take r (drop (length x) b')) (sym z)
    ∙ ap (λ (i : ℕ). take rest (drop i b')) (sym (zero-add (length x))) ∙ e₃
    ∙ ap (λ (i : ℕ). take rest (drop i b)) (zero-add (size_in l)) ∙ ap (λ (r : ℕ). take r (drop (size_in l) b)) z in
    rw (eqb-suc-zero k) (packed_same ls (drop (size_in l) b) (drop (length x) b') f k)
packed_put (l ∷ ls) (suc n) rest x b b' h s e₁ e₂ e₃ zero =
    rw (eqb-zero-suc n) (front_cut l (size_in l + before ls n) b b' (omega arith) e₁)
packed_put (l ∷ ls) (suc n) rest x b b' h s e₁ e₂ e₃ (suc k) =
    let i = size_in l in
    let j = before ls n in
    rw (eqb-suc-suc k n) (packed_put ls n rest x (drop i b) (drop i b') (le_of_suc-le-suc h) (omega arith)
    (front_drop i j b b' e₁)
    (ap (take (length x)) (drop-drop j i b') ∙ e₂)
    (ap (take rest) (drop-drop (j + length x) i b' ∙ ap (λ (m : ℕ). drop m b') (sym (add_assoc i j (length x)))) ∙ e₃
    ∙ sym (ap (take rest) (drop-drop (j + size_at ls n) i b
    ∙ ap (λ (m : ℕ). drop m b) (sym (add_assoc i j (size_at ls n)))))) k)

-- the form of an entry
pub packed_at_cut : (ls : List (Option ℕ)) (b : List ℕ) (k : ℕ)
    → packed_at ls b k ≡ cut (slice_index_or ls k None) (drop (before ls k) b)
unfolding before packed_at
packed_at_cut [] b zero = refl
packed_at_cut [] b (suc k) = refl
packed_at_cut (l ∷ ls) b zero = refl
packed_at_cut (l ∷ ls) b (suc k) =
    packed_at_cut ls (drop (size_in l) b) k
    ∙ ap (cut (slice_index_or ls k None)) (drop-drop (before ls k) (size_in l) b)

pub packed_past : (ls : List (Option ℕ)) (b : List ℕ) (k : ℕ) → length ls ≤ k → packed_at ls b k ≡ None
unfolding packed_at
packed_past [] b k h = refl
packed_past (l ∷ ls) b zero h = absurd (not-suc-le-zero h)
packed_past (l ∷ ls) b (suc k) h = packed_past ls (drop (size_in l) b) k (le_of_suc-le-suc h)

cut_size : (l : Option ℕ) (b : List ℕ) → size_in l ≤ length b → size_of (cut l b) ≡ size_in l
cut_size (Some s) b h = simp length-take (omega arith)
cut_size None b h = refl

pub packed_size : (ls : List (Option ℕ)) (b : List ℕ) → used ls ≤ length b → (k : ℕ)
    → size_of (packed_at ls b k) ≡ size_at ls k
unfolding used packed_at
packed_size [] b h zero = refl
packed_size [] b h (suc k) = refl
packed_size (l ∷ ls) b h zero = cut_size l b (omega arith)
packed_size (l ∷ ls) b h (suc k) = packed_size ls (drop (size_in l) b) (simp length-drop (omega arith)) k

pub packed_none : (m : ℕ) (b : List ℕ) (k : ℕ) → packed_at (replicate m None) b k ≡ None
unfolding packed_at
packed_none zero b k = refl
packed_none (suc m) b zero = refl
packed_none (suc m) b (suc k) = packed_none m b k

-- what the other forms have is all but what the form has
pub packed_others : (ls : List (Option ℕ)) (b : List ℕ) → used ls ≤ length b → (m k : ℕ)
    → others_to (from_one (packed_at ls b)) (suc m) k + cond (nat_le (suc m) k) (size_at ls m) 0 ≡ before ls k
unfolding others_to from_one before
packed_others ls b h m zero = grind (arith, nat_tests)
packed_others ls b h m (suc k) =
    let rest = packed_others ls b h m k in
    let size = packed_size ls b h k in
    let more = before_more ls k in
    go (suc k == suc m) refl rest size more
  where
    go : (t : Bool) → (suc k == suc m) ≡ t
        → others_to (from_one (packed_at ls b)) (suc m) k + cond (nat_le (suc m) k) (size_at ls m) 0 ≡ before ls k
        → size_of (packed_at ls b k) ≡ size_at ls k → before ls (suc k) ≡ before ls k + size_at ls k
        → others_to (from_one (packed_at ls b)) (suc m) k + cond t 0 (size_of (packed_at ls b k))
        + cond (nat_le (suc m) (suc k)) (size_at ls m) 0 ≡ before ls (suc k)
    go true e rest size more =
        let same : k ≡ m = grind (arith, nat_tests) in
        let at = ap (size_at ls) same in
        grind (arith, nat_tests)
    go false e rest size more =
        let other : k ≡ m → ⊥ = grind (arith, nat_tests) in
        grind (arith, nat_tests)
