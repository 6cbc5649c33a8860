-- What holds of the meaning of every form store.
use Rattle.std.specs.Prelude.{◌≡◌, ℕ, zero, suc, ◌+◌, ◌-◌, ◌*◌, ◌≤◌, false, cond, List, Some, None, Option, ◌==◌, unwrap_or, refl}
use Rattle.std.proofs.Common.{sym, ap, ◌∙◌, mul-suc, mul-zero, not-suc-le-zero, arith}
use Rattle.std.proofs.Math.Path.{fun_ext}
use Rattle.std.proofs.Math.Dec.{eqb-zero-suc, eqb-suc-suc}
use Rattle.std.proofs.lemmas.Bool.Decides.{nat_tests}
use Rattle.limits.specs.Bytes.{between}
use Rattle.limits.specs.Limits.{longest_form}
use Rattle.stores.specs.Forms.{Forms, size_of, length_of, others_to, from_one, forms_from_one, stored, vacant, Lawful}

-- the other forms leave a place of b bytes free among k places
pub others_below : (at : ℕ → Option (List ℕ)) (b n k : ℕ) → ((j : ℕ) → size_of (at j) ≤ b)
    → others_to at n k + cond (between 1 k n) b 0 ≤ b * k
unfolding others_to
others_below at b n zero h = rw mul-zero (grind (arith, nat_tests))
others_below at b n (suc k) h =
    let more = h (suc k) in
    let rest = others_below at b n k h in
    let m = mul-suc b k in
    rw m (grind (arith, nat_tests))

-- a number is one more than its place
pub from_one_at : (g : ℕ → Option (List ℕ)) (n p : ℕ) → n ≡ p + 1 → from_one g n ≡ g p
unfolding from_one
from_one_at g n p e = let z : n ≡ suc p = omega arith in ap (from_one g) z

-- one form more, counted from 0, is one form more
pub from_one_stored : (g h : ℕ → Option (List ℕ)) (p : ℕ) (x : Option (List ℕ))
    → ((k : ℕ) → h k ≡ cond (k == p) x (g k)) → (k : ℕ) → from_one h k ≡ cond (k == suc p) x (from_one g k)
unfolding from_one
from_one_stored g h p x e zero = rw (eqb-zero-suc p)
from_one_stored g h p x e (suc k) = e k ∙ rw (eqb-suc-suc k p)

-- the same of whole meanings
pub stored_is : (g h : ℕ → Option (List ℕ)) (n p : ℕ) (x : List ℕ) (l t : ℕ) → n ≡ p + 1
    → ((k : ℕ) → h k ≡ cond (k == p) (Some x) (g k))
    → forms_from_one h l t ≡ stored (forms_from_one g l t) n x
stored_is g h n p x l t e same =
    let next : suc p ≡ n = omega arith in
    let holds = fun_ext (from_one_stored g h p (Some x) same) in
    ap (λ (f : ℕ → Option (List ℕ)). record { at = f; longest = l; total = t }) holds
    ∙ ap (λ (m : ℕ). stored (forms_from_one g l t) m x) next

pub from_one_none : (g : ℕ → Option (List ℕ)) → ((k : ℕ) → g k ≡ None) → (k : ℕ) → from_one g k ≡ None
unfolding from_one
from_one_none g e zero = refl
from_one_none g e (suc k) = e k

-- no form at all
pub vacant_is : (g : ℕ → Option (List ℕ)) (l t : ℕ) → ((k : ℕ) → g k ≡ None) → forms_from_one g l t ≡ vacant l t
vacant_is g l t none =
    ap (λ (f : ℕ → Option (List ℕ)). record { at = f; longest = l; total = t }) (fun_ext (from_one_none g none))

pub from_one_sizes : (g : ℕ → Option (List ℕ)) (b : ℕ) → ((k : ℕ) → size_of (g k) ≤ b) → (k : ℕ)
    → size_of (from_one g k) ≤ b
unfolding from_one
from_one_sizes g b e zero = omega arith
from_one_sizes g b e (suc k) = e k

pub from_one_outside : (g : ℕ → Option (List ℕ)) (m : ℕ) → ((k : ℕ) → m ≤ k → g k ≡ None) → (n : ℕ)
    → between 1 m n ≡ false → from_one g n ≡ None
unfolding from_one
from_one_outside g m e zero h = refl
from_one_outside g m e (suc k) h = e k (grind (arith, nat_tests))

pub others_none : (at : ℕ → Option (List ℕ)) (n : ℕ) → others_to at n 0 ≡ 0
unfolding others_to
others_none at n = refl

pub others_next : (at : ℕ → Option (List ℕ)) (n k : ℕ) → 1 ≤ k
    → others_to at n k ≡ others_to at n (k - 1) + cond (k == n) 0 (size_of (at k))
unfolding others_to
others_next at n zero h = absurd (not-suc-le-zero h)
others_next at n (suc k) h =
    let here : suc k - 1 ≡ k = omega arith in
    ap (λ (i : ℕ). others_to at n i + cond (suc k == n) 0 (size_of (at (suc k)))) (sym here)

-- the bytes of a form, from what a store tells of its size
pub size_told : (long : ℕ) (told : Option ℕ) (o : Option (List ℕ)) → long ≡ unwrap_or told 0 → told ≡ length_of o
    → long ≡ size_of o
size_told long told (Some x) e h = e ∙ ap (λ (t : Option ℕ). unwrap_or t 0) h
size_told long told None e h = e ∙ ap (λ (t : Option ℕ). unwrap_or t 0) h

-- the other forms of k numbers have at most the longest form's bytes each
pub others_least : (f : Forms) (n k : ℕ) → Lawful f → others_to f.at n k ≤ longest_form * k
others_least f n k w = let h = others_below f.at longest_form n k w.short in omega arith
