-- Where a byte stands.
use Rattle.std.proofs.Common.{◌≡◌, ℕ, zero, suc, ◌+◌, ◌<◌, ◌≤◌, Bool, true, false, cond, eqb, ltb, List, [], ◌∷◌, length, get_or, Option, Some, None, unwrap_or, refl, sym, ap, ◌∙◌, ⊎_elim, arith}
use Rattle.std.proofs.lemmas.Bool.{cases_lt, le-ltb, cond_both, cond-false, false≢true}
use Rattle.memchr.specs.Find.{IsFirstByte, is_byte}
use Rattle.jobparts.specs.Kinds.{stands}
use Rattle.job.specs.Reading.{before}

-- a byte that stands at a place stands within the body
pub stands_within : (f : ℕ → Bool) (body : List ℕ) (at : ℕ) → true ≡ stands f body at → at < length body
stands_within f body at e =
    ⊎_elim (λ lt. lt) (λ le.
    absurd (false≢true (sym (e
    ∙ cond-false (ltb at (length body)) (f (get_or body at 0)) false (le-ltb at (length body) le)))))
    (cases_lt at (length body))

not_true : (t : Bool) → (t ≡ true → ⊥) → t ≡ false
not_true true other = absurd (other refl)
not_true false other = refl

pub before_le : (b : ℕ) (bs : List ℕ) → before b bs ≤ length bs
before_le b [] = omega arith
before_le b (x ∷ xs) =
    let le = before_le b xs in
    cond_both (eqb x b) 0 (1 + before b xs) (λ n. n ≤ length (x ∷ xs)) (λ _. omega arith) (λ _. omega arith)

-- no byte up to a place is b, and one at the place is, unless the bytes end there
first_is : (b : ℕ) (bs : List ℕ) (k : ℕ) → k ≤ length bs → ((i : ℕ) → i < k → eqb (get_or bs i 0) b ≡ true → ⊥)
    → (k < length bs → eqb (get_or bs k 0) b ≡ true) → before b bs ≡ k
first_is b [] zero le other hit = refl
first_is b [] (suc k) le other hit = let none : ⊥ = omega arith in absurd none
first_is b (x ∷ xs) zero le other hit = ap (λ t. cond t 0 (1 + before b xs)) (hit (omega arith))
first_is b (x ∷ xs) (suc k) le other hit =
    let rest = first_is b xs k (omega arith) (λ i lt. other (suc i) (omega arith)) (λ lt. hit (omega arith)) in
    ap (λ t. cond t 0 (1 + before b xs)) (not_true (eqb x b) (other 0 (omega arith)))
    ∙ (let e : 1 + before b xs ≡ suc k = omega arith in e)

-- the place of the first that passes, or the length
pub before_is : (b : ℕ) (bs : List ℕ) (r : Option ℕ) → IsFirstByte (is_byte b) bs r
    → unwrap_or r (length bs) ≡ before b bs
before_is b bs None h =
    sym (first_is b bs (length bs) (omega arith) (λ i lt is. h i (omega arith) lt is)
    (λ lt. let none : ⊥ = omega arith in absurd none))
before_is b bs (Some k) h =
    let high = h.0.high in
    sym (first_is b bs k (omega arith) (λ i lt is. h.0.before i (omega arith) lt is) (λ lt. h.1))
