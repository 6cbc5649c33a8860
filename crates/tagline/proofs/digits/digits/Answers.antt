-- One or two digits more stand before those that are told.
use Rattle.std.proofs.Common.{◌≡◌, ℕ, zero, suc, ◌+◌, ◌-◌, ◌*◌, ◌/◌, ◌%◌, ◌^◌, ◌<◌, cond, eqb, List, ◌∷◌, length, drop, get_or, set, sym, refl, ap, ◌∙◌, arith, length-set}
use Rattle.std.proofs.Math.Nat.{div-one, div-div-eq-div-mul, pow-suc}
use Rattle.std.proofs.lemmas.Bool.{cond-true, cond-false, eq-eqb, ne_eqb}
use Rattle.std.proofs.lemmas.List.{drop_more, drop-set-lt, get_or-set_same}
use Rattle.tagline.specs.Digits.{digit, digits}
use Rattle.tagline.specs.declared.digits.TheConstants.{PAIRS}
use Rattle.texts.proofs.Agreed.{agreed}
use Rattle.tagline.proofs.digits.digits.Goals as goal

-- what stands at a place of the numbers of two digits
abbrev at_place : ℕ → ℕ
at_place k = cond (eqb (k % 2) 0) (digit (k / 2 / 10)) (digit (k / 2))

told : (k : ℕ) → k < 200 → get_or PAIRS.now k 0 ≡ at_place k
told k lt =
    let same : k + 0 ≡ k = omega arith in
    agreed at_place 0 PAIRS.now k refl lt ∙ ap at_place same

tens : (r : ℕ) → get_or PAIRS.now (2 * (r % 100)) 0 ≡ digit (r / 10)
tens r =
    let even : 2 * (r % 100) % 2 ≡ 0 = omega arith in
    let half : 2 * (r % 100) / 2 / 10 % 10 ≡ r / 10 % 10 = omega arith in
    told (2 * (r % 100)) (omega arith)
    ∙ cond-true (eqb (2 * (r % 100) % 2) 0) _ _ (eq-eqb _ 0 even) ∙ ap (λ k. 48 + k) half

ones : (r : ℕ) → get_or PAIRS.now (2 * (r % 100) + 1) 0 ≡ digit r
ones r =
    let odd : (2 * (r % 100) + 1) % 2 ≡ 1 = omega arith in
    let half : (2 * (r % 100) + 1) / 2 % 10 ≡ r % 10 = omega arith in
    told (2 * (r % 100) + 1) (omega arith)
    ∙ cond-false (eqb ((2 * (r % 100) + 1) % 2) 0) _ _ (ne_eqb _ 0 (λ e. omega arith)) ∙ ap (λ k. 48 + k) half

digits_suc : (k n : ℕ) → digit (n / 10 ^ k) ∷ digits k n ≡ digits (suc k) n
digits_suc zero n = ap (λ m. digit m ∷ digits zero n) (div-one n)
digits_suc (suc k) n = refl

from : (t : List ℕ) (i d : ℕ) → i < length t → drop i (set t i d) ≡ d ∷ drop (i + 1) t
from t i d lt =
    let lt' : i < length (set t i d) = omega (arith, length-set t i d) in
    let next : i < i + 1 = omega arith in
    drop_more (set t i d) i 0 lt'
    ∙ ap (λ x. x ∷ drop (i + 1) (set t i d)) (get_or-set_same t i d 0 lt)
    ∙ ap (λ l. d ∷ l) (drop-set-lt (i + 1) t i d next)

-- one digit more stands before those that are told
one_more : (t : List ℕ) (n k i r d : ℕ) → i < length t → drop (i + 1) t ≡ digits k n → r ≡ n / 10 ^ k → d ≡ digit r
    → drop i (set t i d) ≡ digits (suc k) n
one_more t n k i r d lt old rest is =
    from t i d lt ∙ ap (λ l. d ∷ l) old ∙ ap (λ x. x ∷ digits k n) (is ∙ ap digit rest) ∙ digits_suc k n

rest_more : (n k r : ℕ) → r ≡ n / 10 ^ k → r / 10 ≡ n / 10 ^ suc k
rest_more n k r h = ap (λ x. x / 10) h ∙ div-div-eq-div-mul n (10 ^ k) 10 ∙ ap (λ m. n / m) (sym (pow-suc 10 k))

pub loop-place-preserved : goal.loop-place-preserved
loop-place-preserved g c =
    let t = c.loop-place.told in
    let n = c.args.n in
    let p = c.loop-place.place in
    let r = c.loop-place.rest in
    let k = g.row.N - p in
    let inv = c.loop-place.invariant in
    let u = set t (p - 1) (get_or PAIRS.now (2 * (r % 100) + 1) 0) in
    let long : length u ≡ length t = length-set t (p - 1) _ in
    let more : suc (suc k) ≡ g.row.N - (p - 2) = omega arith in
    let back : p - 1 + 1 ≡ p = omega arith in
    let next : p - 2 + 1 ≡ p - 1 = omega arith in
    let one = one_more t n k (p - 1) r _ (omega arith) (ap (λ j. drop j t) back ∙ inv.told) inv.rest (ones r) in
    let ten = rest_more n k r inv.rest in
    let hundred : r / 10 / 10 ≡ r / 100 = omega arith in
    record {
      told = one_more u n (suc k) (p - 2) (r / 10) _ (omega arith) (ap (λ j. drop j u) next ∙ one) ten (tens r)
          ∙ ap (λ j. digits j n) more;
      rest = sym hundred ∙ rest_more n (suc k) (r / 10) ten ∙ ap (λ j. n / 10 ^ j) more;
      long = length-set u (p - 2) _ ∙ long ∙ inv.long;
      inside = omega arith;
    }

pub returns-then-place-eq1 : goal.returns-then-place-eq1
returns-then-place-eq1 g c =
    let t = c.loop-place.told in
    let n = c.args.n in
    let p = c.loop-place.place in
    let inv = c.loop-place.invariant in
    let first : 0 + 1 ≡ p = omega arith in
    let all : suc (g.row.N - p) ≡ g.row.N = omega arith in
    one_more t n (g.row.N - p) 0 c.loop-place.rest _ (omega arith) (ap (λ j. drop j t) first ∙ inv.told) inv.rest refl
    ∙ ap (λ j. digits j n) all
