-- The numbers that the last k places of a text can spell, by a lawful rule.
use Rattle.std.proofs.Common.{◌≡◌, ℕ, zero, suc, ◌-◌, ◌*◌, ◌/◌, ◌%◌, ◌<◌, ◌≤◌, List, length, sym, refl, ap, ◌∙◌, mul-pos, arith}
use native.Mathlib.Nat.{mod-one}
use lib.Arith.{digits_lt, mod-mul}
use Rattle.texts.specs.Plain.{IsText}
use Rattle.texts.specs.Wheels.{Wheels, Lawful}
use Rattle.texts.specs.Turning.{span, spelt}

module _ (w : Wheels) (l : Lawful w) (t : List ℕ) (h : IsText t) where
  pub span_some : (k : ℕ) → k ≤ length t → 0 < span w t k
  span_some zero le = omega arith
  span_some (suc k) le = mul-pos (l.some t h (length t - suc k) (omega arith)) (span_some k (omega arith))

  pub spelt_lt : (k : ℕ) → k ≤ length t → spelt w t k < span w t k
  spelt_lt zero le = omega arith
  spelt_lt (suc k) le = digits_lt (l.below t h (length t - suc k) (omega arith)) (spelt_lt k (omega arith))

  -- a text of the same length and radices spans the same
  pub span_same : (u : List ℕ) → length u ≡ length t → ((p : ℕ) → p < length t → w.radix u p ≡ w.radix t p)
      → (k : ℕ) → k ≤ length t → span w u k ≡ span w t k
  span_same u e same zero le = refl
  span_same u e same (suc k) le =
      let at : w.radix u (length u - suc k) ≡ w.radix t (length t - suc k) =
      ap (λ n. w.radix u (n - suc k)) e ∙ same (length t - suc k) (omega arith) in
      let rest = span_same u e same k (omega arith) in
      ap (λ r. r * span w u k) at ∙ ap (λ m. w.radix t (length t - suc k) * m) rest

  -- and where each of its last k places has the digit of n there, they spell n, as far as they can
  pub spelt_digits : (u : List ℕ) → length u ≡ length t → ((p : ℕ) → p < length t → w.radix u p ≡ w.radix t p)
      → (n k : ℕ) → k ≤ length t → ((j : ℕ) → j < k
      → w.value u (length t - suc j) ≡ n / span w t j % w.radix t (length t - suc j))
      → spelt w u k ≡ n % span w t k
  spelt_digits u e same n zero le digit = sym (mod-one n)
  spelt_digits u e same n (suc k) le digit =
      let p = length t - suc k in
      let here : w.value u (length u - suc k) ≡ n / span w t k % w.radix t p =
      ap (λ m. w.value u (m - suc k)) e ∙ digit k (omega arith) in
      let rest = spelt_digits u e same n k (omega arith) (λ j lt. digit j (omega arith)) in
      let wide = span_same u e same k (omega arith) in
      simp (here, rest, wide) (sym (mod-mul n (l.some t h p (omega arith)) (span_some k (omega arith))))
