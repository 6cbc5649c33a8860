-- A text whose last places are written, by a lawful rule: what it spells, and what it keeps.
use Rattle.std.proofs.Common.{◌≡◌, ℕ, zero, suc, ◌+◌, ◌-◌, ◌/◌, ◌%◌, ◌<◌, ◌≤◌, true, ltb, List, length, get_or, set, sym, refl, ap, ◌∙◌, subst, ⊎_elim, mod-lt, arith}
use native.Mathlib.Nat.{mod-one}
use Rattle.std.proofs.lemmas.List.{length-set, get_or-set_same, get_or-set_other}
use Rattle.std.proofs.lemmas.Bool.{cases_eq, cond_both, ltb-true, ltb-false}
use Rattle.limits.specs.Bytes.{is_digit, is_capital}
use Rattle.texts.specs.Plain.{IsText}
use Rattle.texts.specs.Wheels.{Wheels, Lawful}
use Rattle.texts.specs.Turning.{span, written}
use Rattle.texts.proofs.Kept.{Kept, kept_all, kept_text}

-- what holds of b, and of the byte at q where that is not p, holds of the byte at q after b is written at p
at_set : (P : ℕ → Type 0) (u : List ℕ) (p b q : ℕ) → p < length u → (q ≡ p → P b)
    → ((q ≡ p → ⊥) → P (get_or u q 0)) → P (get_or (set u p b) q 0)
at_set P u p b q lt here there =
    ⊎_elim
    (λ e. subst (λ k. P (get_or (set u p b) k 0)) (sym e) (subst P (sym (get_or-set_same u p b 0 lt)) (here e)))
    (λ ne. subst P (sym (get_or-set_other u p q b 0 ne)) (there ne))
    (cases_eq q p)

-- u is t with its last k places made to spell n
pub record Wrote (w : Wheels) (t : List ℕ) (n k : ℕ) (u : List ℕ) : Type 0 where
  pub kept : Kept w t u
  pub radices : (p : ℕ) → p < length t → w.radix u p ≡ w.radix t p
  pub digit : (j : ℕ) → j < k → w.value u (length t - suc j) ≡ n / span w t j % w.radix t (length t - suc j)
  pub front : (p : ℕ) → p + k < length t → w.value u p ≡ w.value t p

module _ (w : Wheels) (l : Lawful w) (t : List ℕ) (h : IsText t) where
  kept_set : (u : List ℕ) (p v : ℕ) → Kept w t u → p < length t → 1 < w.radix t p → v < w.radix u p
      → Kept w t (set u p (w.byte u p v))
  kept_set u p v s lt wheel low =
      let b = w.byte u p v in
      let lt' : p < length u = omega (arith, s.long) in
      let text = kept_text w l t h u s in
      record {
        long = length-set u p b ∙ s.long;
        stays = λ q inside one.
            at_set (λ x. x ≡ get_or t q 0) u p b q lt'
            (λ e. absurd (let r : w.radix t q ≡ w.radix t p = ap (w.radix t) e in omega arith))
            (λ ne. s.stays q inside one);
        digits = λ q inside d.
            at_set (λ x. is_digit x ≡ true) u p b q lt'
            (λ e. l.digits u text p v lt' low (s.digits p lt (ap (λ k. is_digit (get_or t k 0)) (sym e) ∙ d)))
            (λ ne. s.digits q inside d);
        capitals = λ q inside d.
            at_set (λ x. is_capital x ≡ true) u p b q lt'
            (λ e. l.capitals u text p v lt' low (s.capitals p lt
            (ap (λ k. is_capital (get_or t k 0)) (sym e) ∙ d)))
            (λ ne. s.capitals q inside d);
      }

  -- one place more, where it is a wheel
  wrote_wheel : (n k : ℕ) (u : List ℕ) → Wrote w t n k u → suc k ≤ length t → 1 < w.radix u (length t - suc k)
      → (v : ℕ) → v ≡ n / span w t k % w.radix t (length t - suc k)
      → Wrote w t n (suc k) (set u (length t - suc k) (w.byte u (length t - suc k) v))
  wrote_wheel n k u s le wheel v is =
      let p = length t - suc k in
      let lt : p < length t = omega arith in
      let lt' : p < length u = omega (arith, s.kept.long) in
      let same = s.radices p lt in
      let low' = mod-lt (n / span w t k) {m = w.radix t p} (omega arith) in
      let low : v < w.radix u p = omega arith in
      let text = kept_text w l t h u s.kept in
      let b = w.byte u p v in
      record {
        kept = kept_set u p v s.kept lt (omega arith) low;
        radices = λ q inside. l.keeps u text p v lt' low q (omega (arith, s.kept.long)) ∙ s.radices q inside;
        digit = λ j more.
            ⊎_elim
            (λ e. subst (λ i. w.value (set u p b) (length t - suc i) ≡ n / span w t i % w.radix t
            (length t - suc i)) (sym e) (l.gives u text p v lt' low ∙ is))
            (λ ne. l.spares u text p v lt' low (length t - suc j) (omega (arith, s.kept.long))
            (λ e. omega arith) ∙ s.digit j (omega arith))
            (cases_eq j k);
        front = λ q inside. l.spares u text p v lt' low q (omega (arith, s.kept.long)) (λ e. omega arith)
            ∙ s.front q (omega arith);
      }

  -- one place more, where it is fixed
  wrote_fixed : (n k : ℕ) (u : List ℕ) → Wrote w t n k u → suc k ≤ length t → w.radix u (length t - suc k) ≤ 1
      → Wrote w t n (suc k) u
  wrote_fixed n k u s le fixed =
      let p = length t - suc k in
      let lt : p < length t = omega arith in
      let some = l.some t h p lt in
      let one : w.radix t p ≡ 1 = omega (arith, s.radices p lt) in
      let none : w.value t p ≡ 0 = omega (arith, l.below t h p lt) in
      let zeroth : w.value u p ≡ n / span w t k % w.radix t p =
      s.front p (omega arith) ∙ none ∙ sym (mod-one (n / span w t k))
      ∙ ap (λ r. n / span w t k % r) (sym one) in
      record {
        kept = s.kept;
        radices = s.radices;
        digit = λ j more.
            ⊎_elim (λ e. subst (λ i. w.value u (length t - suc i) ≡ n / span w t i % w.radix t
            (length t - suc i)) (sym e) zeroth) (λ ne. s.digit j (omega arith)) (cases_eq j k);
        front = λ q inside. s.front q (omega arith);
      }

  pub wrote : (n k : ℕ) → k ≤ length t → Wrote w t n k (written w t n k)
  wrote n zero le = record {
    kept = kept_all w t;
    radices = λ p lt. refl;
    digit = λ j lt. absurd
        (omega arith);
    front = λ p lt. refl;
  }
  wrote n (suc k) le =
      let u = written w t n k in
      let s = wrote n k (omega arith) in
      let p = length t - suc k in
      cond_both (ltb 1 (w.radix u p)) (set u p (w.byte u p (n / span w t k % w.radix t p))) u
      (Wrote w t n (suc k))
      (λ e. wrote_wheel n k u s le (ltb-true 1 (w.radix u p) e) (n / span w t k % w.radix t p) refl)
      (λ e. wrote_fixed n k u s le (ltb-false 1 (w.radix u p) e))
