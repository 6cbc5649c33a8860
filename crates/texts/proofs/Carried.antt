-- The walk from the right: the last places turned so far, and what they carry on.
use Rattle.std.proofs.Common.{◌≡◌, ℕ, zero, suc, ◌+◌, ◌-◌, ◌*◌, ◌/◌, ◌%◌, ◌<◌, ◌≤◌, Bool, true, false, ltb, List, length, ℤ, pos, nat_abs, sym, refl, ap, ◌∙◌, subst, mod-eq_of_lt, mul_assoc, add-mul, add_comm, arith}
use native.Mathlib.Nat.{add-mul-div_right, add-mul-mod_self_right}
use lib.Arith.{digits_lt, digits_div}
use lib.Signed.{lt_z}
use Rattle.std.proofs.lemmas.Bool.{cond-false, le-ltb}
use Rattle.texts.specs.Plain.{IsText}
use Rattle.texts.specs.Wheels.{Wheels, Lawful}
use Rattle.texts.specs.Turning.{span, spelt, number, cycle, placed, written, rewritten, is_zero, turned}
use Rattle.texts.specs.Rolling.{Rolls, Rolled}
use Rattle.texts.proofs.Kept.{Kept, kept_text}
use Rattle.texts.proofs.Spans.{span_some}
use Rattle.texts.proofs.Stepped.{stepped_is}
use Rattle.texts.proofs.Written.{wrote}

-- a wheel of r, left of m numbers: x and X turned, or not yet, and y and Y the other way
column : (r m x y X Y c e by : ℕ) → x + e * r ≡ y + c → X + c * m ≡ Y + by
    → x * m + X + e * (r * m) ≡ y * m + Y + by
column r m x y X Y c e by h old =
    let p : e * (r * m) ≡ e * r * m = sym (mul_assoc e r m) in
    let q : x * m + e * r * m ≡ y * m + c * m = sym (add-mul x (e * r) m) ∙ ap (λ z. z * m) h ∙ add-mul y c m in
    omega (arith, p, q, old)

-- wheels that carry into one another roll as one
rolls_both : (down : Bool) (r m d D v V c e by : ℕ) → Rolls down r d c v e → Rolls down m D by V c
    → Rolls down (r * m) (d * m + D) by (v * m + V) e
rolls_both false r m d D v V c e by h old = column r m v d V D c e by h old
rolls_both true r m d D v V c e by h old = column r m d v D V c e by h old

rolls_none : (down : Bool) (by : ℕ) → Rolls down 1 0 by 0 by
rolls_none false by = omega arith
rolls_none true by = omega arith

rolls_same : (down : Bool) (r v : ℕ) → Rolls down r v 0 v 0
rolls_same false r v = omega arith
rolls_same true r v = omega arith

-- u is t with its last k places turned by `by`, and they carry c on
pub record Carried (w : Wheels) (t : List ℕ) (down : Bool) (by k c : ℕ) (u : List ℕ) : Type 0 where
  pub to : ℕ
  pub low : to < span w t k
  pub rolls : Rolls down (span w t k) (spelt w t k) by to c
  pub text : u ≡ written w t to k

module _ (w : Wheels) (l : Lawful w) (t : List ℕ) (h : IsText t) where
  -- whole rounds of the last k places do not show in them
  written_round : (k n a : ℕ) → k ≤ length t → written w t (n + a * span w t k) k ≡ written w t n k
  written_round zero n a le = refl
  written_round (suc k) n a le =
      let r = w.radix t (length t - suc k) in
      let m = span w t k in
      let same : a * (r * m) ≡ a * r * m = sym (mul_assoc a r m) in
      let rest = written_round k n (a * r) (omega arith) in
      let digit : (n + a * r * m) / m % r ≡ n / m % r =
      ap (λ z. z % r) (add-mul-div_right n (a * r) (span_some w l t h k (omega arith)))
      ∙ add-mul-mod_self_right (n / m) a r in
      ap (λ z. written w t (n + z) (suc k)) same
      ∙ ap (λ v. placed w (written w t (n + a * r * m) k) (length t - suc k) v) digit
      ∙ ap (λ u. placed w u (length t - suc k) (n / m % r)) rest

  -- a fixed place passes on what is carried into it
  pub rolled_fixed : (down : Bool) (p c : ℕ) → p < length t → w.radix t p < 2 → Rolled w t p down c t c
  rolled_fixed down p c lt fixed =
      let some = l.some t h p lt in
      let one : 1 ≡ w.radix t p = omega arith in
      let none : 0 ≡ w.value t p = omega (arith, l.below t h p lt) in
      record {
        value = 0;
        below = omega arith;
        rolls = subst (λ r. Rolls down r (w.value t p) c 0 c) one
            (subst (λ d. Rolls down 1 d c 0 c) none (rolls_none down c));
        text = sym (cond-false (ltb 1 (w.radix t p)) _ t (le-ltb 1 (w.radix t p) (omega arith)));
      }

  carried_start : (down : Bool) (by : ℕ) → Carried w t down by 0 by t
  carried_start down by = record { to = 0; low = omega arith; rolls = rolls_none down by; text = refl }

  pub carried_none : (down : Bool) (by k : ℕ) → 0 ≡ k → Carried w t down by k by t
  carried_none down by k none = subst (λ j. Carried w t down by j by t) none (carried_start down by)

  carried_more : (down : Bool) (by k c e : ℕ) (u x : List ℕ) → suc k ≤ length t → Carried w t down by k c u
      → Rolled w u (length t - suc k) down c x e → Carried w t down by (suc k) e x
  carried_more down by k c e u x le s roll =
      let p = length t - suc k in
      let lt : p < length t = omega arith in
      let m = span w t k in
      let v = roll.value in
      let before = wrote w l t h s.to k (omega arith) in
      let same : w.radix u p ≡ w.radix t p = ap (λ y. w.radix y p) s.text ∙ before.radices p lt in
      let was : w.value u p ≡ w.value t p = ap (λ y. w.value y p) s.text ∙ before.front p (omega arith) in
      let below : v < w.radix t p = omega (arith, roll.below) in
      let digit : (v * m + s.to) / m % w.radix t p ≡ v =
      ap (λ z. z % w.radix t p) (digits_div v s.low) ∙ mod-eq_of_lt below in
      let rest : written w t (v * m + s.to) k ≡ u =
      ap (λ z. written w t z k) (add_comm (v * m) s.to) ∙ written_round k s.to v (omega arith)
      ∙ sym s.text in
      record {
        to = v * m + s.to;
        low = digits_lt below s.low;
        rolls = rolls_both down (w.radix t p) m (w.value t p) (spelt w t k) v s.to c e by
            (subst (λ r. Rolls down r (w.value t p) c v e) same
            (subst (λ d. Rolls down (w.radix u p) d c v e) was roll.rolls)) s.rolls;
        text = roll.text ∙ sym (ap (λ y. placed w y p ((v * m + s.to) / m % w.radix t p)) rest
            ∙ ap (placed w u p) digit);
      }

  -- the same by the place that the loop has come to
  pub carried_step : (down : Bool) (by place c e : ℕ) (u x : List ℕ) → 0 < place → place ≤ length t
      → Carried w t down by (length t - place) c u → Rolled w u (place - 1) down c x e
      → Carried w t down by (length t - (place - 1)) e x
  carried_step down by place c e u x some le s roll =
      let k = length t - place in
      let at : place - 1 ≡ length t - suc k = omega arith in
      let one : suc k ≡ length t - (place - 1) = omega arith in
      subst (λ j. Carried w t down by j e x) one
      (carried_more down by k c e u x (omega arith) s (subst (λ q. Rolled w u q down c x e) at roll))

  pub carried_kept : (down : Bool) (by k c : ℕ) (u : List ℕ) → k ≤ length t → Carried w t down by k c u
      → Kept w t u
  carried_kept down by k c u le s = subst (Kept w t) (sym s.text) (wrote w l t h s.to k le).kept

  -- a place that gets the byte of the value that it has is turned by nothing
  pub rolled_same : (down : Bool) (p : ℕ) (u : List ℕ) → p < length t → u ≡ placed w t p (w.value t p)
      → Rolled w t p down 0 u 0
  rolled_same down p u lt e =
      record {
        value = w.value t p;
        below = l.below t h p lt;
        rolls = rolls_same down (w.radix t p) (w.value t p);
        text = e;
      }

  pub carried_all : (down : Bool) (by k c : ℕ) (u : List ℕ) (s : ℤ) → by ≡ nat_abs s → lt_z s (pos 0) ≡ down
      → is_zero s ≡ false
      → k ≡ length t → Carried w t down by k c u → u ≡ turned w t s
  carried_all down by k c u s same sign moves whole part =
      let all = subst (λ k. Carried w t down by k c u) whole part in
      let to = stepped_is down (number w t) (cycle w t) by all.to c s same sign all.low all.rolls in
      all.text ∙ ap (λ n. written w t n (length t)) (sym to) ∙ sym (cond-false (is_zero s) t _ moves)

-- so where nothing is carried on, the place that a loop has come to may be rewritten
pub carried_same : (w : Wheels) → Lawful w → (t : List ℕ) → IsText t → (down : Bool) (by place c : ℕ) (u x : List ℕ)
    → 0 < place → place ≤ length t → c ≡ 0 → Carried w t down by (length t - place) c u
    → x ≡ placed w u (place - 1) (w.value u (place - 1)) → Carried w t down by (length t - (place - 1)) c x
carried_same w l t h down by place c u x some le none s e =
    let kept = carried_kept w l t h down by (length t - place) c u (omega arith) s in
    let same = rolled_same w l u (kept_text w l t h u kept) down (place - 1) x (omega (arith, kept.long)) e in
    carried_step w l t h down by place c c u x some le s
    (subst (λ d. Rolled w u (place - 1) down d x d) (sym none) same)

-- and with it all places before it
pub carried_rewritten : (w : Wheels) → Lawful w → (t : List ℕ) → IsText t → (down : Bool) (by k c : ℕ) (u : List ℕ)
    → k ≤ length t → (0 < k → c ≡ 0) → Carried w t down by (length t - k) c u
    → Carried w t down by (length t) c (rewritten w u k)
carried_rewritten w l t h down by zero c u le none s =
    let all : length t - 0 ≡ length t = omega arith in
    subst (λ j. Carried w t down by j c u) all s
carried_rewritten w l t h down by (suc k) c u le none s =
    let at : suc k - 1 ≡ k = omega arith in
    let nothing = none (omega arith) in
    let one = carried_same w l t h down by (suc k) c u _ (omega arith) le nothing s refl in
    carried_rewritten w l t h down by k c (placed w u k (w.value u k)) (omega arith) (λ _. nothing)
    (subst (λ j. Carried w t down by (length t - j) c (placed w u j (w.value u j))) at one)
