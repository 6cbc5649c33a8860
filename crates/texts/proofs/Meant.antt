-- What turning means, by a lawful rule: the number, the wheels and the fixed bytes.
use Rattle.std.proofs.Common.{◌≡◌, ℕ, ◌<◌, true, false, List, length, ℤ, sym, refl, ap, ◌∙◌, subst, le_refl, mod-eq_of_lt}
use Rattle.std.proofs.lemmas.Bool.{cond-true, cond-false, cond_both}
use Rattle.texts.specs.Plain.{IsText}
use Rattle.texts.specs.Wheels.{Wheels, Lawful}
use Rattle.texts.specs.Turning.{spelt, number, cycle, stepped, written, is_zero, turned, Turned}
use Rattle.texts.proofs.Kept.{Kept, kept_all, kept_text, kept_others}
use Rattle.texts.proofs.Spans.{span_some, spelt_lt, spelt_digits}
use Rattle.texts.proofs.Stepped.{stepped_lt, stepped_none}
use Rattle.texts.proofs.Written.{wrote}

module _ (w : Wheels) (l : Lawful w) (t : List ℕ) (h : IsText t) where
  turned_kept : (s : ℤ) (u : List ℕ) → Kept w t u → u ≡ turned w t s
      → number w u ≡ stepped (number w t) s (cycle w t)
      → ((p : ℕ) → p < length t → w.radix u p ≡ w.radix t p) → Turned w t s u
  turned_kept s u k e counts radices =
      record {
        text = e;
        long = k.long;
        counts = counts;
        radices = radices;
        stays = k.stays;
        digits = k.digits;
        capitals = k.capitals;
        others = kept_others w l t h u k;
      }

  -- all places made to spell n
  written_number : (n : ℕ) → n < cycle w t → number w (written w t n (length t)) ≡ n
  written_number n lt =
      let u = written w t n (length t) in
      let s = wrote w l t h n (length t) (le_refl (length t)) in
      ap (spelt w u) s.kept.long ∙ spelt_digits w l t h u s.kept.long s.radices n (length t)
      (le_refl (length t)) s.digit ∙ mod-eq_of_lt lt

  pub turned_means : (s : ℤ) (u : List ℕ) → u ≡ turned w t s → Turned w t s u
  turned_means s u e = subst (Turned w t s) (sym e)
      (cond_both (is_zero s) t (written w t to (length t)) (Turned w t s) stood moved)
    where
      to : ℕ
      to = stepped (number w t) s (cycle w t)

      stood : is_zero s ≡ true → Turned w t s t
      stood z =
          turned_kept s t (kept_all w t) (sym (cond-true (is_zero s) t _ z))
          (sym (stepped_none (number w t) s (cycle w t) z
          (spelt_lt w l t h (length t) (le_refl (length t))))) (λ p lt. refl)

      moved : is_zero s ≡ false → Turned w t s (written w t to (length t))
      moved z =
          let k = wrote w l t h to (length t) (le_refl (length t)) in
          turned_kept s (written w t to (length t)) k.kept (sym (cond-false (is_zero s) t _ z))
          (written_number to (stepped_lt (number w t) s (cycle w t)
          (span_some w l t h (length t) (le_refl (length t))))) k.radices

  pub turned_text_lem : (s : ℤ) (u : List ℕ) → Turned w t s u → IsText u
  turned_text_lem s u k = kept_text w l t h u
      (record { long = k.long; stays = k.stays; digits = k.digits; capitals = k.capitals })
