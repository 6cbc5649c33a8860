-- Bytes of a text that give way only to bytes of their kind: it stays a text.
use Rattle.std.proofs.Common.{◌≡◌, ℕ, ◌<◌, true, false, List, length, get_or, refl, ap, ◌∙◌, ⊎_elim, arith}
use Rattle.std.proofs.lemmas.Bool.{cases_Bool}
use Rattle.std.proofs.lemmas.Bool.Decides.{nat_tests}
use Rattle.limits.specs.Bytes.{is_digit, is_capital, in_text}
use Rattle.texts.specs.Plain.{IsText}
use Rattle.texts.specs.Wheels.{Wheels, Lawful}

-- u is t with some of its wheels written
pub record Kept (w : Wheels) (t u : List ℕ) : Type 0 where
  pub long : length u ≡ length t
  pub stays : (p : ℕ) → p < length t → w.radix t p ≡ 1 → get_or u p 0 ≡ get_or t p 0
  pub digits : (p : ℕ) → p < length t → is_digit (get_or t p 0) ≡ true → is_digit (get_or u p 0) ≡ true
  pub capitals : (p : ℕ) → p < length t → is_capital (get_or t p 0) ≡ true → is_capital (get_or u p 0) ≡ true

digit_plain : (b : ℕ) → is_digit b ≡ true → in_text b ≡ true
digit_plain b d = grind (arith, nat_tests)

capital_plain : (b : ℕ) → is_capital b ≡ true → in_text b ≡ true
capital_plain b d = grind (arith, nat_tests)

pub kept_all : (w : Wheels) (t : List ℕ) → Kept w t t
kept_all w t = record { long = refl; stays = λ p lt one. refl; digits = λ p lt d. d; capitals = λ p lt d. d }

module _ (w : Wheels) (l : Lawful w) (t : List ℕ) (h : IsText t) where
  pub kept_others : (u : List ℕ) → Kept w t u → (p : ℕ) → p < length t → is_digit (get_or t p 0) ≡ false
      → is_capital (get_or t p 0) ≡ false → get_or u p 0 ≡ get_or t p 0
  kept_others u s p lt d c = s.stays p lt (l.fixed t h p lt d c)

  kept_plain : (u : List ℕ) → Kept w t u → (p : ℕ) → p < length t → in_text (get_or u p 0) ≡ true
  kept_plain u s p lt =
      ⊎_elim (λ d. digit_plain (get_or u p 0) (s.digits p lt d))
      (λ d.
      ⊎_elim (λ c. capital_plain (get_or u p 0) (s.capitals p lt c))
      (λ c. ap in_text (kept_others u s p lt d c) ∙ h.plain p lt)
      (cases_Bool (is_capital (get_or t p 0))))
      (cases_Bool (is_digit (get_or t p 0)))

  pub kept_text : (u : List ℕ) → Kept w t u → IsText u
  kept_text u s = record {
    short = omega (arith, s.long, h.short);
    plain = λ p lt. kept_plain u s p
        (omega (arith, s.long));
  }
