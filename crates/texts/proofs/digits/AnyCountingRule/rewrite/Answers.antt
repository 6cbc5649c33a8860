-- Wheels that are digits have the bytes of their values.
use Rattle.std.proofs.Common.{◌≡◌, ℕ, zero, suc, Bool, ltb, List, set, sym, refl, ap, ◌∙◌}
use Rattle.std.proofs.lemmas.List.{set-get_or}
use Rattle.std.proofs.lemmas.Bool.{cond_both}
use Rattle.texts.specs.Digits.{digit_wheels}
use Rattle.texts.specs.DigitWheels.{Tests, byte_kept}
use Rattle.texts.specs.Turning.{placed, rewritten}
use Rattle.texts.proofs.digits.AnyCountingRule.rewrite.Goals as goal

module _ (wheel : List ℕ → ℕ → Bool) (s : Tests wheel) where
  same_place : (t : List ℕ) (p : ℕ) → placed (digit_wheels wheel) t p ((digit_wheels wheel).value t p) ≡ t
  same_place t p =
      let w = digit_wheels wheel in
      let stays : set t p (w.byte t p (w.value t p)) ≡ t = ap (set t p) (byte_kept wheel s t p) ∙ set-get_or t p 0 in
      cond_both (ltb 1 (w.radix t p)) _ t (λ u. u ≡ t) (λ _. stays) (λ _. refl)

  same_text : (k : ℕ) (t : List ℕ) → rewritten (digit_wheels wheel) t k ≡ t
  same_text zero t = refl
  same_text (suc k) t = ap (λ u. rewritten (digit_wheels wheel) u k) (same_place t k) ∙ same_text k t

pub returns : goal.returns
returns g c =
    let r = c.args.self.now in
    sym (same_text (g.D.DigitRule.wheel r) (g.met.D.DigitRule.tests r) c.args._places c.args._text.now)
