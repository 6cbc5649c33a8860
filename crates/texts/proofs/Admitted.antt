-- A text that its check takes is taken after every turn: digits stay digits, capitals stay capitals, all else stays.
use Rattle.std.proofs.Common.{◌≡◌, ℕ, ◌<◌, Bool, true, false, cond, eqb, List, length, get_or, ℤ, refl, ap, ◌∙◌, arith}
use Rattle.std.proofs.lemmas.List.Recursion.{and_at, and_from_places}
use Rattle.limits.specs.Bytes.{is_digit, is_capital}
use Rattle.texts.specs.Wheels.{Wheels}
use Rattle.texts.specs.Turning.{Turned}
use Rattle.texts.specs.Checks.{admits, admits43, admits_all, special43}
use Rattle.texts.specs.declared.checks.Check.{Check}
use Rattle.texts.specs.declared.checks.Check.TheVariants.{NoCheck, Modulus10, Modulus43}

-- one byte that gave way as a counting rule lets it
one43 : (b d : ℕ) → (is_digit b ≡ true → is_digit d ≡ true) → (is_capital b ≡ true → is_capital d ≡ true)
    → (is_digit b ≡ false → is_capital b ≡ false → d ≡ b) → admits43 b ≡ true → admits43 d ≡ true
one43 b d digits capitals others h = by_digit (is_digit b) refl
  where
    digit_in : is_digit d ≡ true → admits43 d ≡ true
    digit_in e = ap (λ x. cond x true (cond (is_capital d) true (cond (eqb (special43 d) 0) false true))) e

    capital_in : (x : Bool) → is_capital d ≡ true
        → cond x true (cond (is_capital d) true (cond (eqb (special43 d) 0) false true)) ≡ true
    capital_in true e = refl
    capital_in false e = ap (λ x. cond x true (cond (eqb (special43 d) 0) false true)) e

    by_capital : (x : Bool) → is_capital b ≡ x → is_digit b ≡ false → admits43 d ≡ true
    by_capital true e plain = capital_in (is_digit d) (capitals e)
    by_capital false e plain = ap admits43 (others plain e) ∙ h

    by_digit : (x : Bool) → is_digit b ≡ x → admits43 d ≡ true
    by_digit true e = digit_in (digits e)
    by_digit false e = by_capital (is_capital b) refl e

one : (c : Check) (b d : ℕ) → (is_digit b ≡ true → is_digit d ≡ true)
    → (is_capital b ≡ true → is_capital d ≡ true)
    → (is_digit b ≡ false → is_capital b ≡ false → d ≡ b) → admits c b ≡ true → admits c d ≡ true
one NoCheck b d digits capitals others h = refl
one Modulus10 b d digits capitals others h = digits h
one Modulus43 b d digits capitals others h = one43 b d digits capitals others h

pub admitted_turned : (w : Wheels) (t : List ℕ) (s : ℤ) (u : List ℕ) → Turned w t s u → (c : Check)
    → admits_all c t ≡ true → admits_all c u ≡ true
admitted_turned w t s u told c h =
    and_from_places (admits_all c) (admits c) refl (λ b bs. refl) u 0
    (λ k lt.
    let lt' : k < length t = omega (arith, told.long) in
    one c (get_or t k 0) (get_or u k 0) (told.digits k lt') (told.capitals k lt') (told.others k lt')
    (and_at (admits_all c) (admits c) refl (λ b bs. refl) t k 0 lt' h))
