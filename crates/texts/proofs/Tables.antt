-- The tables of the check characters have what their definitions say, place for place.
use Rattle.std.proofs.Common.{◌≡◌, ℕ, ◌+◌, ◌<◌, get_or, refl, ap, ◌∙◌, arith}
use Rattle.std.proofs.lemmas.Bool.Decides.{nat_tests}
use Rattle.texts.specs.Checks.{value10, value43, character43}
use Rattle.texts.specs.declared.checks.TheConstants.{VALUES_10, VALUES_43, CHARACTERS_43}
use Rattle.texts.proofs.Agreed.{agreed}

pub values_10 : (b i : ℕ) → i ≡ b → b < 256 → get_or VALUES_10 i 0 ≡ value10 b
values_10 b i at lt =
    let same : i + 0 ≡ b = omega arith in
    agreed value10 0 VALUES_10 i refl (omega arith) ∙ ap value10 same

pub values_43 : (b i : ℕ) → i ≡ b → b < 256 → get_or VALUES_43 i 0 ≡ value43 b
values_43 b i at lt =
    let same : i + 0 ≡ b = omega arith in
    agreed value43 0 VALUES_43 i refl (omega arith) ∙ ap value43 same

pub characters_43 : (v i : ℕ) → i ≡ v → v < 43 → get_or CHARACTERS_43.now i 0 ≡ character43 v
characters_43 v i at lt =
    let same : i + 0 ≡ v = omega arith in
    agreed character43 0 CHARACTERS_43.now i refl (omega arith) ∙ ap character43 same

pub small_43 : (b : ℕ) → value43 b < 43
small_43 b = grind (arith, nat_tests)

pub small_10 : (b : ℕ) → value10 b < 10
small_10 b = grind (arith, nat_tests)
