-- No check takes every text.
use Rattle.std.proofs.Common.{◌≡◌, ℕ, true, List, [], ◌∷◌, refl, sym, subst}
use Rattle.texts.specs.Checks.{admits_all}
use Rattle.texts.specs.declared.checks.Check.TheVariants.{NoCheck}
use Rattle.texts.proofs.checks.Check.admits.Goals as goal

unchecked : (t : List ℕ) → true ≡ admits_all NoCheck t
unchecked [] = refl
unchecked (b ∷ t) = unchecked t

pub returns-in-NoCheck : goal.returns-in-NoCheck
returns-in-NoCheck c =
    subst (λ k. true ≡ admits_all k c.args.text.now) (sym c.in-NoCheck.is) (unchecked c.args.text.now)
