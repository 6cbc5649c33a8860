use Rattle.std.proofs.Common.{◌≡◌, ℕ, Bool, true, false, cond, eqb, ◌||◌, List, [], ◌∷◌, refl, ap, ◌∙◌, arith, rules}
use Rattle.std.specs.List.{list_any}
use Rattle.std.proofs.lemmas.Bool.Decides.{nat_tests}
use Rattle.jobparts.specs.Grammar.{is_one_of}
use Rattle.jobparts.specs.Items.{part_at}
use Rattle.jobgroups.proofs.checks.one_of.Goals as goal

flip : (x n : ℕ) → eqb x n ≡ eqb n x
flip x n = grind (arith, nat_tests)

or_is : (b t : Bool) → (b || t) ≡ cond b true t
or_is true t = refl
or_is false t = refl

any_is : (n : ℕ) (xs : List ℕ) → list_any (λ x. eqb x n) xs ≡ is_one_of xs n
any_is n [] = refl
any_is n (x ∷ xs) = ap (λ t. t || list_any (λ x. eqb x n) xs) (flip x n) ∙ ap (λ t. eqb n x || t) (any_is n xs)
    ∙ or_is (eqb n x) (is_one_of xs n)

pub returns : goal.returns
unfolding part_at
returns c =
    let same = c.contains.ensures.value ∙ any_is _ c.args.numbers.now in
    search rules
