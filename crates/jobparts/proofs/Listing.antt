-- A list of elements, one element on.
use Rattle.std.proofs.Common.{◌≡◌, ℕ, zero, suc, ◌+◌, true, cond, eqb, List, Ok, Err, Result, refl, sym, ap, ◌∙◌}
use Rattle.std.proofs.lemmas.Bool.{cond-true}
use Rattle.jobparts.specs.Items.{element_at, list_at}
use Rattle.jobparts.specs.Kinds.{stands}
use Rattle.jobparts.specs.Parts.{then}
use Rattle.jobparts.specs.declared.part.List.{List as Listed}
use Rattle.jobparts.specs.declared.part.Wrong.{Wrong}

-- what a list comes to behind an element, with as many as `further` to come
abbrev pub behind : Listed → ℕ → List ℕ → ℕ → Result ℕ Wrong
behind list zero body at = Ok at
behind list (suc further) body at = cond (stands (eqb 44) body at) (list_at list further body (at + 1)) (Ok at)

then_same : (r : Result ℕ Wrong) → r ≡ then r (λ next. Ok next)
then_same (Ok x) = refl
then_same (Err e) = refl

pub list_is : (list : Listed) (further : ℕ) (body : List ℕ) (at : ℕ)
    → list_at list further body at ≡ then (element_at list body at) (behind list further body)
list_is list zero body at = then_same (element_at list body at)
list_is list (suc further) body at = refl

-- r is what the element behind the comma comes to
pub behind_goes_on : (list : Listed) (further n : ℕ) (body : List ℕ) (at : ℕ) (r : Result ℕ Wrong) → n ≡ suc further
    → true ≡ stands (eqb 44) body at → r ≡ element_at list body (at + 1) →
    behind list n body at ≡ then r (behind list further body)
behind_goes_on list further n body at r more e is =
    ap (λ m. behind list m body at) more ∙ cond-true _ _ _ (sym e) ∙ list_is list further body (at + 1)
    ∙ ap (λ q. then q (behind list further body)) (sym is)
