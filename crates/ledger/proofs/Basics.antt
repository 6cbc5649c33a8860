-- Small facts that several proofs share: of tests on numbers, of options and of results.
use Rattle.std.proofs.Common.{◌≡◌, ℕ, ◌<◌, true, false, eqb, Some, None, Ok, Err, Option, Result, ap, arith}
use Rattle.std.proofs.lemmas.Bool.Decides.{nat_tests}

-- ---- tests on numbers
pub above_zero : (n : ℕ) → eqb n 0 ≡ false → 0 < n
above_zero n e = grind (arith, nat_tests)

-- ---- what cannot be
pub never : {A : Type 0} → false ≡ true → A
never e = let z : ◌≡◌ {A = ℕ} 0 1 = cc in absurd (let f : ⊥ = omega arith in f)

pub not_none : {A : Type 0} {B : Type 0} {y : A} → None ≡ Some y → B
not_none {A} {B} {y} e = let z : ◌≡◌ {A = ℕ} 0 1 = cc in absurd (let f : ⊥ = omega arith in f)

pub not_ok : {A E B : Type 0} {x : A} {e : E} → ◌≡◌ {A = Result A E} (Err e) (Ok x) → B
not_ok {A} {E} {B} {x} {e} h = let z : ◌≡◌ {A = ℕ} 0 1 = cc in absurd (let f : ⊥ = omega arith in f)

-- ---- options and results
pub some_inj : {A : Type 0} {x y : A} → Some x ≡ Some y → x ≡ y
some_inj e = cc

pub ok_inj : {A E : Type 0} {x y : A} → ◌≡◌ {A = Result A E} (Ok x) (Ok y) → x ≡ y
ok_inj e = cc

-- what a result has, its error being forgotten
abbrev pub ok_of : {A E : Type 0} → Result A E → Option A
ok_of (Ok x) = Some x
ok_of (Err e) = None

pub ok_from : {A E : Type 0} (r : Result A E) (x : A) → ok_of r ≡ Some x → r ≡ Ok x
ok_from (Ok y) x e = ap Ok (some_inj e)
ok_from (Err y) x e = not_none e
