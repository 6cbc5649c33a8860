-- How a wheel takes a step and carries on.
--   Rolls down r d c v e      a wheel of r values that has the value d, turned by c, has the value v and carries
--                             e to the wheel on its left: it goes up, or down, in whole rounds of r but for the
--                             difference of d and v
--   Rolled w t p down c u e   place p of t turned by c, which carries e on, leaves u
use Rattle.std.specs.Prelude.{◌≡◌, ℕ, ◌+◌, ◌*◌, ◌<◌, Bool, true, false, List}
use Rattle.texts.specs.Wheels.{Wheels}
use Rattle.texts.specs.Turning.{placed}

abbrev pub Rolls : Bool → ℕ → ℕ → ℕ → ℕ → ℕ → Type 0
Rolls false r d c v e = v + e * r ≡ d + c
Rolls true r d c v e = d + e * r ≡ v + c

pub record Rolled (w : Wheels) (t : List ℕ) (p : ℕ) (down : Bool) (c : ℕ) (u : List ℕ) (e : ℕ) : Type 0 where
  pub value : ℕ
  pub below : value < w.radix t p
  pub rolls : Rolls down (w.radix t p) (w.value t p) c value e
  pub text : u ≡ placed w t p value
