-- How a text counts on.
--   span w t k         how many numbers the last k places of t can spell: the product of their radices
--   spelt w t k        the number that the last k places of t spell, the rightmost lowest
--   number w t         the number N that all of t spells;  cycle w t  the number M of numbers that t can spell
--   stepped n s m      (n + s) mod m, from 0 to m − 1, for a signed step s
--   written w t n k    t with its last k places made to spell n: every wheel among them, the rightmost first,
--                      gets the byte of n's digit there, and fixed places stay
--   rewritten w t k    t whose first k places have the bytes of their values: every wheel among them, the rightmost
--                      first, gets the byte of the value that it has
--   turned w t s       t turned by the step s: all wheels get the bytes of (N + s) mod M; a step of 0 changes nothing
--   Turned w t s u     u is t turned by s, with what that means: the number, the wheels and the fixed bytes
use Rattle.std.specs.Prelude.{◌≡◌, ℕ, zero, suc, ◌+◌, ◌-◌, ◌*◌, ◌/◌, ◌%◌, ◌<◌, Bool, true, false, cond, List, length, ℤ, pos, negsuc, ◌+ℤ◌, ◌==◌, nat_lt, slice_index, slice_set, unsigned_abs}
use Rattle.std.specs.Int.{int_rem_euclid}
use Rattle.limits.specs.Bytes.{is_digit, is_capital}
use Rattle.texts.specs.Wheels.{Wheels}

abbrev pub span : Wheels → List ℕ → ℕ → ℕ
span w t zero = 1
span w t (suc k) = w.radix t (length t - suc k) * span w t k

abbrev pub spelt : Wheels → List ℕ → ℕ → ℕ
spelt w t zero = 0
spelt w t (suc k) = w.value t (length t - suc k) * span w t k + spelt w t k

abbrev pub number : Wheels → List ℕ → ℕ
number w t = spelt w t (length t)

abbrev pub cycle : Wheels → List ℕ → ℕ
cycle w t = span w t (length t)

abbrev pub stepped : ℕ → ℤ → ℕ → ℕ
stepped n s m = unsigned_abs (int_rem_euclid (pos n +ℤ s) (pos m))

-- one place made to have a value, unless it is fixed
abbrev pub placed : Wheels → List ℕ → ℕ → ℕ → List ℕ
placed w t p v = cond (nat_lt 1 (w.radix t p)) (slice_set t p (w.byte t p v)) t

abbrev pub written : Wheels → List ℕ → ℕ → ℕ → List ℕ
written w t n zero = t
written w t n (suc k) = placed w (written w t n k) (length t - suc k)
    (n / span w t k % w.radix t (length t - suc k))

abbrev pub rewritten : Wheels → List ℕ → ℕ → List ℕ
rewritten w t zero = t
rewritten w t (suc k) = rewritten w (placed w t k (w.value t k)) k

abbrev pub is_zero : ℤ → Bool
is_zero (pos n) = n == 0
is_zero (negsuc n) = false

abbrev pub turned : Wheels → List ℕ → ℤ → List ℕ
turned w t s = cond (is_zero s) t (written w t (stepped (number w t) s (cycle w t)) (length t))

pub record Turned (w : Wheels) (t : List ℕ) (s : ℤ) (u : List ℕ) : Type 0 where
  pub text : u ≡ turned w t s
  pub long : length u ≡ length t
  -- the number is now (N + s) mod M, and no place has another radix
  pub counts : number w u ≡ stepped (number w t) s (cycle w t)
  pub radices : (p : ℕ) → p < length t → w.radix u p ≡ w.radix t p
  -- fixed bytes stay, digits stay digits, and capitals stay capitals
  pub stays : (p : ℕ) → p < length t → w.radix t p ≡ 1 → slice_index u p ≡ slice_index t p
  pub digits : (p : ℕ) → p < length t → is_digit (slice_index t p) ≡ true → is_digit (slice_index u p) ≡ true
  pub capitals : (p : ℕ) → p < length t → is_capital (slice_index t p) ≡ true
      → is_capital (slice_index u p) ≡ true
  pub others : (p : ℕ) → p < length t → is_digit (slice_index t p) ≡ false
      → is_capital (slice_index t p) ≡ false → slice_index u p ≡ slice_index t p
