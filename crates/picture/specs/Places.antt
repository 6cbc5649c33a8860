-- Tenths of a millimetre and dots, of which there are eight to the millimetre.
--   dot_of v         the dot of the tenth v
--   amid a b x       the dot x lies between those of the tenths a and b, which are included and come in any order
--   band a thick x   the dot x is one of the `thick` dots that begin with that of the tenth a
--   near thick a b x the dot x, between those of a and b, is fewer than `thick` dots from one of the two
use Rattle.std.specs.Prelude.{ℕ, ◌+◌, ◌-◌, ◌*◌, ◌/◌, min, max, Bool, ◌&&◌, ◌||◌, nat_le, nat_lt}

abbrev pub dot_of : ℕ → ℕ
dot_of v = 8 * v / 10

abbrev pub amid : ℕ → ℕ → ℕ → Bool
amid a b x = nat_le (min (dot_of a) (dot_of b)) x && nat_le x (max (dot_of a) (dot_of b))

abbrev pub band : ℕ → ℕ → ℕ → Bool
band a thick x = nat_le (dot_of a) x && nat_lt x (dot_of a + thick)

abbrev pub near : ℕ → ℕ → ℕ → ℕ → Bool
near thick a b x = nat_lt (x - min (dot_of a) (dot_of b)) thick || nat_lt (max (dot_of a) (dot_of b) - x) thick
