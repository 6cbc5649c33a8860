-- What the bytes of a part mean.
--   value bs      the number that the digits bs write
--   number_of bs  the number of a numeric part, which has at most ten digits
use Rattle.std.specs.Prelude.{ℕ, ◌+◌, ◌-◌, ◌*◌, List, [], ◌∷◌, take}

abbrev pub value_after : ℕ → List ℕ → ℕ
value_after n [] = n
value_after n (b ∷ bs) = value_after (n * 10 + (b - 48)) bs

abbrev pub value : List ℕ → ℕ
value bs = value_after 0 bs

unfoldable pub number_of : List ℕ → ℕ
number_of bs = value (take 10 bs)
