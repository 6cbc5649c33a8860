-- The bytes of a picture and their dots: 54 bytes to a row, eight dots to a byte, the highest bit first, black 1.
--   bit_of b j      dot j of the byte b, for j from 0 to 7, is black
--   row_of p        the row of the dots of byte p
--   column_of p j   the column of dot j of byte p
use Rattle.std.specs.Prelude.{ℕ, ◌+◌, ◌-◌, ◌*◌, ◌/◌, ◌%◌, ◌^◌, Bool, ◌==◌}
use Rattle.limits.specs.Limits.{row_bytes}

abbrev pub bit_of : ℕ → ℕ → Bool
bit_of b j = b / 2 ^ (7 - j) % 2 == 1

abbrev pub row_of : ℕ → ℕ
row_of p = p / row_bytes

abbrev pub column_of : ℕ → ℕ → ℕ
column_of p j = p % row_bytes * 8 + j
