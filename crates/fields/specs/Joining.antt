-- How link strings are joined.
--   string_of strings n   the string of the number n: strings are numbered from 1, and one that was not sent is empty
--   joined_text strings links   the strings that the links name, joined in the order of the links; one that is named
--                       twice is joined twice
use Rattle.std.specs.Prelude.{ℕ, ◌-◌, List, [], ◌∷◌, ◌++◌, slice_index_or}

abbrev pub string_of : List (List ℕ) → ℕ → List ℕ
string_of strings n = slice_index_or strings (n - 1) []

abbrev pub joined_text : List (List ℕ) → List ℕ → List ℕ
joined_text strings [] = []
joined_text strings (n ∷ ns) = string_of strings n ++ joined_text strings ns
