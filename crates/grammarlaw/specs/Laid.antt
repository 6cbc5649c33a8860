-- Whether the items of a command are laid so that one byte after the other tells which is meant.
--   no_comma steps     nothing that is right begins with a comma
--   no_option c steps  nothing that is right begins with a comma and the byte c
--   option_next steps  an option may come
--   is_laid steps      of a comma and its letter, or a sign, only one option can be meant; behind the last option
--                      no comma comes; behind a text, strings or a source nothing does
use Rattle.std.specs.Prelude.{ℕ, Bool, true, false, not, ◌&&◌, cond, List, [], ◌∷◌, nat_eq}
use Rattle.jobparts.specs.Grammar.{fixed, part, number, chosen, lettered, signed, text, strings, source}
use Rattle.jobparts.specs.Kinds.{is_sign}
use Rattle.grammarlaw.specs.Rows.{Step, anew, item}

abbrev pub no_comma : List Step → Bool
no_comma [] = true
no_comma (anew ∷ steps) = no_comma steps
no_comma (item (fixed b) ∷ steps) = not (nat_eq b 44)
no_comma (item (part kind n) ∷ steps) = no_comma steps
no_comma (item (number n low high) ∷ steps) = no_comma steps
no_comma (item (chosen kind n admits) ∷ steps) = no_comma steps
no_comma (item (lettered letter n high last) ∷ steps) = false
no_comma (item (signed n last) ∷ steps) = false
no_comma (item text ∷ steps) = no_comma steps
no_comma (item (strings most) ∷ steps) = false
no_comma (item (source most) ∷ steps) = no_comma steps

abbrev pub no_option : ℕ → List Step → Bool
no_option c [] = true
no_option c (anew ∷ steps) = no_option c steps
no_option c (item (fixed b) ∷ steps) = not (nat_eq b 44)
no_option c (item (part kind n) ∷ steps) = no_option c steps
no_option c (item (number n low high) ∷ steps) = no_option c steps
no_option c (item (chosen kind n admits) ∷ steps) = no_option c steps
no_option c (item (lettered letter n high last) ∷ steps) = not (nat_eq letter c) && no_option c steps
no_option c (item (signed n last) ∷ steps) = not (is_sign c) && no_option c steps
no_option c (item text ∷ steps) = no_option c steps
no_option c (item (strings most) ∷ steps) = false
no_option c (item (source most) ∷ steps) = no_option c steps

abbrev pub option_next : List Step → Bool
option_next [] = false
option_next (anew ∷ steps) = option_next steps
option_next (item (lettered letter n high last) ∷ steps) = true
option_next (item (signed n last) ∷ steps) = true
option_next (item i ∷ steps) = false

abbrev pub follows : Bool → List Step → Bool
follows last steps = cond last (no_comma steps) (option_next steps)

abbrev pub is_end : List Step → Bool
is_end [] = true
is_end (step ∷ steps) = false

abbrev pub is_laid : List Step → Bool
is_laid [] = true
is_laid (anew ∷ steps) = is_laid steps
is_laid (item (fixed b) ∷ steps) = is_laid steps
is_laid (item (part kind n) ∷ steps) = is_laid steps
is_laid (item (number n low high) ∷ steps) = is_laid steps
is_laid (item (chosen kind n admits) ∷ steps) = is_laid steps
is_laid (item (lettered letter n high last) ∷ steps) = no_option letter steps && (follows last steps && is_laid steps)
is_laid (item (signed n last) ∷ steps) =
    (no_option 43 steps && no_option 45 steps) && (follows last steps && is_laid steps)
is_laid (item text ∷ steps) = is_end steps
is_laid (item (strings most) ∷ steps) = is_end steps
is_laid (item (source most) ∷ steps) = is_end steps
