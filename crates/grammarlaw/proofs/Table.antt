-- What a test shows of each row of the table: its items are laid as they must be, and nothing in it is the LF.
use Rattle.std.proofs.Common.{◌≡◌, ℕ, zero, suc, Bool, true, not, ◌&&◌, eqb, List, [], ◌∷◌, get_or, refl, ap, ◌∙◌, sym}
use Rattle.std.proofs.lemmas.Bool.{and_parts}
use Rattle.jobparts.specs.Grammar.{fixed, lettered}
use Rattle.jobgroups.specs.Table.{letters_of, parts_of, order, sizes, text_field, bar_field, point, magnification, lettering, check_option, extras, bar_type, bar_widths, bar_height, line_ends, line_shape, comma_letter, issue_count, issue_setup, form}
use Rattle.jobgroups.specs.declared.letters.Letters.{Letters}
use Rattle.jobgroups.specs.declared.letters.Letters.TheVariants.{OfLabel, OfStation}
use Rattle.jobgroups.specs.declared.letters.LabelLetters.{LabelLetters}
use Rattle.jobgroups.specs.declared.letters.LabelLetters.TheVariants.{D, C, Pc, Xb, RcLinks, Rc, Rb, Lc, Xr}
use Rattle.jobgroups.specs.declared.letters.StationLetters.{StationLetters}
use Rattle.jobgroups.specs.declared.letters.StationLetters.TheVariants.{Xs, Xo, Xp, Xq, J1, Ws, Wr}
use Rattle.grammarlaw.specs.Laid.{is_laid}
use Rattle.grammarlaw.specs.Rows.{Step, anew, item, steps_of}

-- no fixed byte and no letter of an option is the LF
abbrev pub no_lines : List Step → Bool
no_lines [] = true
no_lines (anew ∷ steps) = no_lines steps
no_lines (item (fixed b) ∷ steps) = not (eqb b 10) && no_lines steps
no_lines (item (lettered letter n high last) ∷ steps) = not (eqb letter 10) && no_lines steps
no_lines (item i ∷ steps) = no_lines steps

abbrev pub bare : List ℕ → Bool
bare [] = true
bare (b ∷ bs) = not (eqb b 10) && bare bs

abbrev passes : Letters → Bool
passes c = is_laid (steps_of (parts_of c)) && (no_lines (steps_of (parts_of c)) && bare (letters_of c))

abbrev all_pass : List Letters → Bool
all_pass [] = true
all_pass (c ∷ cs) = passes c && all_pass cs

order_passes : (all_pass order ≡ true) × (passes (OfLabel D) ≡ true)
unfolding sizes text_field bar_field point magnification lettering check_option extras bar_type bar_widths
    bar_height line_ends line_shape comma_letter issue_count issue_setup form
order_passes = (refl, refl)

-- each command is one of those that are tried
label_known : (c : LabelLetters) → (k : ℕ) × (get_or order k (OfLabel D) ≡ OfLabel c)
label_known D = (0, refl)
label_known C = (1, refl)
label_known Pc = (2, refl)
label_known Xb = (3, refl)
label_known RcLinks = (4, refl)
label_known Rc = (5, refl)
label_known Rb = (6, refl)
label_known Lc = (7, refl)
label_known Xr = (8, refl)

station_known : (c : StationLetters) → (k : ℕ) × (get_or order k (OfLabel D) ≡ OfStation c)
station_known Xs = (9, refl)
station_known Xo = (10, refl)
station_known Xp = (11, refl)
station_known Xq = (12, refl)
station_known J1 = (13, refl)
station_known Ws = (14, refl)
station_known Wr = (15, refl)

known : (c : Letters) → (k : ℕ) × (get_or order k (OfLabel D) ≡ c)
known (OfLabel c) = label_known c
known (OfStation c) = station_known c

at_each : (cs : List Letters) (k : ℕ) (d : Letters) → passes d ≡ true → all_pass cs ≡ true →
    passes (get_or cs k d) ≡ true
at_each [] k d here all = here
at_each (c ∷ cs) zero d here all = (and_parts (passes c) (all_pass cs) all).0
at_each (c ∷ cs) (suc k) d here all = at_each cs k d here (and_parts (passes c) (all_pass cs) all).1

row_passes : (c : Letters) → passes c ≡ true
row_passes c = sym (ap passes (known c).1) ∙ at_each order (known c).0 (OfLabel D) order_passes.1 order_passes.0

row_parts : (c : Letters) → (no_lines (steps_of (parts_of c)) && bare (letters_of c)) ≡ true
row_parts c =
    (and_parts (is_laid (steps_of (parts_of c))) (no_lines (steps_of (parts_of c)) && bare (letters_of c))
    (row_passes c)).1

pub table_laid : (c : Letters) → is_laid (steps_of (parts_of c)) ≡ true
table_laid c =
    (and_parts (is_laid (steps_of (parts_of c))) (no_lines (steps_of (parts_of c)) && bare (letters_of c))
    (row_passes c)).0

pub row_free : (c : Letters) → no_lines (steps_of (parts_of c)) ≡ true
row_free c = (and_parts (no_lines (steps_of (parts_of c))) (bare (letters_of c)) (row_parts c)).0

pub row_letters : (c : Letters) → bare (letters_of c) ≡ true
row_letters c = (and_parts (no_lines (steps_of (parts_of c))) (bare (letters_of c)) (row_parts c)).1
