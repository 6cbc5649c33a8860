-- The table of commands: for each its letters, and its parts in order with their kinds of bytes and admitted values.
-- docs/COMMANDS.md says the same in words.
--   letters_of c  the bytes that a body of this command begins with
--   parts_of c    the groups of items behind the letters
--   order         the letters in the order in which they are tried: `RC;` before `RC`
use Rattle.std.specs.Prelude.{ℕ, Bool, true, false, cond, List, [], ◌∷◌, ◌==◌, nat_eq, nat_le, slice_index, slice_index_or, codes}
use Rattle.limits.specs.Bytes.{between}
use Rattle.limits.specs.Limits.{longest_finished, last_form, text_fields, bar_fields, most_links, last_link}
use Rattle.jobparts.specs.Grammar.{Item, fixed, part, number, chosen, lettered, signed, text, strings, source, one_of, one_letter}
use Rattle.jobparts.specs.Items.{Admits}
use Rattle.jobparts.specs.Kinds.{stands}
use Rattle.jobparts.specs.Values.{number_of}
use Rattle.jobparts.specs.declared.part.ByteKind.TheVariants.{Digit, Capital, CapitalOrDigit}
use Rattle.jobgroups.specs.declared.letters.Letters.{Letters}
use Rattle.jobgroups.specs.declared.letters.Letters.TheVariants.{OfLabel, OfStation}
use Rattle.jobgroups.specs.declared.letters.LabelLetters.{LabelLetters}
use Rattle.jobgroups.specs.declared.letters.LabelLetters.TheVariants.{D, C, Pc, Xb, RcLinks, Rc, Rb, Lc, Xr}
use Rattle.jobgroups.specs.declared.letters.StationLetters.{StationLetters}
use Rattle.jobgroups.specs.declared.letters.StationLetters.TheVariants.{Xs, Xo, Xp, Xq, J1, Ws, Wr}
use Rattle.jobgroups.specs.declared.letters.TheConstants.{ORDER}

-- a byte, written as a text of one
abbrev pub byte_of : List ℕ → ℕ
byte_of one = slice_index one 0

abbrev pub comma : Item
comma = fixed (byte_of (codes ","))

abbrev pub semicolon : Item
semicolon = fixed (byte_of (codes ";"))

-- places in tenths of a millimetre
abbrev place_x : Item
place_x = number 4 0 539

abbrev place_y : Item
place_y = number 4 0 499

-- the length lies within its limits, and the pitch, which is the first part, is not below it
unfoldable pub length_fits : ℕ → ℕ → Bool
length_fits length pitch = cond (between 80 500 length) (nat_le length pitch) false

abbrev pub not_above_pitch : Admits
not_above_pitch earlier own behind = length_fits (number_of own) (number_of (slice_index_or earlier 0 []))

-- 1 is no check, 3 is modulus 43, which only bars of the type 3 have; the type is the first part
unfoldable pub check_fits : ℕ → ℕ → Bool
check_fits check kind = cond (check == 1) true (cond (check == 3) (kind == 3) false)

abbrev pub fits_type : Admits
fits_type earlier own behind = check_fits (number_of own) (number_of (slice_index_or earlier 0 []))

-- a line is told by `,0` behind the last coordinate; it is level or upright. The parts before are X, Y and X
unfoldable pub line_ahead : List ℕ → Bool
line_ahead behind =
    cond (stands (nat_eq (byte_of (codes ","))) behind 0) (stands (nat_eq (byte_of (codes "0"))) behind 1) false

unfoldable pub end_fits : Bool → ℕ → ℕ → ℕ → ℕ → Bool
end_fits line x y x' y' = cond (between 0 499 y') (cond line (cond (x == x') true (y == y')) true) false

abbrev pub not_slanted : Admits
not_slanted earlier own behind =
    end_fits (line_ahead behind)
    (number_of (slice_index_or earlier 0 []))
    (number_of (slice_index_or earlier 1 []))
    (number_of (slice_index_or earlier 2 []))
    (number_of own)

-- groups of items that are read together
unfoldable pub sizes : List Item
sizes = number 4 0 1500 ∷ comma ∷ number 4 100 540 ∷ comma ∷ chosen Digit 4 not_above_pitch ∷ []

unfoldable pub text_field : List Item
text_field = number 3 1 text_fields ∷ semicolon ∷ []

unfoldable pub bar_field : List Item
bar_field = number 2 1 bar_fields ∷ semicolon ∷ []

unfoldable pub point : List Item
point = place_x ∷ comma ∷ place_y ∷ []

-- magnifications, font, rotation, attribute
unfoldable pub magnification : List Item
magnification = comma ∷ number 1 1 9 ∷ comma ∷ number 1 1 9 ∷ []

unfoldable pub lettering : List Item
lettering =
    comma ∷ part Capital 1 ∷ comma ∷ chosen Digit 2 (one_of (0 ∷ 11 ∷ 22 ∷ 33 ∷ [])) ∷ comma ∷ part Capital 1 ∷ []

-- `,M0` is modulus 10, `,M1` modulus 43
unfoldable pub check_option : List Item
check_option = lettered (byte_of (codes "M")) 1 1 false ∷ []

-- the step, zero suppression, and where the text comes from
unfoldable pub extras : List Item
extras = signed 10 false ∷ lettered (byte_of (codes "Z")) 2 longest_finished true ∷ source most_links ∷ []

-- the type of a bar, and its check
unfoldable pub bar_type : List Item
bar_type = comma ∷ chosen Digit 1 (one_of (3 ∷ 9 ∷ [])) ∷ comma ∷ chosen Digit 1 fits_type ∷ []

unfoldable pub bar_widths : List Item
bar_widths =
    comma ∷ part Digit 2 ∷ comma ∷ part Digit 2 ∷ comma ∷ part Digit 2 ∷ comma ∷ part Digit 2 ∷ comma
    ∷ part Digit 2 ∷ []

unfoldable pub bar_height : List Item
bar_height = comma ∷ number 1 0 3 ∷ comma ∷ part Digit 4 ∷ []

abbrev pub whole_text : List Item
whole_text = text ∷ []

abbrev pub link_strings : List Item
link_strings = strings last_link ∷ []

unfoldable pub line_ends : List Item
line_ends = semicolon ∷ place_x ∷ comma ∷ place_y ∷ comma ∷ place_x ∷ comma ∷ chosen Digit 4 not_slanted ∷ []

-- 0 is a line, 1 a rectangle; then dots
unfoldable pub line_shape : List Item
line_shape = comma ∷ number 1 0 1 ∷ comma ∷ number 1 1 9 ∷ []

-- one of some letters
unfoldable pub comma_letter : List ℕ → List Item
comma_letter letters = comma ∷ chosen Capital 1 (one_letter letters) ∷ []

-- A clears, B inverts
abbrev pub area_action : List Item
area_action = comma_letter (codes "AB")

-- `;I,`, labels, and the cut interval
unfoldable pub issue_count : List Item
issue_count = semicolon ∷ fixed (byte_of (codes "I")) ∷ comma ∷ number 4 1 9999 ∷ comma ∷ number 3 0 100 ∷ []

-- sensor, mode, speed, ribbon, rotation, response
unfoldable pub issue_setup : List Item
issue_setup = part Digit 1 ∷ part Capital 1 ∷ part CapitalOrDigit 1 ∷ part Digit 1 ∷ part Digit 1 ∷ part Digit 1 ∷ []

-- a form, and the response
unfoldable pub form : List Item
form = semicolon ∷ number 2 1 last_form ∷ comma ∷ number 1 0 1 ∷ []

-- L or M
abbrev pub recall_target : List Item
recall_target = comma_letter (codes "LM")

-- J1's `;B`
abbrev pub store_b : List Item
store_b = semicolon ∷ fixed (byte_of (codes "B")) ∷ []

-- `RC` followed by a semicolon sends link strings, and followed by a number a text
abbrev pub label_letters_of : LabelLetters → List ℕ
label_letters_of D = codes "D"
label_letters_of C = codes "C"
label_letters_of Pc = codes "PC"
label_letters_of Xb = codes "XB"
label_letters_of RcLinks = codes "RC;"
label_letters_of Rc = codes "RC"
label_letters_of Rb = codes "RB"
label_letters_of Lc = codes "LC"
label_letters_of Xr = codes "XR"

abbrev pub station_letters_of : StationLetters → List ℕ
station_letters_of Xs = codes "XS"
station_letters_of Xo = codes "XO"
station_letters_of Xp = codes "XP"
station_letters_of Xq = codes "XQ"
station_letters_of J1 = codes "J1"
station_letters_of Ws = codes "WS"
station_letters_of Wr = codes "WR"

abbrev pub letters_of : Letters → List ℕ
letters_of (OfLabel l) = label_letters_of l
letters_of (OfStation l) = station_letters_of l

abbrev pub label_parts_of : LabelLetters → List (List Item)
label_parts_of D = sizes ∷ []
label_parts_of C = []
label_parts_of Pc = text_field ∷ point ∷ magnification ∷ lettering ∷ check_option ∷ extras ∷ []
label_parts_of Xb = bar_field ∷ point ∷ bar_type ∷ bar_widths ∷ bar_height ∷ extras ∷ []
label_parts_of RcLinks = link_strings ∷ []
label_parts_of Rc = text_field ∷ whole_text ∷ []
label_parts_of Rb = bar_field ∷ whole_text ∷ []
label_parts_of Lc = line_ends ∷ line_shape ∷ []
label_parts_of Xr = (semicolon ∷ []) ∷ point ∷ (comma ∷ []) ∷ point ∷ area_action ∷ []

abbrev pub station_parts_of : StationLetters → List (List Item)
station_parts_of Xs = issue_count ∷ issue_setup ∷ []
station_parts_of Xo = form ∷ []
station_parts_of Xp = []
station_parts_of Xq = form ∷ recall_target ∷ []
station_parts_of J1 = store_b ∷ []
station_parts_of Ws = []
station_parts_of Wr = []

abbrev pub parts_of : Letters → List (List Item)
parts_of (OfLabel l) = label_parts_of l
parts_of (OfStation l) = station_parts_of l

abbrev pub order : List Letters
order = ORDER
