-- What commands ask of a label, in the label's own words: another language of commands would come to the same
-- actions.
--   Action       a label command by its meaning: other sizes, all texts and drawings gone, a field's new format with
--                its text, another text for a field, the eight link strings, or one more drawing
--   asked_by c   the action of a command to the label
--   action_of c  the action of a command as it was read; none, where it is one to the station itself
-- A field's text or its links come from one part: `source_text` and `source_links` say which.
use Rattle.std.specs.Prelude.{ℕ, cond, List, [], Some, None, Option, ◌==◌, nat_eq, slice_index_or}
use Rattle.fields.specs.Records.{FormatSeen}
use Rattle.fields.specs.declared.format.FieldKind.{FieldKind}
use Rattle.fields.specs.declared.format.FieldKind.TheVariants.{Text, Code39, Code128}
use Rattle.fields.specs.declared.table.FieldName.{FieldName}
use Rattle.fields.specs.declared.table.FieldName.TheVariants.{Text as TextField, Bar as BarField}
use Rattle.picture.specs.declared.drawing.Drawing.{Drawing}
use Rattle.picture.specs.declared.drawing.Drawing.TheVariants.{Level, Upright, Rectangle, Clear, Invert}
use Rattle.picture.specs.declared.drawing.Point.{Point}
use Rattle.jobparts.specs.Kinds.{stands}
use Rattle.jobparts.specs.Parts.{PartSeen, missing, given, linked, bytes_of}
use Rattle.jobparts.specs.Values.{number_of}
use Rattle.jobvalues.specs.Meaning.{four_digit_number, two_digit_number, step_of, kept_of, text_of, links_of, strings_of, text_check_of, bar_check_of}
use Rattle.jobgroups.specs.Commands.{CommandSeen, label_letters, label_slots}
use Rattle.jobgroups.specs.declared.command.LabelCommand.{LabelCommand}
use Rattle.jobgroups.specs.declared.letters.Letters.{Letters}
use Rattle.jobgroups.specs.declared.letters.Letters.TheVariants.{OfLabel, OfStation}
use Rattle.jobgroups.specs.declared.letters.LabelLetters.{LabelLetters}
use Rattle.jobgroups.specs.declared.letters.LabelLetters.TheVariants.{D, C, Pc, Xb, RcLinks, Rc, Rb, Lc, Xr}

pub data Action : Type 0 where
  set_size : ℕ → ℕ → ℕ → Action
  clear : Action
  set_format : FieldName → FormatSeen → List ℕ → Action
  set_text : FieldName → List ℕ → Action
  set_links : List (List ℕ) → Action
  draw : Drawing → Action

-- the bytes of part k of a command, and the part itself
abbrev pub part : ℕ → List PartSeen → PartSeen
part k ps = slice_index_or ps k missing

abbrev pub bytes : ℕ → List PartSeen → List ℕ
bytes k ps = bytes_of (part k ps)

-- a bar's type is 3 or 9
abbrev pub bar_kind : List ℕ → FieldKind
bar_kind bs = cond (number_of bs == 9) Code128 Code39

abbrev pub source_text : PartSeen → List ℕ
source_text missing = []
source_text (given p bs) = text_of bs
source_text (linked p bs) = []

abbrev pub source_links : PartSeen → List ℕ
source_links missing = []
source_links (given p bs) = []
source_links (linked p bs) = links_of bs

abbrev pub text_format_of : List PartSeen → FormatSeen
text_format_of ps =
    record {
      x = four_digit_number (bytes 1 ps);
      y = four_digit_number (bytes 2 ps);
      check = text_check_of (part 8 ps);
      step = step_of (part 9 ps);
      kept = kept_of (part 10 ps);
      links = source_links (part 11 ps);
      kind = Text;
    }

abbrev pub bar_format_of : List PartSeen → FormatSeen
bar_format_of ps =
    record {
      x = four_digit_number (bytes 1 ps);
      y = four_digit_number (bytes 2 ps);
      check = bar_check_of (bytes 4 ps);
      step = step_of (part 12 ps);
      kept = kept_of (part 13 ps);
      links = source_links (part 14 ps);
      kind =
          bar_kind (bytes 3 ps);
    }

-- the two places of a drawing, which are its first four parts
abbrev pub corner : List PartSeen → Point
corner ps = record { x = four_digit_number (bytes 0 ps); y = four_digit_number (bytes 1 ps) }

abbrev pub opposite : List PartSeen → Point
opposite ps = record { x = four_digit_number (bytes 2 ps); y = four_digit_number (bytes 3 ps) }

-- a line whose ends have one Y, as those of a point have, is level, and any other is upright
abbrev pub line : Point → Point → ℕ → Drawing
line a b thick = cond (a.y == b.y) (Level a.y a.x b.x thick) (Upright a.x a.y b.y thick)

-- 0 is a line, 1 a rectangle
abbrev pub line_drawing : List PartSeen → Drawing
line_drawing ps =
    cond (number_of (bytes 4 ps) == 0) (line (corner ps) (opposite ps) (four_digit_number (bytes 5 ps)))
    (Rectangle (corner ps) (opposite ps) (four_digit_number (bytes 5 ps)))

-- A clears its box, B inverts it
abbrev pub area_drawing : List PartSeen → Drawing
area_drawing ps = cond (stands (nat_eq 65) (bytes 4 ps) 0) (Clear (corner ps) (opposite ps))
    (Invert (corner ps) (opposite ps))

abbrev pub action_for : LabelLetters → List PartSeen → Action
action_for D ps = set_size (four_digit_number (bytes 0 ps)) (four_digit_number (bytes 1 ps))
    (four_digit_number (bytes 2 ps))
action_for C ps = clear
action_for Pc ps = set_format (TextField (two_digit_number (bytes 0 ps))) (text_format_of ps) (source_text (part 11 ps))
action_for Xb ps = set_format (BarField (two_digit_number (bytes 0 ps))) (bar_format_of ps) (source_text (part 14 ps))
action_for RcLinks ps = set_links (strings_of (bytes 0 ps))
action_for Rc ps = set_text (TextField (two_digit_number (bytes 0 ps))) (text_of (bytes 1 ps))
action_for Rb ps = set_text (BarField (two_digit_number (bytes 0 ps))) (text_of (bytes 1 ps))
action_for Lc ps = draw (line_drawing ps)
action_for Xr ps = draw (area_drawing ps)

abbrev pub asked_by : LabelCommand → Action
asked_by c = action_for (label_letters c) (label_slots c)

abbrev pub action_by : Letters → List PartSeen → Option Action
action_by (OfLabel l) ps = Some (action_for l ps)
action_by (OfStation l) ps = None

abbrev pub action_of : CommandSeen → Option Action
action_of c = action_by c.letters c.parts
