-- What a field is, by its meaning.
--   FormatSeen       the format of a field: its place X and Y, its check, its step, the places that zero suppression
--                keeps (none where zeros stay), its link numbers in their order (none: it is not linked), and its
--                kind
--   FieldSeen         a field: its format, where it has one, and its text; a field with an empty text has no text
--   seen_links, seen_format, seen_field   what the records of the code mean
--   link_taken ns n   a field with the links ns takes n as one more: there is room, and n is the number of a link
--                     string
use Rattle.std.specs.Prelude.{ℕ, Bool, false, cond, List, [], length, ℤ, Some, None, Option, nat_lt}
use Rattle.fixedvec.specs.Items.{items}
use Rattle.texts.specs.Contents.{contents}
use Rattle.texts.specs.declared.checks.Check.{Check}
use Rattle.limits.specs.Limits.{most_links}
use Rattle.fields.specs.Counts.{is_link}
use Rattle.fields.specs.declared.links.Links.{Links}
use Rattle.fields.specs.declared.format.FieldKind.{FieldKind}
use Rattle.fields.specs.declared.format.Format.{Format}
use Rattle.fields.specs.declared.field.Field.{Field}

pub record FormatSeen : Type 0 where
  pub x : ℕ
  pub y : ℕ
  pub check : Check
  pub step : ℤ
  pub kept : Option ℕ
  pub links : List ℕ
  pub kind : FieldKind

pub record FieldSeen : Type 0 where
  pub format : Option FormatSeen
  pub text : List ℕ

abbrev pub seen_links : Links → List ℕ
seen_links l = items l.numbers

abbrev pub seen_format : Format → FormatSeen
seen_format f =
    record {
      x = f.x;
      y = f.y;
      check = f.check;
      step = f.step;
      kept = f.kept;
      links = seen_links f.links;
      kind = f.kind;
    }

abbrev pub seen_option : Option Format → Option FormatSeen
seen_option None = None
seen_option (Some f) = Some (seen_format f)

abbrev pub seen_field : Field → FieldSeen
seen_field f = record { format = seen_option f.format; text = contents f.text }

abbrev pub blank_field : FieldSeen
blank_field = record { format = None; text = [] }

abbrev pub link_taken : List ℕ → ℕ → Bool
link_taken ns n = cond (nat_lt (length ns) most_links) (is_link n) false

abbrev pub is_linked : FormatSeen → Bool
is_linked l = nat_lt 0 (length l.links)
