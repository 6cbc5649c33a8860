-- A label by its meaning, and what actions make of it.
--   LabelSeen        the sizes of a label in tenths of a millimetre, its fields, and its drawings in the order in
--                    which they were made
--   new_label        a label at making;  seen_label  what the label of the code means
--   seen_action      what an action of the code means
--   label_refusal    why a label refuses an action, if it does
--   label_after      the label after an action that it does not refuse
--   turned_label w v   the label with every text turned by its step
--   label_picture    the label's picture: its drawings on white, cut at its width and its length
--   Acted a r before after   the answer r to an action, and the label behind it
use Rattle.std.specs.Prelude.{ℕ, Bool, cond, List, [], ◌∷◌, ◌++◌, length, Some, None, Option, Result, nat_lt}
use Rattle.limits.specs.Limits.{most_drawings}
use Rattle.faults.specs.declared.Refusal.{Refusal}
use Rattle.faults.specs.declared.Refusal.TheVariants.{NoFormat as RefusedNoFormat, FieldLinked as RefusedFieldLinked, JoinedTooLong as RefusedJoinedTooLong, OutsideCheck as RefusedOutsideCheck, TooManyDrawings as RefusedTooManyDrawings}
use Rattle.texts.specs.Wheels.{Wheels}
use Rattle.texts.specs.Contents.{contents}
use Rattle.fields.specs.Answers.{Answered}
use Rattle.fields.specs.Records.{seen_format}
use Rattle.fields.specs.Tables.{Table, blank_table, seen_fields}
use Rattle.fields.specs.Calls.{replaced, replace_refusal, retexted, text_refusal, cleared, turned_table}
use Rattle.fields.specs.Linking.{linked, link_refusal}
use Rattle.fields.specs.declared.fault.FieldFault.{FieldFault}
use Rattle.fields.specs.declared.fault.FieldFault.TheVariants.{NoFormat, FieldLinked, JoinedTooLong, OutsideCheck}
use Rattle.picture.specs.Picture.{white, picture}
use Rattle.picture.specs.declared.drawing.Drawing.{Drawing}
use Rattle.jobvalues.specs.Meaning.{strings_of}
use Rattle.label.specs.Actions.{Action, set_size, clear, set_format, set_text, set_links, draw}
use Rattle.label.specs.declared.action.Action.{Action as LabelAction}
use Rattle.label.specs.declared.action.Action.TheVariants.{SetSize, Clear, SetFormat, SetText, SetLinks, Draw}
use Rattle.label.specs.declared.fault.LabelFault.{LabelFault}
use Rattle.label.specs.declared.fault.LabelFault.TheVariants.{Field as OfField, TooManyDrawings}
use Rattle.label.specs.declared.label.Label.{Label}
use Rattle.fixedvec.specs.Items.{items}
use Rattle.fixedvec.specs.declared.FixedVec.{FixedVec}

pub record LabelSeen : Type 0 where
  pub pitch : ℕ
  pub width : ℕ
  pub length : ℕ
  pub table : Table
  pub drawings : List Drawing

abbrev pub new_label : LabelSeen
new_label = record { pitch = 520; width = 540; length = 500; table = blank_table; drawings = [] }

abbrev pub seen_drawings : FixedVec Drawing most_drawings → List Drawing
seen_drawings d = items d

abbrev pub seen_label : Label → LabelSeen
seen_label l =
    record {
      pitch = l.sizes.pitch;
      width = l.sizes.width;
      length = l.sizes.length;
      table = seen_fields l.fields;
      drawings = seen_drawings l.drawings;
    }

abbrev pub seen_action : LabelAction → Action
seen_action (SetSize s) = set_size s.pitch s.width s.length
seen_action Clear = clear
seen_action (SetFormat name f t) = set_format name (seen_format f) (contents t)
seen_action (SetText name t) = set_text name (contents t)
seen_action (SetLinks bytes) = set_links (strings_of bytes.now)
seen_action (Draw d) = draw d

abbrev pub fault_of : FieldFault → LabelFault
fault_of e = OfField e

abbrev pub refusal_of : LabelFault → Refusal
refusal_of (OfField NoFormat) = RefusedNoFormat
refusal_of (OfField FieldLinked) = RefusedFieldLinked
refusal_of (OfField JoinedTooLong) = RefusedJoinedTooLong
refusal_of (OfField OutsideCheck) = RefusedOutsideCheck
refusal_of TooManyDrawings = RefusedTooManyDrawings

abbrev pub from_field : Option FieldFault → Option LabelFault
from_field None = None
from_field (Some e) = Some (fault_of e)

abbrev pub drawing_refusal : List Drawing → Option LabelFault
drawing_refusal ds = cond (nat_lt (length ds) most_drawings) None (Some TooManyDrawings)

abbrev pub label_refusal : LabelSeen → Action → Option LabelFault
label_refusal s (set_size pitch width length) = None
label_refusal s clear = None
label_refusal s (set_format name l t) = from_field (replace_refusal name l t)
label_refusal s (set_text name t) = from_field (text_refusal name t s.table)
label_refusal s (set_links strings) = from_field (link_refusal strings s.table)
label_refusal s (draw d) = drawing_refusal s.drawings

abbrev pub with_table : Table → LabelSeen → LabelSeen
with_table t s = record s { table = t }

abbrev pub with_drawings : List Drawing → LabelSeen → LabelSeen
with_drawings ds s = record s { drawings = ds }

abbrev pub sized : ℕ → ℕ → ℕ → LabelSeen → LabelSeen
sized pitch width length s = record s { pitch = pitch; width = width; length = length }

abbrev pub label_after : LabelSeen → Action → LabelSeen
label_after s (set_size pitch width length) = sized pitch width length s
label_after s clear = with_table (cleared s.table) (with_drawings [] s)
label_after s (set_format name l t) = with_table (replaced name l t s.table) s
label_after s (set_text name t) = with_table (retexted name t s.table) s
label_after s (set_links strings) = with_table (linked strings s.table) s
label_after s (draw d) = with_drawings (s.drawings ++ d ∷ []) s

abbrev pub turned_label : Wheels → Wheels → LabelSeen → LabelSeen
turned_label w v s = with_table (turned_table w v s.table) s

abbrev pub label_picture : LabelSeen → ℕ → ℕ → Bool
label_picture s = picture white s.drawings s.width s.length

abbrev pub Acted : Action → Result (Unit {0}) LabelFault → LabelSeen → LabelSeen → Type 0
Acted a r before after = Answered (label_refusal before a) r before after (label_after before a)
