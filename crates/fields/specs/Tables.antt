-- The field table of a label, by its meaning.
--   Table             the text fields and the bar fields, each kind in the order of its numbers
--   seen_fields       what the table of the code means;  blank_table  the table of a new label
--   is_field name     there is such a field: text field 1 to 16, bar field 1 to 8
--   field_of name t    the field of that name in t
--   with_field name s t t with s for that field, and every other field as it was
--   each_field f t     t with f done to every field
--   any_field p t      some field of t passes the test p
--   refusal_of r      the reason that the answer r gives, if it refuses
--   Updated why done name r before after   the answer r of a call that updates the field of that name: the field may
--                     refuse, by why, or is left as done says; a name without a field has no format
use Rattle.std.specs.Prelude.{ℕ, ◌-◌, Bool, ◌||◌, cond, List, map, replicate, Some, None, Ok, Err, Option, Result, slice_index_or, slice_set}
use Rattle.std.specs.List.{list_any}
use Rattle.limits.specs.Bytes.{between}
use Rattle.limits.specs.Limits.{text_fields, bar_fields}
use Rattle.fields.specs.Answers.{Answered}
use Rattle.fields.specs.Records.{FieldSeen, seen_field, blank_field}
use Rattle.fields.specs.declared.fault.FieldFault.{FieldFault}
use Rattle.fields.specs.declared.fault.FieldFault.TheVariants.{NoFormat}
use Rattle.fields.specs.declared.table.Fields.{Fields}
use Rattle.fields.specs.declared.table.FieldName.{FieldName}
use Rattle.fields.specs.declared.table.FieldName.TheVariants.{Text, Bar}

pub record Table : Type 0 where
  pub texts : List FieldSeen
  pub bars : List FieldSeen

abbrev pub seen_fields : Fields → Table
seen_fields f = record { texts = map seen_field f.texts; bars = map seen_field f.bars }

abbrev pub blank_table : Table
blank_table = record { texts = replicate text_fields blank_field; bars = replicate bar_fields blank_field }

abbrev pub is_field : FieldName → Bool
is_field (Text n) = between 1 text_fields n
is_field (Bar n) = between 1 bar_fields n

abbrev pub field_of : FieldName → Table → FieldSeen
field_of (Text n) t = slice_index_or t.texts (n - 1) blank_field
field_of (Bar n) t = slice_index_or t.bars (n - 1) blank_field

abbrev pub with_field : FieldName → FieldSeen → Table → Table
with_field (Text n) s t = record t { texts = slice_set t.texts (n - 1) s }
with_field (Bar n) s t = record t { bars = slice_set t.bars (n - 1) s }

-- the place of number n among so many fields of a kind
abbrev pub place_of : ℕ → ℕ → Result ℕ FieldFault
place_of count n = cond (between 1 count n) (Ok (n - 1)) (Err NoFormat)

abbrev pub each_field : (FieldSeen → FieldSeen) → Table → Table
each_field f t = record { texts = map f t.texts; bars = map f t.bars }

abbrev pub some_field : (FieldSeen → Bool) → List FieldSeen → Bool
some_field = list_any

abbrev pub any_field : (FieldSeen → Bool) → Table → Bool
any_field p t = some_field p t.texts || some_field p t.bars

abbrev pub refusal_of : Result (Unit {0}) FieldFault → Option FieldFault
refusal_of (Ok x) = None
refusal_of (Err e) = Some e

abbrev pub Updated : (FieldSeen → Option FieldFault) → (FieldSeen → FieldSeen) → FieldName
    → Result (Unit {0}) FieldFault
    → Table → Table → Type 0
Updated why done name r before after =
    Answered (cond (is_field name) (why (field_of name before)) (Some NoFormat)) r before after
    (with_field name (done (field_of name before)) before)
