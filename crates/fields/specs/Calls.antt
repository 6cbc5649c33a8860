-- What is done to fields one by one, and what is refused.
--   replaced_by, replaced  a field with a new format, and with the text given or none: nothing of the old field stays
--   retext, retexted       a field with another text, its format as it was
--   emptied, cleared       texts go, formats stay
--   turned_field, turned_table   a field's text turned by its step, by the rule of its kind: the wheels w of the
--                               first rule for
--                          texts and bars of type 3, the wheels v of the second for bars of type 9
--   outside_check c t      refused, where t has a character outside the set of the check c
--   replace_refusal, text_refusal   why a new format with a text, or a new text, is refused; a name without a
--                                   field has no format
use Rattle.std.specs.Prelude.{ℕ, cond, List, [], Some, None, Option}
use Rattle.texts.specs.Checks.{admits_all}
use Rattle.texts.specs.Turning.{turned}
use Rattle.texts.specs.Wheels.{Wheels}
use Rattle.texts.specs.declared.checks.Check.{Check}
use Rattle.fields.specs.Records.{FormatSeen, FieldSeen, is_linked}
use Rattle.fields.specs.Tables.{Table, is_field, field_of, with_field, each_field}
use Rattle.fields.specs.declared.fault.FieldFault.{FieldFault}
use Rattle.fields.specs.declared.fault.FieldFault.TheVariants.{NoFormat, FieldLinked, OutsideCheck}
use Rattle.fields.specs.declared.format.FieldKind.{FieldKind}
use Rattle.fields.specs.declared.format.FieldKind.TheVariants.{Text, Code39, Code128}
use Rattle.fields.specs.declared.table.FieldName.{FieldName}

abbrev pub outside_check : Check → List ℕ → Option FieldFault
outside_check c t = cond (admits_all c t) None (Some OutsideCheck)

abbrev pub replaced_by : FormatSeen → List ℕ → FieldSeen
replaced_by l t = record { format = Some l; text = t }

abbrev pub replaced : FieldName → FormatSeen → List ℕ → Table → Table
replaced name l t table = with_field name (replaced_by l t) table

abbrev pub replace_refusal : FieldName → FormatSeen → List ℕ → Option FieldFault
replace_refusal name l t = cond (is_field name) (outside_check l.check t) (Some NoFormat)

abbrev pub retext : List ℕ → FieldSeen → FieldSeen
retext t s = record s { text = t }

abbrev pub retexted : FieldName → List ℕ → Table → Table
retexted name t table = with_field name (retext t (field_of name table)) table

abbrev pub retext_refusal : Option FormatSeen → List ℕ → Option FieldFault
retext_refusal None t = Some NoFormat
retext_refusal (Some l) t = cond (is_linked l) (Some FieldLinked) (outside_check l.check t)

abbrev pub text_refusal : FieldName → List ℕ → Table → Option FieldFault
text_refusal name t table = cond (is_field name) (retext_refusal (field_of name table).format t) (Some NoFormat)

abbrev pub emptied : FieldSeen → FieldSeen
emptied s = retext [] s

abbrev pub cleared : Table → Table
cleared = each_field emptied

abbrev pub wheels_of : Wheels → Wheels → FieldKind → Wheels
wheels_of w v Text = w
wheels_of w v Code39 = w
wheels_of w v Code128 = v

abbrev pub turned_text : Wheels → Wheels → Option FormatSeen → List ℕ → List ℕ
turned_text w v None t = t
turned_text w v (Some l) t = turned (wheels_of w v l.kind) t l.step

abbrev pub turned_field : Wheels → Wheels → FieldSeen → FieldSeen
turned_field w v s = retext (turned_text w v s.format s.text) s

abbrev pub turned_table : Wheels → Wheels → Table → Table
turned_table w v = each_field (turned_field w v)
