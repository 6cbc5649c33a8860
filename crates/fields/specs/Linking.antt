-- Link strings: every linked field gets its strings joined in its own order.
--   linked_field, linked   a field whose text, if it is linked, is now its joined text; every field of a table so
--   too_long, outside   a field's joined text is too long for a text, or has a character outside the set of its
--                       check; a field that is not linked joins nothing, so it is neither
--   link_refusal        why link strings are refused: by any field's joined text that is too long, else by any
--                       that has a character outside its check's set
--   linked_if_fits      the same as linked_field for a field whose joined text is not too long
use Rattle.std.specs.Prelude.{ℕ, Bool, true, false, cond, List, [], length, Some, None, Option, ◌==◌, nat_lt}
use Rattle.limits.specs.Limits.{longest_text}
use Rattle.texts.specs.Checks.{admits_all}
use Rattle.texts.specs.declared.checks.Check.{Check}
use Rattle.texts.specs.declared.checks.Check.TheVariants.{NoCheck}
use Rattle.fields.specs.Joining.{joined_text}
use Rattle.fields.specs.Records.{FormatSeen, FieldSeen}
use Rattle.fields.specs.Tables.{Table, each_field, any_field}
use Rattle.fields.specs.Calls.{retext}
use Rattle.fields.specs.declared.fault.FieldFault.{FieldFault}
use Rattle.fields.specs.declared.fault.FieldFault.TheVariants.{JoinedTooLong, OutsideCheck}

abbrev pub links_of : Option FormatSeen → List ℕ
links_of None = []
links_of (Some l) = l.links

abbrev pub check_of : Option FormatSeen → Check
check_of None = NoCheck
check_of (Some l) = l.check

-- the text of a field with these links, after the strings; t was its text
abbrev pub linked_text : List (List ℕ) → List ℕ → List ℕ → List ℕ
linked_text strings links t = cond (length links == 0) t (joined_text strings links)

abbrev pub linked_field : List (List ℕ) → FieldSeen → FieldSeen
linked_field strings s = retext (linked_text strings (links_of s.format) s.text) s

abbrev pub linked : List (List ℕ) → Table → Table
linked strings = each_field (linked_field strings)

abbrev pub joined_for : List (List ℕ) → FieldSeen → List ℕ
joined_for strings s = joined_text strings (links_of s.format)

abbrev pub too_long : List (List ℕ) → FieldSeen → Bool
too_long strings s = nat_lt longest_text (length (joined_for strings s))

abbrev pub outside : List (List ℕ) → FieldSeen → Bool
outside strings s = cond (admits_all (check_of s.format) (joined_for strings s)) false true

abbrev pub link_refusal : List (List ℕ) → Table → Option FieldFault
link_refusal strings t =
    cond (any_field (too_long strings) t) (Some JoinedTooLong)
    (cond (any_field (outside strings) t) (Some OutsideCheck) None)

abbrev pub linked_if_fits : List (List ℕ) → FieldSeen → FieldSeen
linked_if_fits strings s = cond (too_long strings s) s (linked_field strings s)
