-- The words on a run: each is a sum or a search over its history, and none needs another's state. A table, as `issued`,
-- has a line for each kind of deed that says anything of a subject; `latest` and `since` look it up.
--   ordered, tags, cancelled   the labels of all accepted issues; the accepted prints; what was owed at accepted resets
--   owed s            the labels of the latest issue, none behind a reset, less the tags since
--   size, number      the labels of the latest issue, and the number in it of the tag that comes next
--   saving s          the number under which a form is being saved
--   saved_since s     the label commands sent since saving last began, whole and in their order
--   at_start forms n  the form under a number at the making, the store then having these forms
--   form_at start n s   the form under a number: what the latest end of saving there filed, none behind an emptying, or
--                     else that of the start
--   form_bytes x      the bytes that the form x has in the store
--   Change            what a label's fields saw: an action, a reset, or a tag
--   changes start s   what they saw in a run, the latest first: each label command sent while no form was being saved,
--                     each one of a recalled form, each reset and each tag
--   format f h, text f h   the format and the text that the field f was last given
--   age f h           the tags since its text was given
--   shown w v f h     the field f now: its text turned once for each of these tags. w and v are the wheels of the two
--                     counting rules
--   next_line w v start s   the line of the tag that comes next
--   line_after w v start s  the line of the latest tag
use Rattle.std.specs.Prelude.{ℕ, ◌+◌, ◌-◌, Bool, false, cond, List, [], ◌∷◌, ◌++◌, map, Some, None, Option, unwrap_or, ◌==◌}
use Rattle.std.specs.List.{range_with_len}
use Rattle.std.specs.Option.{option_map}
use Rattle.limits.specs.Limits.{text_fields, bar_fields}
use Rattle.texts.specs.Wheels.{Wheels}
use Rattle.tagline.specs.Line.{line_of}
use Rattle.fields.specs.Records.{FormatSeen, FieldSeen, is_linked}
use Rattle.fields.specs.Tables.{Table}
use Rattle.fields.specs.Joining.{joined_text}
use Rattle.fields.specs.declared.table.FieldName.{FieldName}
use Rattle.fields.specs.declared.table.FieldName.TheVariants.{Text, Bar}
use Rattle.label.specs.Actions.{Action, clear, set_format, set_text, set_links}
use Rattle.station.specs.Requests.{on_label, issue, begin_saving, end_saving, recall, empty_store, reset}
use Rattle.ledger.specs.FieldAccounts.{turned_times}
use Rattle.ledger.specs.Histories.{Deed, asked, tag, latest, since}
use Rattle.ledger.specs.Ledgers.{Form, given, filed, actions_of}

-- ---- labels
abbrev pub ordered : List Deed → ℕ
ordered [] = 0
ordered (asked (issue n) whole ∷ before) = ordered before + n
ordered (d ∷ before) = ordered before

abbrev pub tags : List Deed → ℕ
tags [] = 0
tags (tag ∷ before) = tags before + 1
tags (d ∷ before) = tags before

-- what is to be printed: an issue says its labels, a reset none
abbrev pub promised : List Deed → Deed → Option ℕ
promised before (asked (issue n) whole) = Some n
promised before (asked reset whole) = Some 0
promised before d = None

abbrev pub owed : List Deed → ℕ
owed s = unwrap_or (latest promised s) 0 - tags (since promised s)

abbrev pub cancelled : List Deed → ℕ
cancelled [] = 0
cancelled (asked reset whole ∷ before) = cancelled before + owed before
cancelled (d ∷ before) = cancelled before

abbrev pub issued : List Deed → Deed → Option ℕ
issued before (asked (issue n) whole) = Some n
issued before d = None

abbrev pub size : List Deed → ℕ
size s = unwrap_or (latest issued s) 0

abbrev pub number : List Deed → ℕ
number s = tags (since issued s) + 1

-- ---- forms
abbrev pub at_start : (ℕ → Option (List ℕ)) → ℕ → Option Form
at_start forms n = option_map given (forms n)

-- the bytes of commands one behind the other
abbrev pub joined : List (List ℕ) → List ℕ
joined [] = []
joined (w ∷ ws) = w ++ joined ws

abbrev pub form_bytes : Form → List ℕ
form_bytes (given x) = x
form_bytes (filed ws) = joined ws

abbrev pub saves : List Deed → Deed → Option (Option ℕ)
saves before (asked (begin_saving n) whole) = Some (Some n)
saves before (asked end_saving whole) = Some None
saves before (asked reset whole) = Some None
saves before d = None

abbrev pub saving : List Deed → Option ℕ
saving s = unwrap_or (latest saves s) None

abbrev pub begins : List Deed → Deed → Option ℕ
begins before (asked (begin_saving n) whole) = Some n
begins before d = None

abbrev pub label_commands : List Deed → List (List ℕ)
label_commands [] = []
label_commands (asked (on_label a) whole ∷ before) = label_commands before ++ whole ∷ []
label_commands (d ∷ before) = label_commands before

abbrev pub saved_since : List Deed → List (List ℕ)
saved_since s = label_commands (since begins s)

-- the end of saving files what was saved under the number that was being saved
abbrev pub filed_at : ℕ → Option ℕ → List (List ℕ) → Option (Option Form)
filed_at n None ws = None
filed_at n (Some k) ws = cond (n == k) (Some (Some (filed ws))) None

abbrev pub files : ℕ → List Deed → Deed → Option (Option Form)
files n before (asked end_saving whole) = filed_at n (saving before) (saved_since before)
files n before (asked empty_store whole) = Some None
files n before d = None

abbrev pub form_at : (ℕ → Option Form) → ℕ → List Deed → Option Form
form_at start n s = unwrap_or (latest (files n) s) (start n)

-- ---- what a label's fields saw
pub data Change : Type 0 where
  did : Action → Change
  blanked : Change
  printed : Change

-- a label command while a form is being saved is not done
abbrev pub done_unless : Option ℕ → Action → List Change
done_unless None a = did a ∷ []
done_unless (Some n) a = []

abbrev pub done_in_turn : List (Option Action) → List Change
done_in_turn [] = []
done_in_turn (None ∷ rest) = done_in_turn rest
done_in_turn (Some a ∷ rest) = done_in_turn rest ++ did a ∷ []

abbrev pub done_by : Option Form → List Change
done_by None = []
done_by (Some x) = done_in_turn (actions_of x)

abbrev pub changes_by : (ℕ → Option Form) → List Deed → Deed → List Change
changes_by start before (asked (on_label a) whole) = done_unless (saving before) a
changes_by start before (asked (recall n) whole) = done_by (form_at start n before)
changes_by start before (asked reset whole) = blanked ∷ []
changes_by start before tag = printed ∷ []
changes_by start before d = []

abbrev pub changes : (ℕ → Option Form) → List Deed → List Change
changes start [] = []
changes start (d ∷ before) = changes_by start before d ++ changes start before

-- ---- fields
abbrev pub same_field : FieldName → FieldName → Bool
same_field (Text m) (Text n) = m == n
same_field (Text m) (Bar n) = false
same_field (Bar m) (Text n) = false
same_field (Bar m) (Bar n) = m == n

abbrev pub if_same : {X : Type 0} → FieldName → FieldName → X → Option X
if_same f g x = cond (same_field f g) (Some x) None

abbrev pub new_format : FieldName → List Change → Change → Option (Option FormatSeen)
new_format f before (did (set_format g l t)) = if_same f g (Some l)
new_format f before blanked = Some None
new_format f before c = None

abbrev pub format : FieldName → List Change → Option FormatSeen
format f h = unwrap_or (latest (new_format f) h) None

-- link strings give a text to linked fields alone
abbrev pub joined_in : List (List ℕ) → Option FormatSeen → Option (List ℕ)
joined_in strings None = None
joined_in strings (Some l) = cond (is_linked l) (Some (joined_text strings l.links)) None

-- a format without a text gives the empty text
abbrev pub new_text : FieldName → List Change → Change → Option (List ℕ)
new_text f before (did (set_format g l t)) = if_same f g t
new_text f before (did (set_text g t)) = if_same f g t
new_text f before (did (set_links strings)) = joined_in strings (format f before)
new_text f before (did clear) = Some []
new_text f before blanked = Some []
new_text f before c = None

abbrev pub text : FieldName → List Change → List ℕ
text f h = unwrap_or (latest (new_text f) h) []

abbrev pub tags_in : List Change → ℕ
tags_in [] = 0
tags_in (printed ∷ before) = tags_in before + 1
tags_in (c ∷ before) = tags_in before

abbrev pub age : FieldName → List Change → ℕ
age f h = tags_in (since (new_text f) h)

abbrev pub shown : Wheels → Wheels → FieldName → List Change → FieldSeen
shown w v f h = turned_times w v (age f h) (record { format = format f h; text = text f h })

-- ---- lines
abbrev pub table_shown : Wheels → Wheels → List Change → Table
table_shown w v h =
    record {
      texts = map (λ n. shown w v (Text n) h) (range_with_len 1 text_fields);
      bars = map (λ n. shown w v (Bar n) h) (range_with_len 1 bar_fields);
    }

abbrev pub next_line : Wheels → Wheels → (ℕ → Option Form) → List Deed → List ℕ
next_line w v start s = line_of (number s) (size s) (table_shown w v (changes start s))

abbrev pub lines : Wheels → Wheels → (ℕ → Option Form) → List Deed → Deed → Option (List ℕ)
lines w v start before tag = Some (next_line w v start before)
lines w v start before d = None

abbrev pub line_after : Wheels → Wheels → (ℕ → Option Form) → List Deed → List ℕ
line_after w v start s = unwrap_or (latest (lines w v start) s) []
