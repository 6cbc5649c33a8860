-- What the words on a run tell of a station, at every moment of the run, directly and with no ledger between.
--   CanRecall start s n ws   the form n was saved in this run, with the commands ws, nothing is owed, and no form is
--                     being saved
--   TellsOwed u n     a status answer, asked for at u, writes n as the labels owed
--   Searched w v start s   each search of the words finds what was said last in s or in its changes, or that nothing
--                     was said
--   Told w v start base s u   what the history s tells of the station u, whose printer had taken `base` tags at the
--                     making, and whose counting rules have the wheels w and v
--   Leads P s u a w es x a' w'   the calls of es, on the station u behind the history s, with the bytes a and w in the
--                     buffers of the run, lead to x, a' and w'; and at each moment P holds of history and station
--   ToldThroughout    so from a newly made station on, with what its history tells
--   Holds P s u es x  the calls of es, on the station u behind the history s, lead to x; and at each moment P holds
--   AllTold u es x    so from the newly made station u on, with what its history tells; the buffers are left out
--   history_after s es   the history behind s, once the calls of es have come
--   ToldAfter u es x  the history of all calls of es, on the newly made station u, tells of x
use Rattle.std.specs.Prelude.{◌≡◌, ℕ, ◌+◌, ◌<◌, ◌≤◌, true, List, [], ◌∷◌, length, Some, None, Option}
use Rattle.std.specs.Option.{option_map}
use Rattle.texts.specs.Wheels.{Wheels}
use Rattle.tagline.specs.Digits.{four_digits}
use Rattle.fields.specs.Records.{blank_field}
use Rattle.fields.specs.Tables.{is_field, field_of}
use Rattle.fields.specs.declared.table.FieldName.{FieldName}
use Rattle.station.specs.Requests.{recall, tell_status}
use Rattle.station.specs.Status.{status_answer}
use Rattle.station.specs.Steps.{Call, command, Performed, answer_after}
use Rattle.station.specs.Views.{View, owed_by}
use Rattle.ledger.specs.Log.{call_of, answer_left, work_left}
use Rattle.ledger.specs.FieldAccounts.{turned_times}
use Rattle.ledger.specs.Histories.{Deed, deed_by, Silent, SaidLast, LooksBack}
use Rattle.ledger.specs.Laws.{Event, Asks, Recalls, CanSend, digits_in, most_owed, saving_in}
use Rattle.ledger.specs.Ledgers.{Form, filed}
use Rattle.ledger.specs.Words.{Change, at_start, ordered, tags, promised, owed, cancelled, issued, size, number, saves, saving, begins, files, form_at, form_bytes, changes, new_format, format, new_text, tags_in, shown, lines, line_after}
use Rattle.ledger.specs.declared.log.LogEntry.{LogEntry}

pub record CanRecall (start : ℕ → Option Form) (s : List Deed) (n : ℕ) (ws : List (List ℕ)) : Type 0 where
  pub saved_here : form_at start n s ≡ Some (filed ws)
  pub nothing_owed : owed s ≡ 0
  pub none_being_saved : saving s ≡ None

abbrev pub TellsOwed : View → ℕ → Type 0
TellsOwed u n =
    (job : List ℕ) (at : ℕ) (answer : List ℕ) (work : ℕ) → Asks (command job at (length answer) work) tell_status
    → digits_in (answer_after u job at answer work) ≡ four_digits n

pub record Searched (w v : Wheels) (start : ℕ → Option Form) (s : List Deed) : Type 0 where
  pub promises : LooksBack promised s
  pub issues : LooksBack issued s
  pub savings : LooksBack saves s
  pub beginnings : LooksBack begins s
  pub filings : (n : ℕ) → LooksBack (files n) s
  pub formats : (f : FieldName) → LooksBack (new_format f) (changes start s)
  pub texts : (f : FieldName) → LooksBack (new_text f) (changes start s)
  pub tag_lines : LooksBack (lines w v start) s

pub record Told (w v : Wheels) (start : ℕ → Option Form) (base : ℕ) (s : List Deed) (u : View) : Type 0 where
  -- what the words search for is what was said last
  pub searched : Searched w v start s
  -- every label ordered is taken, owed or cancelled
  pub balance : ordered s ≡ tags s + owed s + cancelled s
  -- the station counts what was ordered, owes what is owed and saves what is being saved; the printer took one tag for
  -- each accepted print
  pub counted : u.ordered ≡ ordered s
  pub owes : owed_by u ≡ owed s
  pub saves_now : saving_in u.mode ≡ saving s
  pub taken : u.paper.taken ≡ base + tags s
  -- four digits are enough to tell the labels owed, and a status answer tells them
  pub few : owed s ≤ most_owed
  pub told : digits_in (status_answer u) ≡ four_digits (owed s)
  pub answers : TellsOwed u (owed s)
  -- a tag's number is its place in its issue
  pub place : 0 < owed s → owed s + number s ≡ size s + 1
  -- each field is what it was last given, turned once for each tag since
  pub fields : (f : FieldName) → is_field f ≡ true → field_of f u.label.table ≡ shown w v f (changes start s)
  -- that is: where a change gave it the text t, and those of `after`, which came later, gave it none
  pub set_last : (f : FieldName) → is_field f ≡ true → (t : List ℕ) (after : List Change)
      → SaidLast (new_text f) (changes start s) t after
      → field_of f u.label.table
      ≡ turned_times w v (tags_in after) (record { format = format f (changes start s); text = t })
  -- and where none gave it a text, it is as in a new label
  pub never_set : (f : FieldName) → is_field f ≡ true → Silent (new_text f) (changes start s) []
      → field_of f u.label.table ≡ blank_field
  -- the store has the forms that were last filed
  pub forms : (n : ℕ) → u.forms.at n ≡ option_map form_bytes (form_at start n s)
  -- the printer's latest line is that of the latest tag
  pub line : 0 < tags s → u.paper.latest ≡ line_after w v start s
  -- a recall does what the commands last saved there do one after another, and these can be sent
  pub recalls : (n : ℕ) (ws : List (List ℕ)) → CanRecall start s n ws → (c : Call) → Asks c (recall n) → Recalls ws u c
  pub tries : (n : ℕ) (ws : List (List ℕ)) → CanRecall start s n ws → CanSend ws u

abbrev pub Leads : (List Deed → View → Type 0) → List Deed → View → List ℕ → List ℕ → List LogEntry → View → List ℕ
    → List ℕ → Type 0
Leads P s u answer work [] x answer' work' = P s u × (x ≡ u) × (answer' ≡ answer) × (work' ≡ work)
Leads P s u answer work (e ∷ es) x answer' work' =
    P s u
    × ((v : View) × Performed u (call_of (length answer) (length work) e.call) e.accepted v
    × Leads P (deed_by (call_of (length answer) (length work) e.call) e.accepted ∷ s) v
    (answer_left u e.call answer work) (work_left u e.call answer work) es x answer' work')

abbrev pub ToldThroughout : View → List ℕ → List ℕ → List LogEntry → View → List ℕ → List ℕ → Type 0
ToldThroughout u = Leads (Told u.first u.second (at_start u.forms.at) u.paper.taken) [] u

abbrev pub Holds : (List Deed → View → Type 0) → List Deed → View → List Event → View → Type 0
Holds P s u [] x = (x ≡ u) × P s u
Holds P s u (e ∷ es) x =
    P s u × ((v : View) × Performed u e.call e.accepted v × Holds P (deed_by e.call e.accepted ∷ s) v es x)

abbrev pub AllTold : View → List Event → View → Type 0
AllTold u = Holds (Told u.first u.second (at_start u.forms.at) u.paper.taken) [] u

abbrev pub history_after : List Deed → List Event → List Deed
history_after s [] = s
history_after s (e ∷ es) = history_after (deed_by e.call e.accepted ∷ s) es

abbrev pub ToldAfter : View → List Event → View → Type 0
ToldAfter u es x = Told u.first u.second (at_start u.forms.at) u.paper.taken (history_after [] es) x
