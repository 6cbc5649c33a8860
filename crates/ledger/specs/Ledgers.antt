-- The tag ledger: what can be told of a station's tags by whoever learns of its calls, and of each whether the
-- station took it, and never looks inside.
--   Form              a form that the store had at the making, by its bytes; or one saved in this run, by its
--                     whole commands
--   Ledger            the fields as last set; the forms; the number under which a form is being saved, and its
--                     commands so far; the labels ordered, taken, owed and cancelled, and the size of the latest
--                     issue; the latest tag's line
--   opened forms      the ledger of a newly made station whose store has these forms
--   actions_of x      the actions of a form's commands in turn
--   tag_of w v l      the line of the next tag
--   feed w v l c ok   the ledger after the call c. The wheels w and v are those of the two counting rules
use Rattle.std.specs.Prelude.{ℕ, ◌+◌, ◌-◌, Bool, true, false, cond, List, [], ◌∷◌, ◌++◌, map, Some, None, Ok, Err, Option, Result, ◌==◌}
use Rattle.std.specs.Option.{option_map}
use Rattle.texts.specs.Wheels.{Wheels}
use Rattle.tagline.specs.Line.{line_of}
use Rattle.jobgroups.specs.Commands.{CommandSeen}
use Rattle.label.specs.Actions.{Action, action_of}
use Rattle.station.specs.Reads.{read_at, Misread}
use Rattle.station.specs.Recalls.{FormCommand, commands_of}
use Rattle.station.specs.Requests.{Request, on_label, issue, begin_saving, end_saving, recall, empty_store, tell_status, reset, request_of}
use Rattle.station.specs.Steps.{Call, command, print, reload, whole_at}
use Rattle.ledger.specs.FieldAccounts.{FieldAccounts, blank_accounts, table_now, accounts_after, accounts_after_all, after_tag}

pub data Form : Type 0 where
  given : List ℕ → Form
  filed : List (List ℕ) → Form

pub record Ledger : Type 0 where
  pub fields : FieldAccounts
  pub forms : ℕ → Option Form
  pub saving : Option ℕ
  pub draft : List (List ℕ)
  pub ordered : ℕ
  pub size : ℕ
  pub taken : ℕ
  pub owed : ℕ
  pub cancelled : ℕ
  pub line : List ℕ

abbrev pub opened : (ℕ → Option (List ℕ)) → Ledger
opened forms =
    record {
      fields = blank_accounts;
      forms = λ n. option_map given (forms n);
      saving = None;
      draft = [];
      ordered = 0;
      size = 0;
      taken = 0;
      owed = 0;
      cancelled = 0;
      line = [];
    }

-- the action of a command that was read, if it is a label command
abbrev pub action_read : Result CommandSeen Misread → Option Action
action_read (Ok c) = action_of c
action_read (Err e) = None

abbrev pub actions_of : Form → List (Option Action)
actions_of (given x) = map (λ (s : FormCommand). action_read s.read) (commands_of x)
actions_of (filed ws) = map (λ (w : List ℕ). action_read (read_at w 0)) ws

-- a tag's number is the size of its issue less the labels owed, and one
abbrev pub tag_of : Wheels → Wheels → Ledger → List ℕ
tag_of w v l = line_of (l.size - l.owed + 1) l.size (table_now w v l.fields)

abbrev pub with_fields : FieldAccounts → Ledger → Ledger
with_fields es l =
    record l { fields = es }

abbrev pub with_forms : (ℕ → Option Form) → Ledger → Ledger
with_forms forms l =
    record l { forms = forms }

abbrev pub with_draft : Option ℕ → List (List ℕ) → Ledger → Ledger
with_draft saving draft l =
    record l { saving = saving; draft = draft }

-- a label command is done, or joins the draft while a form is being saved
abbrev pub label_noted : Option ℕ → Action → List ℕ → Ledger → Ledger
label_noted None a whole l = with_fields (accounts_after l.fields a) l
label_noted (Some n) a whole l = with_draft (Some n) (l.draft ++ whole ∷ []) l

abbrev pub issue_noted : ℕ → Ledger → Ledger
issue_noted n l =
    record l { ordered = l.ordered + n; size = n; owed = n }

-- the end of saving files the draft under its number
abbrev pub end_noted : Option ℕ → Ledger → Ledger
end_noted None l = l
end_noted (Some n) l = with_draft None [] (with_forms (λ k. cond (k == n) (Some (filed l.draft)) (l.forms k)) l)

abbrev pub recall_noted : Option Form → Ledger → Ledger
recall_noted None l = l
recall_noted (Some x) l = with_fields (accounts_after_all l.fields (actions_of x)) l

-- a reset cancels what is owed, and drops the draft and the fields
abbrev pub reset_noted : Ledger → Ledger
reset_noted l =
    record l { fields = blank_accounts; saving = None; draft = []; owed = 0; cancelled = l.cancelled + l.owed }

abbrev pub noted : Request → List ℕ → Ledger → Ledger
noted (on_label a) whole l = label_noted l.saving a whole l
noted (issue n) whole l = issue_noted n l
noted (begin_saving n) whole l = with_draft (Some n) [] l
noted end_saving whole l = end_noted l.saving l
noted (recall n) whole l = recall_noted (l.forms n) l
noted empty_store whole l = with_forms (λ n. None) l
noted tell_status whole l = l
noted reset whole l = reset_noted l

abbrev pub read_noted : Result CommandSeen Misread → List ℕ → Ledger → Ledger
read_noted (Ok c) whole l = noted (request_of c) whole l
read_noted (Err e) whole l = l

abbrev pub print_noted : Wheels → Wheels → Ledger → Ledger
print_noted w v l =
    record l { fields = after_tag l.fields; taken = l.taken + 1; owed = l.owed - 1; line = tag_of w v l }

abbrev pub feed : Wheels → Wheels → Ledger → Call → Bool → Ledger
feed w v l (command job at answer work) true = read_noted (read_at job at) (whole_at job at) l
feed w v l (print work) true = print_noted w v l
feed w v l reload true = l
feed w v l c false = l
