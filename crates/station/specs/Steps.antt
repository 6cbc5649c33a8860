-- What a station does at a call, exactly: which faults come in which order, and what an accepted call leaves.
--   Call            a command at a place of a job, with the bytes lent for the answer and for work; a print, with
--                   the bytes lent for work; or a reload
--   answered v c .. what the request of a well-formed command comes to: the station then, or why it is refused
--   Came r o v u    a step that came to the outcome o answers r, and leaves u, which is v where it is refused
--   commanded       what a command call comes to: the station then and the next place, or the fault
--   Commanded o r v u   a command call that came to o answers r, and leaves u
--   answer_after, work_after   the two buffers after a command
--   tag_line v      the line of the tag that v prints next
--   print_fault     why a print is refused, if it is
--   printed v p     the station after a tag, p being its paper then
--   Performed v c ok u   the call c at v is accepted (ok) or refused, and leaves u
use Rattle.std.specs.Prelude.{◌≡◌, ℕ, ◌+◌, ◌-◌, ◌<◌, ◌≤◌, Bool, true, false, cond, List, [], ◌++◌, length, take, drop, Some, None, Ok, Err, Option, Result, ◌==◌, nat_le, nat_lt}
use Rattle.limits.specs.Limits.{longest_form, last_tag}
use Rattle.faults.specs.declared.Fault.{Fault}
use Rattle.faults.specs.declared.Refusal.{Refusal}
use Rattle.faults.specs.declared.Refusal.TheVariants.{ShortBuffer, LabelsOwed, NotWhileSaving, NotSaving, DraftFull, NoSuchForm, TooManyOrdered, NothingOwed, OutOfStock}
use Rattle.jobgroups.specs.Commands.{CommandSeen}
use Rattle.stores.specs.Forms.{Forms, put_answer, stored, emptied, filled_with}
use Rattle.stores.specs.declared.answers.StoreFault.{StoreFault}
use Rattle.stores.specs.Refusals.{refusal_of as store_refusal}
use Rattle.printers.specs.Paper.{Paper, with_tag, reloaded}
use Rattle.tagline.specs.Line.{line_of}
use Rattle.label.specs.Labels.{LabelSeen, new_label, label_refusal, turned_label}
use Rattle.station.specs.declared.blame.Blame.{Blame}
use Rattle.station.specs.declared.sizes.TheConstants.{ANSWER_BYTES, WORK_BYTES, MOST_ORDERED}
use Rattle.station.specs.Reads.{read_at, next_at, out_of_bounds, Misread}
use Rattle.station.specs.Requests.{Request, on_label, issue, begin_saving, end_saving, recall, empty_store, tell_status, reset, request_of}
use Rattle.job.specs.Reading.{fault_of}
use Rattle.station.specs.Recalls.{commands_of, done_all, acted}
use Rattle.station.specs.Status.{status_answer}
use Rattle.station.specs.Views.{ModeSeen, idle, saving, owing, View, with_label, with_mode, with_forms, with_paper, with_ordered}

-- the bytes that a status answer and a line need
abbrev pub answer_bytes : ℕ
answer_bytes = ANSWER_BYTES

abbrev pub work_bytes : ℕ
work_bytes = WORK_BYTES

-- the labels that may be ordered since a station was made
abbrev pub most_ordered : ℕ
most_ordered = MOST_ORDERED

pub data Call : Type 0 where
  command : List ℕ → ℕ → ℕ → ℕ → Call
  print : ℕ → Call
  reload : Call

abbrev pub refused : Refusal → ℕ → Result View Blame
refused r at = Err (record { refusal = r; form = 0; place = at })

abbrev pub relabelled : View → Result LabelSeen Blame → Result View Blame
relabelled v (Ok l) = Ok (with_label l v)
relabelled v (Err e) = Err e

abbrev pub recalled : View → ℕ → ℕ → Option (List ℕ) → Result View Blame
recalled v n at (Some form) = relabelled v (done_all n v.label (commands_of form))
recalled v n at None = Err (record { refusal = NoSuchForm; form = n; place = at })

abbrev pub filed : View → ℕ → List ℕ → ℕ → Result (Unit {0}) StoreFault → Result View Blame
filed v n draft at (Ok x) = Ok (with_mode idle (with_forms (stored v.forms n draft) v))
filed v n draft at (Err e) = refused (store_refusal e) at

-- what is owed at the start of an issue; the reader admits no issue of 0 labels, which would owe nothing
abbrev pub owing_all : ℕ → ModeSeen
owing_all n = cond (n == 0) idle (owing n n)

abbrev pub ordering : View → ℕ → ℕ → Result View Blame
ordering v n at = cond (nat_le (v.ordered + n) most_ordered)
    (Ok (with_mode (owing_all n) (with_ordered (v.ordered + n) v))) (refused TooManyOrdered at)

abbrev pub drafted : View → ℕ → List ℕ → List ℕ → ℕ → Result View Blame
drafted v n draft whole at =
    cond (nat_le (length draft + length whole) longest_form) (Ok (with_mode (saving n (draft ++ whole)) v))
    (refused DraftFull at)

abbrev pub when_idle : View → Request → ℕ → Result View Blame
when_idle v (on_label a) at = relabelled v (acted 0 v.label a at (label_refusal v.label a))
when_idle v (issue n) at = ordering v n at
when_idle v (begin_saving n) at = Ok (with_mode (saving n []) v)
when_idle v end_saving at = refused NotSaving at
when_idle v (recall n) at = recalled v n at (v.forms.at n)
when_idle v empty_store at = Ok (with_forms (emptied v.forms) v)
when_idle v tell_status at = Ok v
when_idle v reset at = Ok (with_mode idle (with_label new_label v))

abbrev pub when_saving : View → ℕ → List ℕ → Request → List ℕ → ℕ → Result View Blame
when_saving v n draft (on_label a) whole at = drafted v n draft whole at
when_saving v n draft end_saving whole at = filed v n draft at (put_answer v.forms n (length draft))
when_saving v n draft tell_status whole at = Ok v
when_saving v n draft reset whole at = Ok (with_mode idle (with_label new_label v))
when_saving v n draft r whole at = refused NotWhileSaving at

abbrev pub when_owing : View → Request → ℕ → Result View Blame
when_owing v tell_status at = Ok v
when_owing v reset at = Ok (with_mode idle (with_label new_label v))
when_owing v r at = refused LabelsOwed at

abbrev pub answered_in : ModeSeen → View → Request → List ℕ → ℕ → Result View Blame
answered_in idle v r whole at = when_idle v r at
answered_in (saving n draft) v r whole at = when_saving v n draft r whole at
answered_in (owing left size) v r whole at = when_owing v r at

abbrev pub answered : View → Request → List ℕ → ℕ → Result View Blame
answered v r whole at = answered_in v.mode v r whole at

abbrev pub Came : Result (Unit {0}) Blame → Result View Blame → View → View → Type 0
Came (Ok x) o v u = o ≡ Ok u
Came (Err b) o v u = (o ≡ Err b) × (u ≡ v)

-- the bytes of the command at a place, from its ESC to its NUL
abbrev pub whole_at : List ℕ → ℕ → List ℕ
whole_at job at = take (next_at job at - at) (drop at job)

abbrev pub fault_at : Refusal → ℕ → ℕ → ℕ → Fault
fault_at r form place next = record { refusal = r; form = form; place = place; next = next }

abbrev pub concluded : Result View Blame → ℕ → Result (View × ℕ) Fault
concluded (Ok u) next = Ok (u, next)
concluded (Err b) next = Err (fault_at b.refusal b.form b.place next)

abbrev pub on_read : View → List ℕ → ℕ → Result CommandSeen Misread → Result (View × ℕ) Fault
on_read v job at (Ok c) = concluded (answered v (request_of c) (whole_at job at) at) (next_at job at)
on_read v job at (Err e) = Err (fault_of e)

abbrev pub short_buffers : ℕ → ℕ → Bool
short_buffers answer work = cond (nat_lt answer answer_bytes) true (nat_lt work work_bytes)

-- too short buffers come behind a place outside the job, and before all else
abbrev pub commanded : View → List ℕ → ℕ → ℕ → ℕ → Result (View × ℕ) Fault
commanded v job at answer work =
    cond (out_of_bounds job at) (on_read v job at (read_at job at))
    (cond (short_buffers answer work) (Err (fault_at ShortBuffer 0 at at)) (on_read v job at (read_at job at)))

-- the answer of a command call and what it leaves: refused, nothing of the station changes
abbrev pub Commanded : Result (View × ℕ) Fault → Result ℕ Fault → View → View → Type 0
Commanded o (Ok next) v u = o ≡ Ok (u, next)
Commanded o (Err f) v u = (o ≡ Err f) × (u ≡ v)

abbrev pub answer_by : Request → View → List ℕ → List ℕ
answer_by tell_status v answer = status_answer v ++ drop answer_bytes answer
answer_by r v answer = answer

abbrev pub work_by : Request → Forms → List ℕ → List ℕ
work_by (recall n) forms work = filled_with (forms.at n) work
work_by r forms work = work

abbrev pub work_in : ModeSeen → Request → Forms → List ℕ → List ℕ
work_in idle r forms work = work_by r forms work
work_in (saving n draft) r forms work = work
work_in (owing left size) r forms work = work

abbrev pub answer_on : Result CommandSeen Misread → View → List ℕ → List ℕ
answer_on (Ok c) v answer = answer_by (request_of c) v answer
answer_on (Err e) v answer = answer

abbrev pub work_on : Result CommandSeen Misread → View → List ℕ → List ℕ
work_on (Ok c) v work = work_in v.mode (request_of c) v.forms work
work_on (Err e) v work = work

abbrev pub answer_after : View → List ℕ → ℕ → List ℕ → ℕ → List ℕ
answer_after v job at answer work =
    cond (short_buffers (length answer) work) answer (answer_on (read_at job at) v answer)

abbrev pub work_after : View → List ℕ → ℕ → ℕ → List ℕ → List ℕ
work_after v job at answer work = cond (short_buffers answer (length work)) work (work_on (read_at job at) v work)

-- a tag's number in its issue is the size less the labels owed, and one
abbrev pub tag_line : View → ℕ → ℕ → List ℕ
tag_line v left size = line_of (size - left + 1) size v.label.table

abbrev pub stock_fault : ℕ → Option Fault
stock_fault left = cond (left == 0) (Some (fault_at OutOfStock 0 0 0)) None

abbrev pub owed_fault : ModeSeen → ℕ → Option Fault
owed_fault idle stock = Some (fault_at NothingOwed 0 0 0)
owed_fault (saving n draft) stock = Some (fault_at NothingOwed 0 0 0)
owed_fault (owing left size) stock = stock_fault stock

abbrev pub print_fault : View → ℕ → Option Fault
print_fault v work = cond (nat_lt work work_bytes) (Some (fault_at ShortBuffer 0 0 0))
    (owed_fault v.mode v.paper.left)

abbrev pub one_less : ℕ → ℕ → ModeSeen
one_less left size = cond (nat_le left 1) idle (owing (left - 1) size)

-- the station after a tag, its paper being given
abbrev pub printed : View → ℕ → ℕ → Paper → View
printed v left size paper =
    record v { paper = paper; label = turned_label v.first v.second v.label; mode = one_less left size }

pub record Printed (v : View) (left size : ℕ) (u : View) : Type 0 where
  pub after : u ≡ printed v left size (with_tag v.paper (tag_line v left size) u.paper.left)
  -- the stock falls by at most one
  pub falls : v.paper.left ≤ u.paper.left + 1

abbrev pub PrintedIn : ModeSeen → View → View → Type 0
PrintedIn idle v u = ⊥
PrintedIn (saving n draft) v u = ⊥
PrintedIn (owing left size) v u = Printed v left size u

-- the line of the tag that is printed next
abbrev pub line_in : ModeSeen → View → List ℕ
line_in idle v = []
line_in (saving n draft) v = []
line_in (owing left size) v = tag_line v left size

abbrev pub next_line : View → List ℕ
next_line v = line_in v.mode v

-- the answer of a print and what it leaves; accepted, it tells the line's length
abbrev pub Printing : View → ℕ → Result ℕ Fault → View → Type 0
Printing v work (Ok n) u = (print_fault v work ≡ None) × PrintedIn v.mode v u × (n ≡ length (next_line v))
Printing v work (Err f) u = (print_fault v work ≡ Some f) × (u ≡ v)

abbrev pub print_work : Option Fault → List ℕ → List ℕ → List ℕ
print_work None line work = line ++ drop (length line) work
print_work (Some f) line work = work

pub record Reloaded (v : View) (u : View) : Type 0 where
  pub after : u ≡ with_paper (reloaded v.paper u.paper.left) v
  pub loaded : v.paper.taken < last_tag → 1 ≤ u.paper.left
  pub spent : last_tag ≤ v.paper.taken → u.paper.left ≡ 0

abbrev pub Performed : View → Call → Bool → View → Type 0
Performed v (command job at answer work) true u = (next : ℕ) × (commanded v job at answer work ≡ Ok (u, next))
Performed v (command job at answer work) false u = (f : Fault) × (commanded v job at answer work ≡ Err f) × (u ≡ v)
Performed v (print work) true u = (print_fault v work ≡ None) × PrintedIn v.mode v u
Performed v (print work) false u = (f : Fault) × (print_fault v work ≡ Some f) × (u ≡ v)
Performed v reload true u = Reloaded v u
Performed v reload false u = ⊥
