-- What holds throughout every run of calls on a station: each tag is accounted for.
--   Event             a call, and whether it was accepted;  Run u es x  the calls of es lead from u to x, each as
--                     its contract says
--   Throughout P ..   P holds of ledger and station before the first call and after each
--   Asks c r          c is a command call with long enough buffers, whose command is well formed and asks for r
--   Sends w c         c is a command call with long enough buffers, whose job has the bytes w at its place and is
--                     not too long
--   SendsAll ws es    the calls of es send the commands ws, one after another
--   digits_in answer  the four digits of labels owed in the bytes of a status answer
--   Accounted base l v   the ledger l accounts for the station v, whose printer had taken `base` tags at the making
--   Recalls ws v c    the recall c of the commands ws is accepted at v exactly when they are all accepted there one
--                     after another, and then leaves the label with its sizes that they leave
--   Answered l v      a status answer asked for now has the ledger's labels owed in the answer buffer
--   AllAccounted u es x, AllAnswered u es x   so do ledger and station throughout the calls es, from the new
--                     station u to x
--   AccountedAfter u es x   the ledger accounts for the station after them
use Rattle.std.specs.Prelude.{◌≡◌, ℕ, ◌+◌, ◌<◌, ◌≤◌, Bool, true, false, ◌&&◌, List, [], ◌∷◌, ◌++◌, length, take, drop, Some, None, Ok, Option}
use Rattle.limits.specs.Limits.{longest_job}
use Rattle.texts.specs.Wheels.{Wheels}
use Rattle.tagline.specs.Digits.{four_digits}
use Rattle.jobgroups.specs.Commands.{CommandSeen}
use Rattle.station.specs.Reads.{read_at}
use Rattle.station.specs.Requests.{Request, recall, tell_status, request_of}
use Rattle.station.specs.Status.{status_answer}
use Rattle.station.specs.Steps.{Call, command, print, reload, short_buffers, answer_after, Performed}
use Rattle.station.specs.Views.{ModeSeen, idle, saving, owing, View, owed_by}
use Rattle.ledger.specs.Ledgers.{Ledger, filed, feed, opened}

pub record Event : Type 0 where
  pub call : Call
  pub accepted : Bool

abbrev pub Run : View → List Event → View → Type 0
Run u [] x = x ≡ u
Run u (e ∷ es) x = (v : View) × Performed u e.call e.accepted v × Run v es x

-- (the first two are the wheels of the counting rules)
abbrev pub Throughout : Wheels → Wheels → (Ledger → View → Type 0) → Ledger → View → List Event → View → Type 0
Throughout first second P l u [] x = (x ≡ u) × P l u
Throughout first second P l u (e ∷ es) x =
    P l u × ((v : View) × Performed u e.call e.accepted v × Throughout first second P
    (feed first second l e.call e.accepted) v es x)

-- the ledger after a run
abbrev pub fed : Wheels → Wheels → Ledger → List Event → Ledger
fed first second l [] = l
fed first second l (e ∷ es) = fed first second (feed first second l e.call e.accepted) es

abbrev pub all_accepted : List Event → Bool
all_accepted [] = true
all_accepted (e ∷ es) = e.accepted && all_accepted es

abbrev pub Asks : Call → Request → Type 0
Asks (command job at answer work) r =
    (c : CommandSeen) × (read_at job at ≡ Ok c) × (request_of c ≡ r) × (short_buffers answer work ≡ false)
Asks (print work) r = ⊥
Asks reload r = ⊥

abbrev pub Sends : List ℕ → Call → Type 0
Sends w (command job at answer work) =
    (before : List ℕ) × (behind : List ℕ) × (job ≡ before ++ (w ++ behind)) × (at ≡ length before) ×
    (length job ≤ longest_job) × (short_buffers answer work ≡ false)
Sends w (print work) = ⊥
Sends w reload = ⊥

abbrev pub SendsAll : List (List ℕ) → List Event → Type 0
SendsAll [] [] = Unit {0}
SendsAll [] (e ∷ es) = ⊥
SendsAll (w ∷ ws) [] = ⊥
SendsAll (w ∷ ws) (e ∷ es) = Sends w e.call × SendsAll ws es

-- the four digits of labels owed in the bytes of a status answer
abbrev pub digits_in : List ℕ → List ℕ
digits_in answer = take 4 (drop 5 answer)

-- what four digits can tell
abbrev pub most_owed : ℕ
most_owed = 9999

-- the number under which a form is being saved
abbrev pub saving_in : ModeSeen → Option ℕ
saving_in idle = None
saving_in (saving n draft) = Some n
saving_in (owing left size) = None

-- by the ledger the commands ws are saved under the number n, no label is owed, and no form is being saved
pub record FreeToRecall (l : Ledger) (n : ℕ) (ws : List (List ℕ)) : Type 0 where
  pub saved : l.forms n ≡ Some (filed ws)
  pub owed : l.owed ≡ 0
  pub saving : l.saving ≡ None

abbrev pub Recalls : List (List ℕ) → View → Call → Type 0
Recalls ws v c =
    (ok : Bool) (x : View) → Performed v c ok x → (es : List Event) (y : View) → SendsAll ws es → Run v es y
    → (ok ≡ all_accepted es) × (ok ≡ true → x.label ≡ y.label)

-- the commands ws can be sent at v one after another
abbrev pub CanSend : List (List ℕ) → View → Type 0
CanSend ws v = (es : List Event) × (y : View) × SendsAll ws es × Run v es y

pub record Accounted (base : ℕ) (l : Ledger) (v : View) : Type 0 where
  -- every label ordered is taken, owed or cancelled
  pub tags : l.ordered ≡ l.taken + l.owed + l.cancelled
  -- the tags taken are those that the printer took since the making
  pub taken : v.paper.taken ≡ base + l.taken
  -- the labels owed are those of which a status answer tells, and four digits are enough to tell them
  pub told : digits_in (status_answer v) ≡ four_digits l.owed
  pub few : l.owed ≤ most_owed
  pub owed : owed_by v ≡ l.owed
  -- the printer's latest line is the ledger's
  pub latest : 0 < l.taken → v.paper.latest ≡ l.line
  pub saving : saving_in v.mode ≡ l.saving
  -- with nothing owed and nothing being saved, a recall does what the commands last saved there do, sent one after
  -- another
  pub recalls : (n : ℕ) (ws : List (List ℕ)) → FreeToRecall l n ws → (c : Call) → Asks c (recall n) → Recalls ws v c
  -- and these commands can be sent there one after another
  pub tries : (n : ℕ) (ws : List (List ℕ)) → FreeToRecall l n ws → CanSend ws v

-- a status answer, asked for now, writes the labels owed into the answer buffer
abbrev pub Answered : Ledger → View → Type 0
Answered l v =
    (job : List ℕ) (at : ℕ) (answer : List ℕ) (work : ℕ) → Asks (command job at (length answer) work) tell_status
    → digits_in (answer_after v job at answer work) ≡ four_digits l.owed

abbrev pub AllAccounted : View → List Event → View → Type 0
AllAccounted u es x = Throughout u.first u.second (Accounted u.paper.taken) (opened u.forms.at) u es x

abbrev pub AllAnswered : View → List Event → View → Type 0
AllAnswered u es x = Throughout u.first u.second Answered (opened u.forms.at) u es x

abbrev pub AccountedAfter : View → List Event → View → Type 0
AccountedAfter u es x = Accounted u.paper.taken (fed u.first u.second (opened u.forms.at) es) x
