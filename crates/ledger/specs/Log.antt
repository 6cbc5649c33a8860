-- The calls of a run, as the law speaks of them.
--   call_of answer work a   the call a, where the run's buffers have so many bytes
--   event_of answer work e   an entry of the log: its call, and whether it was accepted
--   calls_in log       the calls of the log
--   events_in a w log  the entries of the log, on a run's buffers with the bytes a and w
--   Does u a w es x a' w'   the calls of es, on the station u with the bytes a and w in the buffers of the run,
--                     lead to x, a' and w'
--   answer_left, work_left   what the two buffers of the run hold after the call a on a station that is seen as v
use Rattle.std.specs.Prelude.{◌≡◌, ℕ, min, List, [], ◌∷◌, ◌++◌, map, length, take, drop}
use Rattle.station.specs.Steps.{Call, command, print, reload, Performed, answer_after, work_after, print_work, print_fault, next_line}
use Rattle.station.specs.Views.{View}
use Rattle.ledger.specs.Laws.{Event}
use Rattle.ledger.specs.declared.log.LentCall.{LentCall}
use Rattle.ledger.specs.declared.log.LentCall.TheVariants.{Command, Print, Reload}
use Rattle.ledger.specs.declared.log.LogEntry.{LogEntry}

abbrev pub call_of : ℕ → ℕ → LentCall → Call
call_of answer work (Command job at lent room) = command job.now at (min lent answer) (min room work)
call_of answer work (Print room) = print (min room work)
call_of answer work Reload = reload

abbrev pub event_of : ℕ → ℕ → LogEntry → Event
event_of answer work e = record { call = call_of answer work e.call; accepted = e.accepted }

abbrev pub calls_in : List LogEntry → List LentCall
calls_in log = map (λ (e : LogEntry). e.call) log

abbrev pub events_in : List ℕ → List ℕ → List LogEntry → List Event
events_in answer work log = map (event_of (length answer) (length work)) log

-- a call changes at most the front that it is lent
abbrev pub answer_left : View → LentCall → List ℕ → List ℕ → List ℕ
answer_left v (Command job at lent room) answer work =
    answer_after v job.now at (take (min lent (length answer)) answer) (min room (length work)) ++ drop
    (min lent (length answer)) answer
answer_left v (Print room) answer work = answer
answer_left v Reload answer work = answer

abbrev pub work_left : View → LentCall → List ℕ → List ℕ → List ℕ
work_left v (Command job at lent room) answer work =
    work_after v job.now at (min lent (length answer)) (take (min room (length work)) work) ++ drop
    (min room (length work)) work
work_left v (Print room) answer work =
    print_work (print_fault v (min room (length work))) (next_line v)
    (take (min room (length work)) work) ++ drop (min room (length work)) work
work_left v Reload answer work = work

abbrev pub Does : View → List ℕ → List ℕ → List LogEntry → View → List ℕ → List ℕ → Type 0
Does u answer work [] x answer' work' = (x ≡ u) × (answer' ≡ answer) × (work' ≡ work)
Does u answer work (e ∷ es) x answer' work' =
    (v : View) × Performed u (call_of (length answer) (length work) e.call) e.accepted v
    × Does v (answer_left u e.call answer work) (work_left u e.call answer work) es x answer' work'
