-- What the reader answers at a place of a job.
--   leads ls bs        the bytes bs begin with the letters ls
--   first_led cs bs    the first command of cs with whose letters bs begins
--   parsed_at          what the table says of a body whose letters are known, or not known
--   before b bs        how many bytes of bs stand before the first b; all, where there is none
--   next_escape        the place of the first ESC behind a place, or the job's end
--   bounds_at            the job is not too long, and the place not past its end
--   begin_at           a command begins at the place
--   ending_at          the place of the LF that ends it: the first, with NUL behind it, both within the longest command
--   end_at             the same, once the bounds and the ESC are tested
--   read_at            the command at a place and the place behind it, or the fault
--   refusal_of, fault_of what the reader refuses, as a station tells it
use Rattle.std.specs.Prelude.{ℕ, ◌+◌, Bool, true, false, cond, List, [], ◌∷◌, length, take, drop, Some, None, Ok, Err, Option, Result, ◌==◌, nat_eq, nat_lt, slice_index}
use Rattle.faults.specs.declared.Refusal.{Refusal}
use Rattle.faults.specs.declared.Refusal.TheVariants.{JobBounds, JobEnd, NoEscape as escape_missing, NoEnding as ending_missing, UnknownLetters as letters_unknown, WrongByte as byte_wrong, NotAdmitted as value_refused}
use Rattle.faults.specs.declared.Fault.{Fault}
use Rattle.jobparts.specs.declared.part.ReadRefusal.{ReadRefusal}
use Rattle.jobparts.specs.declared.part.ReadRefusal.TheVariants.{OutOfBounds, AtEnd, NoEscape, NoEnding, UnknownLetters, WrongByte, NotAdmitted}
use Rattle.jobparts.specs.declared.part.Wrong.{Wrong}
use Rattle.jobgroups.specs.Commands.{CommandSeen, command_at}
use Rattle.jobgroups.specs.Table.{letters_of, order}
use Rattle.jobgroups.specs.declared.letters.Letters.{Letters}
use Rattle.jobgroups.specs.Commands.{seen_command}
use Rattle.jobgroups.specs.declared.command.Command.{Command}
use Rattle.jobparts.specs.Kinds.{stands}
use Rattle.limits.specs.Limits.{longest_job, longest_command}
use Rattle.job.specs.declared.fault.ReadFault.{ReadFault}

abbrev pub refusal_of : ReadRefusal → Refusal
refusal_of OutOfBounds = JobBounds
refusal_of AtEnd = JobEnd
refusal_of NoEscape = escape_missing
refusal_of NoEnding = ending_missing
refusal_of UnknownLetters = letters_unknown
refusal_of WrongByte = byte_wrong
refusal_of NotAdmitted = value_refused

abbrev pub fault_of : ReadFault → Fault
fault_of e = record { refusal = refusal_of e.refusal; form = 0; place = e.place; next = e.next }

abbrev pub leads : List ℕ → List ℕ → Bool
leads [] bs = true
leads (l ∷ ls) [] = false
leads (l ∷ ls) (b ∷ bs) = cond (b == l) (leads ls bs) false

abbrev pub first_led : List Letters → List ℕ → Option Letters
first_led [] bs = None
first_led (c ∷ cs) bs = cond (leads (letters_of c) bs) (Some c) (first_led cs bs)

abbrev pub parsed_at : Option Letters → List ℕ → ℕ → ℕ → Result CommandSeen Wrong
parsed_at None body at start = Err (record { refusal = UnknownLetters; place = at })
parsed_at (Some c) body at start = command_at c body (start + length (letters_of c))

abbrev pub before : ℕ → List ℕ → ℕ
before b [] = 0
before b (x ∷ xs) = cond (x == b) 0 (1 + before b xs)

abbrev pub next_escape : List ℕ → ℕ → ℕ
next_escape job at = at + 1 + before 27 (drop (at + 1) job)

abbrev pub fault : ReadRefusal → ℕ → ℕ → ReadFault
fault refusal place next = record { refusal = refusal; place = place; next = next }

abbrev pub bounds_at : List ℕ → ℕ → Result (Unit {0}) ReadFault
bounds_at job at =
    cond (nat_lt longest_job (length job)) (Err (fault OutOfBounds at at))
    (cond (nat_lt (length job) at) (Err (fault OutOfBounds at at)) (Ok tt))

abbrev pub begin_at : List ℕ → ℕ → Result (Unit {0}) ReadFault
begin_at job at =
    cond (nat_lt at (length job))
    (cond (slice_index job at == 27) (Ok tt) (Err (fault NoEscape at (next_escape job at))))
    (Err (fault AtEnd at at))

abbrev pub window : List ℕ → ℕ → List ℕ
window job at = take longest_command (drop at job)

abbrev pub ending_at : List ℕ → ℕ → Result ℕ ReadFault
ending_at job at =
    cond (stands (nat_eq 0) (window job at) (before 10 (window job at) + 1))
    (Ok (at + before 10 (window job at)))
    (Err (fault NoEnding at (next_escape job at)))

abbrev pub then_read : {X Y : Type 0} → Result X ReadFault → (X → Result Y ReadFault) → Result Y ReadFault
then_read (Ok x) f = f x
then_read (Err e) f = Err e

-- the place of the LF that ends the command at a place, which begins there
abbrev pub end_at : List ℕ → ℕ → Result ℕ ReadFault
end_at job at = then_read (bounds_at job at) (λ _. then_read (begin_at job at) (λ _. ending_at job at))

-- a body is read, and the place behind the command is known
abbrev pub placed : ℕ → Result CommandSeen Wrong → Result (CommandSeen × ℕ) ReadFault
placed next (Ok p) = Ok (p, next)
placed next (Err w) = Err (fault w.refusal w.place next)

abbrev pub body_at : List ℕ → ℕ → Result CommandSeen Wrong
body_at body at = parsed_at (first_led order (drop (at + 1) body)) body at (at + 1)

abbrev pub read_at : List ℕ → ℕ → Result (CommandSeen × ℕ) ReadFault
read_at job at =
    then_read (bounds_at job at) (λ _.
    then_read (begin_at job at)
    (λ _. then_read (ending_at job at) (λ end. placed (end + 2) (body_at (take end job) at))))

-- the code's answers, with places and bytes as numbers and lists
abbrev pub seen_answer : Result Command ReadFault → Result CommandSeen ReadFault
seen_answer (Ok c) = Ok (seen_command c)
seen_answer (Err e) = Err e

abbrev pub answer_of : Result (CommandSeen × ℕ) ReadFault → Result CommandSeen ReadFault
answer_of (Ok x) = Ok x.0
answer_of (Err e) = Err e

abbrev pub next_of : Result (CommandSeen × ℕ) ReadFault → ℕ
next_of (Ok x) = x.1
next_of (Err e) = e.next
