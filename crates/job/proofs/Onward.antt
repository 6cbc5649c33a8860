-- Reading goes on behind the place, unless the job has ended there or was not open.
use Rattle.std.proofs.Common.{◌≡◌, ℕ, ◌+◌, ◌<◌, Bool, true, false, cond, eqb, ltb, List, length, get_or, take, Ok, Err, Result, refl, sym, ap, ◌∙◌, arith}
use Rattle.std.proofs.lemmas.Bool.{ltb-true, false≢true}
use Rattle.jobparts.specs.Kinds.{stands}
use Rattle.jobparts.specs.declared.part.ReadRefusal.{ReadRefusal}
use Rattle.jobparts.specs.declared.part.ReadRefusal.TheVariants.{OutOfBounds, AtEnd, NoEscape, NoEnding, UnknownLetters, WrongByte, NotAdmitted}
use Rattle.jobparts.specs.declared.part.Wrong.{Wrong}
use Rattle.jobgroups.specs.Commands.{CommandSeen}
use Rattle.job.specs.Reading.{before, fault, next_escape, window, bounds_at, begin_at, ending_at, then_read, placed, body_at, end_at, read_at, answer_of, next_of}
use Rattle.job.specs.declared.fault.ReadFault.{ReadFault}

abbrev ends : ReadRefusal → Bool
ends OutOfBounds = true
ends AtEnd = true
ends NoEscape = false
ends NoEnding = false
ends UnknownLetters = false
ends WrongByte = false
ends NotAdmitted = false

pub others_go_on : (r : ReadRefusal) → (r ≡ OutOfBounds → ⊥) → (r ≡ AtEnd → ⊥) → false ≡ ends r
others_go_on OutOfBounds a b = absurd (a refl)
others_go_on AtEnd a b = absurd (b refl)
others_go_on NoEscape a b = refl
others_go_on NoEnding a b = refl
others_go_on UnknownLetters a b = refl
others_go_on WrongByte a b = refl
others_go_on NotAdmitted a b = refl

abbrev pub ended : Result CommandSeen ReadFault → Bool
ended (Ok p) = false
ended (Err e) = ends e.refusal

next_placed : (next : ℕ) (r : Result CommandSeen Wrong) → next_of (placed next r) ≡ next
next_placed next (Ok p) = refl
next_placed next (Err w) = refl

-- what is read behind three tests is read behind the three together
all_tested : {X Y Z : Type 0} (a : Result X ReadFault) (b : Result Y ReadFault) (c : Result ℕ ReadFault)
    (f : ℕ → Result Z ReadFault) → then_read a (λ _. then_read b (λ _. then_read c f))
    ≡ then_read (then_read a (λ _. then_read b (λ _. c))) f
all_tested (Ok x) (Ok y) (Ok n) f = refl
all_tested (Ok x) (Ok y) (Err e) f = refl
all_tested (Ok x) (Err e) c f = refl
all_tested (Err e) b c f = refl

-- behind the command's end reading goes on
pub next_is : (job : List ℕ) (at end : ℕ) → end_at job at ≡ Ok end → end + 2 ≡ next_of (read_at job at)
next_is job at end e =
    let body : ℕ → Result (CommandSeen × ℕ) ReadFault = λ n. placed (n + 2) (body_at (take n job) at) in
    let told : read_at job at ≡ body end =
    all_tested (bounds_at job at) (begin_at job at) (ending_at job at) body ∙ ap (λ r. then_read r body) e in
    sym (ap next_of told ∙ next_placed (end + 2) (body_at (take end job) at))

-- read_at, with its tests as variables
abbrev opened : Bool → Bool → ℕ → Result (Unit {0}) ReadFault
opened long past at = cond long (Err (fault OutOfBounds at at)) (cond past (Err (fault OutOfBounds at at)) (Ok tt))

abbrev begun : Bool → Bool → ℕ → ℕ → Result (Unit {0}) ReadFault
begun within escape at next = cond within (cond escape (Ok tt) (Err (fault NoEscape at next))) (Err (fault AtEnd at at))

abbrev closes : Bool → ℕ → ℕ → ℕ → Result ℕ ReadFault
closes closed at next line = cond closed (Ok (at + line)) (Err (fault NoEnding at next))

abbrev steps : Bool → Bool → Bool → Bool → Bool → ℕ → ℕ → ℕ → (ℕ → Result CommandSeen Wrong)
    → Result (CommandSeen × ℕ) ReadFault
steps long past within escape closed at next line body =
    then_read (opened long past at)
    (λ _. then_read (begun within escape at next)
    (λ _. then_read (closes closed at next line) (λ end. placed (end + 2) (body end))))

goes_on : (long past within escape closed : Bool) (at next line : ℕ) (body : ℕ → Result CommandSeen Wrong) → at < next
    → false ≡ ended (answer_of (steps long past within escape closed at next line body)) →
    (within ≡ true) × (at < next_of (steps long past within escape closed at next line body))
goes_on true past within escape closed at next line body lt e = absurd (false≢true e)
goes_on false true within escape closed at next line body lt e = absurd (false≢true e)
goes_on false false false escape closed at next line body lt e = absurd (false≢true e)
goes_on false false true false closed at next line body lt e = (refl, lt)
goes_on false false true true false at next line body lt e = (refl, lt)
goes_on false false true true true at next line body lt e =
    let is = next_placed (at + line + 2) (body (at + line)) in
    (refl, omega arith)

pub onward : (job : List ℕ) (at : ℕ) → false ≡ ended (answer_of (read_at job at))
    → (at < length job) × (at < next_of (read_at job at))
onward job at e =
    let w = window job at in
    let o = goes_on _ (ltb (length job) at) (ltb at (length job)) (eqb (get_or job at 0) 27)
    (stands (eqb 0) w (before 10 w + 1)) at (next_escape job at) (before 10 w) (λ end. body_at (take end job) at)
    (omega arith) e in
    (ltb-true at (length job) o.0, o.1)
