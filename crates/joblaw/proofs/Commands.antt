-- A whole command in a job, and alone.
use Rattle.std.proofs.Common.{◌≡◌, ℕ, zero, suc, ◌+◌, ◌-◌, ◌<◌, ◌≤◌, Bool, true, false, cond, eqb, List, [], ◌∷◌, ◌++◌, length, get_or, take, Ok, Err, Result, sym, refl, ap, ◌∙◌, add-zero, arith}
use Rattle.std.proofs.Math.Seq.{drop-append_seam, take-append-add}
use Rattle.std.proofs.lemmas.List.{append-nil, length-append, take-append-le, get_or-append-add, get_or_append_left}
use Rattle.std.proofs.lemmas.Bool.{le-ltb, lt-ltb, eq-eqb, cond-true, cond-false}
use Rattle.limits.specs.Limits.{longest_job, longest_command}
use Rattle.jobparts.specs.Kinds.{stands}
use Rattle.jobparts.specs.declared.part.ReadRefusal.TheVariants.{NoEnding}
use Rattle.jobparts.specs.declared.part.Wrong.{Wrong}
use Rattle.jobgroups.specs.Commands.{CommandSeen}
use Rattle.job.specs.Reading.{before, fault, next_escape, bounds_at, begin_at, window, ending_at, then_read, placed, body_at, read_at}
use Rattle.joblaw.specs.Located.{shift_plain, moved, shifted, Whole, Anywhere}
use Rattle.joblaw.proofs.Bodies.{body_moves}

pub open_is : (job : List ℕ) (at : ℕ) → length job ≤ longest_job → at ≤ length job → bounds_at job at ≡ Ok tt
open_is job at short within =
    cond-false _ _ _ (le-ltb longest_job (length job) short) ∙ cond-false _ _ _ (le-ltb (length job) at within)

begin_is : (job : List ℕ) (at : ℕ) → at < length job → get_or job at 0 ≡ 27 → begin_at job at ≡ Ok tt
begin_is job at lt esc = cond-true _ _ _ (lt-ltb at (length job) lt) ∙ cond-true _ _ _ (eq-eqb (get_or job at 0) 27 esc)

front_step : (t : Bool) (b : ℕ) (xs ys : List ℕ) → cond t 0 (1 + before b xs) < suc (length xs) →
    (before b xs < length xs → before b (xs ++ ys) ≡ before b xs)
    → cond t 0 (1 + before b (xs ++ ys)) ≡ cond t 0 (1 + before b xs)
front_step true b xs ys lt h = refl
front_step false b xs ys lt h = ap (λ m. 1 + m) (h (omega arith))

pub before_front : (b : ℕ) (xs ys : List ℕ) → before b xs < length xs → before b (xs ++ ys) ≡ before b xs
before_front b [] ys lt = absurd (omega arith)
before_front b (x ∷ xs) ys lt = front_step (eqb x b) b xs ys lt (before_front b xs ys)

stands_is : (f : ℕ → Bool) (body : List ℕ) (at : ℕ) → at < length body → f (get_or body at 0) ≡ true
    → stands f body at ≡ true
stands_is f body at lt e = cond-true _ _ _ (lt-ltb at (length body) lt) ∙ e

pub window_is : (pre whole post : List ℕ) → length whole ≤ longest_command
    → window (pre ++ (whole ++ post)) (length pre) ≡ whole ++ take (longest_command - length whole) post
window_is pre whole post short =
    let whole_first : longest_command ≡ length whole + (longest_command - length whole) = omega arith in
    ap (take longest_command) (drop-append_seam pre (whole ++ post))
    ∙ ap (λ n. take n (whole ++ post)) whole_first
    ∙ take-append-add whole post (longest_command - length whole)

-- the LF's place, for a window that begins with a whole command
pub ending_in : (job : List ℕ) (at : ℕ) (whole rest : List ℕ) → Whole whole → window job at ≡ whole ++ rest
    → ending_at job at ≡ Ok (at + before 10 whole)
ending_in job at whole rest w is =
    let n = before 10 whole in
    let lt : before 10 whole < length whole = omega (arith, w.ends) in
    let line = before_front 10 whole rest lt in
    let long : n + 1 < length (whole ++ rest) = omega (arith, w.ends, length-append whole rest) in
    let within : n + 1 < length whole = omega (arith, w.ends) in
    let nul : eqb 0 (get_or (whole ++ rest) (n + 1) 0) ≡ true =
    eq-eqb 0 (get_or (whole ++ rest) (n + 1) 0)
    (sym (get_or_append_left whole rest 0 (n + 1) within ∙ w.closed)) in
    ap (λ v. cond (stands (eqb 0) v (before 10 v + 1)) (Ok (at + before 10 v))
    (Err (fault NoEnding at (next_escape job at)))) is
    ∙ ap (λ m. cond (stands (eqb 0) (whole ++ rest) (m + 1)) (Ok (at + m))
    (Err (fault NoEnding at (next_escape job at)))) line
    ∙ cond-true _ _ _ (stands_is (eqb 0) (whole ++ rest) (n + 1) long nul)

pub read_in : (pre whole post : List ℕ) → Whole whole → length (pre ++ (whole ++ post)) ≤ longest_job →
    read_at (pre ++ (whole ++ post)) (length pre)
    ≡ placed (length pre + before 10 whole + 2) (body_at (pre ++ take (before 10 whole) whole) (length pre))
read_in pre whole post w short =
    let job = pre ++ (whole ++ post) in
    let P = length pre in
    let n = before 10 whole in
    let some : 0 < length whole = omega (arith, w.ends) in
    let parts = length-append pre (whole ++ post) in
    let inner = length-append whole post in
    let lt : P < length (pre ++ (whole ++ post)) = omega arith in
    let esc : get_or (pre ++ (whole ++ post)) (length pre) 0 ≡ 27 =
    ap (λ i. get_or (pre ++ (whole ++ post)) i 0) (sym (add-zero (length pre)))
    ∙ get_or-append-add pre (whole ++ post) 0 0 ∙ get_or_append_left whole post 0 0 some ∙ w.escape in
    let le : n ≤ length whole = omega (arith, w.ends) in
    ap (λ r. then_read r (λ _.
    then_read (begin_at job P)
    (λ _. then_read (ending_at job P) (λ end. placed (end + 2) (body_at (take end job) P)))))
    (open_is job P short (omega arith))
    ∙ ap (λ r. then_read r (λ _. then_read (ending_at job P) (λ end. placed (end + 2) (body_at (take end job) P))))
    (begin_is job P lt esc)
    ∙ ap (λ r. then_read r (λ end. placed (end + 2) (body_at (take end job) P)))
    (ending_in job P whole (take (longest_command - length whole) post) w (window_is pre whole post w.short))
    ∙ ap (λ bs. placed (P + n + 2) (body_at bs P))
    (take-append-add pre (whole ++ post) n ∙ ap (λ bs. pre ++ bs) (take-append-le n whole post le))

placed_moved : (s n : ℕ) (r : Result CommandSeen Wrong)
    → placed (s + n + 2) (moved (shift_plain s) s r) ≡ shifted s (placed (zero + n + 2) r)
placed_moved s n (Ok p) = ap (λ m. Ok (shift_plain s p, m)) (let e : s + n + 2 ≡ s + (zero + n + 2) = omega arith in e)
placed_moved s n (Err w) =
    ap (λ m. Err (fault w.refusal (s + w.place) m)) (let e : s + n + 2 ≡ s + (zero + n + 2) = omega arith in e)

pub anywhere : Anywhere
anywhere pre whole post w short =
    let n = before 10 whole in
    let long : length (whole ++ []) ≡ length whole = ap length (append-nil whole) in
    let alone : read_at whole 0 ≡ placed (zero + n + 2) (body_at (take n whole) 0) =
    ap (λ job. read_at job 0) (sym (append-nil whole)) ∙ read_in [] whole [] w (omega (arith, w.short)) in
    read_in pre whole post w short
    ∙ ap (λ at. placed (length pre + n + 2) (body_at (pre ++ take n whole) at)) (sym (add-zero (length pre)))
    ∙ ap (placed (length pre + n + 2)) (body_moves pre (take n whole) 0)
    ∙ placed_moved (length pre) n (body_at (take n whole) 0)
    ∙ ap (shifted (length pre)) (sym alone)
