-- A command reads alike wherever it stands in a job, and by itself.
use Rattle.std.proofs.Common.{◌≡◌, ℕ, ◌+◌, ◌-◌, ◌<◌, ◌≤◌, min, Bool, true, false, cond, eqb, ltb, List, [], ◌∷◌, ◌++◌, length, get_or, take, drop, Some, Ok, Err, Result, sym, refl, ap, ◌∙◌, subst, ap₂, arith, length-append, take-append-drop, length-take, take_all, get_or-append-add}
use mathlib.Core.Path.{subst⁻¹}
use lib.ListN.{get_or-append}
use lib.Seq.{drop-append_seam, take-append-add, take-append-le}
use Rattle.std.specs.Option.{option_map}
use Rattle.limits.specs.Limits.{longest_job, longest_command}
use Rattle.jobparts.specs.Kinds.{stands}
use Rattle.jobparts.specs.declared.part.ReadRefusal.TheVariants.{OutOfBounds, AtEnd, NoEscape, NoEnding}
use Rattle.jobparts.specs.declared.part.Wrong.{Wrong}
use Rattle.jobgroups.specs.Commands.{CommandSeen}
use Rattle.job.specs.Reading.{before, fault, next_escape, bounds_at, begin_at, ending_at, then_read, placed, body_at, read_at}
use Rattle.job.specs.declared.fault.ReadFault.{ReadFault}
use Rattle.ledger.proofs.Basics.{never, not_none, not_ok, some_inj, ok_inj, ok_of, ok_from}
use Rattle.std.proofs.lemmas.Bool.{lt-ltb, ltb-false, ltb-true}
use Rattle.joblaw.specs.Located.{shift_plain, moved}
use Rattle.joblaw.proofs.Leaves.{order_moved}
use Rattle.joblaw.proofs.Bodies.{body_moves}
use Rattle.joblaw.proofs.Commands.{open_is, before_front as joined_before}

abbrev same : Unit {0} → Unit {0}
same u = u

abbrev pub shift_read : ℕ → CommandSeen × ℕ → CommandSeen × ℕ
shift_read k x = (shift_plain k x.0, k + x.1)

module _ {X Y : Type 0} (sx : X → X) (sy : Y → Y) where
  then_read_lem : (r' r : Result X ReadFault) (f' f : X → Result Y ReadFault) → ok_of r' ≡ option_map sx (ok_of r)
      → ((x : X) → ok_of (f' (sx x)) ≡ option_map sy (ok_of (f x)))
      → ok_of (then_read r' f') ≡ option_map sy (ok_of (then_read r f))
  then_read_lem (Ok y) (Ok x) f' f e h = ap (λ (z : X). ok_of (f' z)) (some_inj e) ∙ h x
  then_read_lem (Ok y) (Err b) f' f e h = not_none (sym e)
  then_read_lem (Err a) (Ok x) f' f e h = not_none e
  then_read_lem (Err a) (Err b) f' f e h = refl

module _ {X : Type 0} {E : Type 0} (sx : X → X) where
  cond_shift : (b' b : Bool) (r' r s' s : Result X E) → b' ≡ b → ok_of r' ≡ option_map sx (ok_of r)
      → ok_of s' ≡ option_map sx (ok_of s) → ok_of (cond b' r' s') ≡ option_map sx (ok_of (cond b r s))
  cond_shift b' b r' r s' s e h k = ap (λ (t : Bool). ok_of (cond t r' s')) e ∙ go b
    where
      go : (b : Bool) → ok_of (cond b r' s') ≡ option_map sx (ok_of (cond b r s))
      go true = h
      go false = k

-- ---- a job behind other bytes
module _ (pre s : List ℕ) where
  at_front : length pre ≡ length pre + 0
  at_front = omega arith

  body_shift : (body : List ℕ)
      → ok_of (body_at (pre ++ body) (length pre)) ≡ option_map (shift_plain (length pre)) (ok_of (body_at body 0))
  body_shift body =
      ap (λ (n : ℕ). ok_of (body_at (pre ++ body) n)) at_front ∙ ap ok_of (body_moves pre body 0) ∙ go (body_at body 0)
    where
      go : (r : Result CommandSeen Wrong)
          → ok_of (moved (shift_plain (length pre)) (length pre) r) ≡ option_map (shift_plain (length pre)) (ok_of r)
      go (Ok x) = refl
      go (Err w) = refl

  begin_shift : ok_of (begin_at (pre ++ s) (length pre)) ≡ option_map same (ok_of (begin_at s 0))
  begin_shift =
      cond_shift same _ _ _ _ _ _ (ap (λ (n : ℕ). ltb n (length (pre ++ s))) at_front ∙ order_moved pre s 0)
      (cond_shift same _ _ _ _ _ _
      (ap (λ (n : ℕ). eqb (get_or (pre ++ s) n 0) 27) at_front
      ∙ ap (λ (b : ℕ). eqb b 27) (get_or-append-add pre s 0 0)) refl refl) refl

  ending_shift : ok_of (ending_at (pre ++ s) (length pre)) ≡ option_map (λ n. length pre + n) (ok_of (ending_at s 0))
  ending_shift =
      let d : drop (length pre) (pre ++ s) ≡ s = drop-append_seam pre s in
      let z : before 10 (take longest_command s) ≡ 0 + before 10 (take longest_command s) = omega arith in
      cond_shift (λ n. length pre + n) _ _ _ _ _ _
      (ap (λ (x : List ℕ). stands (eqb 0) (take longest_command x) (before 10 (take longest_command x) + 1)) d)
      (ap (λ (x : List ℕ). Some (length pre + before 10 (take longest_command x))) d
      ∙ ap (λ (n : ℕ). Some (length pre + n)) z) refl

  placed_shift : (end : ℕ)
      → ok_of (placed (length pre + end + 2) (body_at (take (length pre + end) (pre ++ s)) (length pre)))
      ≡ option_map (shift_read (length pre)) (ok_of (placed (end + 2) (body_at (take end s) 0)))
  placed_shift end =
      ap (λ (x : List ℕ). ok_of (placed (length pre + end + 2) (body_at x (length pre)))) (take-append-add pre s end)
      ∙ go (body_at (pre ++ take end s) (length pre)) (body_at (take end s) 0) (body_shift (take end s))
    where
      go : (r' r : Result CommandSeen Wrong) → ok_of r' ≡ option_map (shift_plain (length pre)) (ok_of r)
          → ok_of (placed (length pre + end + 2) r')
          ≡ option_map (shift_read (length pre)) (ok_of (placed (end + 2) r))
      go (Ok y) (Ok x) e = let z : length pre + end + 2 ≡ length pre + (end + 2) =
          omega arith in ap₂ (λ (c : CommandSeen) (n : ℕ). Some (c, n)) (some_inj e) z
      go (Ok y) (Err b) e = not_none (sym e)
      go (Err a) (Ok x) e = not_none e
      go (Err a) (Err b) e = refl

  pub read_shift : length (pre ++ s) ≤ longest_job
      → ok_of (read_at (pre ++ s) (length pre)) ≡ option_map (shift_read (length pre)) (ok_of (read_at s 0))
  read_shift short =
      let all : length (pre ++ s) ≡ length pre + length s = length-append pre s in
      then_read_lem same (shift_read (length pre)) (bounds_at (pre ++ s) (length pre)) (bounds_at s 0) _ _
      (ap ok_of (open_is (pre ++ s) (length pre) short (omega (arith, all)))
      ∙ sym (ap (λ (r : Result (Unit {0}) ReadFault). option_map same (ok_of r))
      (open_is s 0 (omega (arith, all, short)) (omega arith))))
      (λ _. then_read_lem same (shift_read (length pre)) (begin_at (pre ++ s) (length pre))
      (begin_at s 0) _ _ begin_shift
      (λ _. then_read_lem (λ n. length pre + n) (shift_read (length pre)) (ending_at (pre ++ s) (length pre))
      (ending_at s 0) _ _ ending_shift placed_shift))

-- ---- what a command that was read at a job's front is known by: i is the place of its LF
pub record Known (s : List ℕ) (c : CommandSeen) (i : ℕ) : Type 0 where
  pub short : length s ≤ longest_job
  pub escape : eqb (get_or s 0 0) 27 ≡ true
  pub line_feed : before 10 (take longest_command s) ≡ i
  pub nul : stands (eqb 0) (take longest_command s) (i + 1) ≡ true
  pub body : body_at (take i s) 0 ≡ Ok c

-- a byte that stands there is within
stands_within : (f : ℕ → Bool) (xs : List ℕ) (at : ℕ) → stands f xs at ≡ true → at < length xs
stands_within f xs at h = go (ltb at (length xs)) refl h
  where
    go : (b : Bool) → ltb at (length xs) ≡ b → cond b (f (get_or xs at 0)) false ≡ true → at < length xs
    go true e h = ltb-true at (length xs) e
    go false e h = never h

abbrev feed : List ℕ → ℕ
feed s = before 10 (take longest_command s)

pub read_known : (s : List ℕ) (c : CommandSeen) (n : ℕ) → read_at s 0 ≡ Ok (c, n)
    → Known s c (feed s) × (n ≡ feed s + 2)
read_known s c n e = opened (ltb longest_job (length s)) refl e
  where
    bodied : length s ≤ longest_job → eqb (get_or s 0 0) 27 ≡ true
        → stands (eqb 0) (take longest_command s) (feed s + 1) ≡ true → (r : Result CommandSeen Wrong)
        → body_at (take (0 + feed s) s) 0 ≡ r → placed (0 + feed s + 2) r ≡ Ok (c, n)
        → Known s c (feed s) × (n ≡ feed s + 2)
    bodied a b d (Ok x) q e =
        let z : 0 + feed s ≡ feed s = omega arith in
        let y : 0 + feed s + 2 ≡ feed s + 2 = omega arith in (
          record {
            short = a;
            escape = b;
            line_feed = refl;
            nul = d;
            body = ap (λ (m : ℕ). body_at (take m s) 0) (sym z) ∙ q
                ∙ ap Ok (ap (λ (p : CommandSeen × ℕ). p.0) (ok_inj e));
          },
          sym (ap (λ (p : CommandSeen × ℕ). p.1) (ok_inj e)) ∙ y,
        )
    bodied a b d (Err w) q e = not_ok e

    ended : length s ≤ longest_job → eqb (get_or s 0 0) 27 ≡ true → (b : Bool)
        → stands (eqb 0) (take longest_command s) (feed s + 1) ≡ b
        → then_read (cond b (Ok (0 + feed s)) (Err (fault NoEnding 0 (next_escape s 0))))
        (λ end. placed (end + 2) (body_at (take end s) 0)) ≡ Ok (c, n) → Known s c (feed s) × (n ≡ feed s + 2)
    ended a b true q e = bodied a b q (body_at (take (0 + feed s) s) 0) refl e
    ended a b false q e = not_ok e

    escaped : length s ≤ longest_job → (b : Bool) → eqb (get_or s 0 0) 27 ≡ b
        → then_read (cond b (Ok (tt {0})) (Err (fault NoEscape 0 (next_escape s 0))))
        (λ _. then_read (ending_at s 0) (λ end. placed (end + 2) (body_at (take end s) 0))) ≡ Ok (c, n)
        → Known s c (feed s) × (n ≡ feed s + 2)
    escaped a true q e = ended a q (stands (eqb 0) (take longest_command s) (feed s + 1)) refl e
    escaped a false q e = not_ok e

    begun : length s ≤ longest_job → (b : Bool)
        → then_read (cond b (cond (eqb (get_or s 0 0) 27) (Ok (tt {0})) (Err (fault NoEscape 0 (next_escape s 0))))
        (Err (fault AtEnd 0 0)))
        (λ _. then_read (ending_at s 0) (λ end. placed (end + 2) (body_at (take end s) 0))) ≡ Ok (c, n)
        → Known s c (feed s) × (n ≡ feed s + 2)
    begun a true e = escaped a (eqb (get_or s 0 0) 27) refl e
    begun a false e = not_ok e

    within : length s ≤ longest_job → (b : Bool)
        → then_read (cond b (Err (fault OutOfBounds 0 0)) (Ok (tt {0})))
        (λ _. then_read (begin_at s 0)
        (λ _. then_read (ending_at s 0) (λ end. placed (end + 2) (body_at (take end s) 0)))) ≡ Ok (c, n)
        → Known s c (feed s) × (n ≡ feed s + 2)
    within a true e = not_ok e
    within a false e = begun a (ltb 0 (length s)) e

    opened : (b : Bool) → ltb longest_job (length s) ≡ b
        → then_read (cond b (Err (fault OutOfBounds 0 0))
        (cond (ltb (length s) 0) (Err (fault OutOfBounds 0 0)) (Ok (tt {0}))))
        (λ _. then_read (begin_at s 0)
        (λ _. then_read (ending_at s 0) (λ end. placed (end + 2) (body_at (take end s) 0)))) ≡ Ok (c, n)
        → Known s c (feed s) × (n ≡ feed s + 2)
    opened true q e = not_ok e
    opened false q e = within (ltb-false longest_job (length s) q) (ltb (length s) 0) e

pub read_made : (s : List ℕ) (c : CommandSeen) (i : ℕ) → Known s c i → read_at s 0 ≡ Ok (c, i + 2)
read_made s c i k =
    let some : i + 1 < length (take longest_command s) = stands_within (eqb 0) (take longest_command s) (i + 1) k.nul in
    let long : length (take longest_command s) ≡ min longest_command (length s) = length-take longest_command s in
    let begin : begin_at s 0 ≡ Ok (tt {0}) =
    ap₂ (λ (a b : Bool). cond a (cond b (Ok (tt {0})) (Err (fault NoEscape 0 (next_escape s 0))))
    (Err (fault AtEnd 0 0)))
    (lt-ltb 0 (length s) (omega (arith, some, long))) k.escape in
    let nul : stands (eqb 0) (take longest_command s) (feed s + 1) ≡ true =
    ap (λ (m : ℕ). stands (eqb 0) (take longest_command s) (m + 1)) k.line_feed ∙ k.nul in
    let z : 0 + feed s ≡ i = omega (arith, k.line_feed) in
    let ending : ending_at s 0 ≡ Ok i =
    ap (λ (b : Bool). cond b (Ok (0 + feed s)) (Err (fault NoEnding 0 (next_escape s 0)))) nul ∙ ap Ok z in
    ap (λ (r : Result (Unit {0}) ReadFault). then_read r
    (λ _. then_read (begin_at s 0)
    (λ _. then_read (ending_at s 0) (λ end. placed (end + 2) (body_at (take end s) 0)))))
    (open_is s 0 k.short (omega arith))
    ∙ ap (λ (r : Result (Unit {0}) ReadFault). then_read r
    (λ _. then_read (ending_at s 0) (λ end. placed (end + 2) (body_at (take end s) 0)))) begin
    ∙ ap (λ (r : Result ℕ ReadFault). then_read r (λ end. placed (end + 2) (body_at (take end s) 0))) ending
    ∙ ap (placed (i + 2)) k.body

-- ---- what stands behind a command does not matter
before_front : (b : ℕ) (xs ys : List ℕ) → before b (xs ++ ys) < length xs → before b (xs ++ ys) ≡ before b xs
before_front b [] ys h = absurd (let z : ⊥ = omega (arith, h) in z)
before_front b (x ∷ xs) ys h = go (eqb x b) h (before_front b xs ys)
  where
    go : (t : Bool) → cond t 0 (1 + before b (xs ++ ys)) < length (x ∷ xs)
        → (before b (xs ++ ys) < length xs → before b (xs ++ ys) ≡ before b xs)
        → cond t 0 (1 + before b (xs ++ ys)) ≡ cond t 0 (1 + before b xs)
    go true h again = refl
    go false h again = ap (λ (n : ℕ). 1 + n) (again (omega (arith, h)))

stands_append : (f : ℕ → Bool) (xs ys : List ℕ) (at : ℕ) → at < length xs → stands f (xs ++ ys) at ≡ stands f xs at
stands_append f xs ys at h =
    ap₂ (λ (b : Bool) (x : ℕ). cond b (f x) false)
    (lt-ltb at (length (xs ++ ys)) (omega (arith, h, length-append xs ys)) ∙ sym (lt-ltb at (length xs) h))
    (get_or-append xs ys 0 at h)

-- the front of a command and what stands behind it, within the longest command
window_append : (w behind : List ℕ) → length w ≤ longest_command
    → take longest_command (w ++ behind) ≡ w ++ take (longest_command - length w) behind
window_append w behind h =
    let z : longest_command ≡ length w + (longest_command - length w) = omega (arith, h) in
    ap (λ (n : ℕ). take n (w ++ behind)) z ∙ take-append-add w behind (longest_command - length w)

module _ (w behind : List ℕ) (c : CommandSeen) (i : ℕ) (exact : length w ≡ i + 2) (fits : i + 2 ≤ longest_command) where
  abbrev rest : List ℕ
  rest = take (longest_command - length w) behind

  front : take longest_command w ≡ w
  front = take_all longest_command w (omega (arith, exact, fits))

  both : take longest_command (w ++ behind) ≡ w ++ rest
  both = window_append w behind (omega (arith, exact, fits))

  known_longer : Known w c i → length (w ++ behind) ≤ longest_job → Known (w ++ behind) c i
  known_longer k short =
      let feed : before 10 w ≡ i = subst (λ (x : List ℕ). before 10 x ≡ i) front k.line_feed in
      let nul : stands (eqb 0) w (i + 1) ≡ true = subst (λ (x : List ℕ). stands (eqb 0) x (i + 1) ≡ true) front k.nul in
      record {
        short = short;
        escape = ap (λ (b : ℕ). eqb b 27) (get_or-append w behind 0 0 (omega (arith, exact))) ∙ k.escape;
        line_feed = ap (before 10) both ∙ joined_before 10 w rest (omega (arith, exact, feed)) ∙ feed;
        nul = ap (λ (x : List ℕ). stands (eqb 0) x (i + 1)) both
            ∙ stands_append (eqb 0) w rest (i + 1) (omega (arith, exact)) ∙ nul;
        body = ap (λ (x : List ℕ). body_at x 0) (take-append-le i w behind (omega (arith, exact))) ∙ k.body;
      }

  known_shorter : Known (w ++ behind) c i → Known w c i
  known_shorter k =
      let feed : before 10 (w ++ rest) ≡ i = subst (λ (x : List ℕ). before 10 x ≡ i) both k.line_feed in
      let nul : stands (eqb 0) (w ++ rest) (i + 1) ≡ true =
      subst (λ (x : List ℕ). stands (eqb 0) x (i + 1) ≡ true) both k.nul in
      record {
        short = omega (arith, k.short, length-append w behind);
        escape = ap (λ (b : ℕ). eqb b 27) (sym (get_or-append w behind 0 0 (omega (arith, exact)))) ∙ k.escape;
        line_feed = ap (before 10) front ∙ sym (before_front 10 w rest (omega (arith, exact, feed))) ∙ feed;
        nul = ap (λ (x : List ℕ). stands (eqb 0) x (i + 1)) front
            ∙ sym (stands_append (eqb 0) w rest (i + 1) (omega (arith, exact))) ∙ nul;
        body = ap (λ (x : List ℕ). body_at x 0) (sym (take-append-le i w behind (omega (arith, exact)))) ∙ k.body;
      }

-- a command and its LF lie within the longest command, and within the job
known_fits : (s : List ℕ) (c : CommandSeen) (i : ℕ) → Known s c i → (i + 2 ≤ longest_command) × (i + 2 ≤ length s)
known_fits s c i k =
    let some : i + 1 < length (take longest_command s) = stands_within (eqb 0) (take longest_command s) (i + 1) k.nul in
    let long : length (take longest_command s) ≡ min longest_command (length s) = length-take longest_command s in
    (omega (arith, some, long), omega (arith, some, long))

-- ---- the two facts
pub located : (pre w behind : List ℕ) (c : CommandSeen) → read_at w 0 ≡ Ok (c, length w)
    → length (pre ++ (w ++ behind)) ≤ longest_job
    → read_at (pre ++ (w ++ behind)) (length pre) ≡ Ok (shift_plain (length pre) c, length pre + length w)
located pre w behind c e short =
    let k = read_known w c (length w) e in
    let fits = known_fits w c (feed w) k.0 in
    let all : length (pre ++ (w ++ behind)) ≡ length pre + length (w ++ behind) = length-append pre (w ++ behind) in
    let longer : read_at (w ++ behind) 0 ≡ Ok (c, feed w + 2) =
    read_made (w ++ behind) c (feed w) (known_longer w behind c (feed w) k.1 fits.0 k.0 (omega (arith, all, short))) in
    ok_from (read_at (pre ++ (w ++ behind)) (length pre)) (shift_plain (length pre) c, length pre + length w)
    (read_shift pre (w ++ behind) short
    ∙ ap (λ (r : Result (CommandSeen × ℕ) ReadFault). option_map (shift_read (length pre)) (ok_of r)) longer
    ∙ ap (λ (n : ℕ). Some (shift_plain (length pre) c, length pre + n)) (sym k.1))

-- the bytes of a command by themselves
pub record Alone (job : List ℕ) (at : ℕ) (c : CommandSeen) (next : ℕ) (d : CommandSeen) : Type 0 where
  pub reads : read_at (take (next - at) (drop at job)) 0 ≡ Ok (d, next - at)
  pub long : length (take (next - at) (drop at job)) ≡ next - at
  pub alike : c ≡ shift_plain at d
  pub some : at < next

-- a command is read only in a job that is not too long, at a place not past its end
open_known : (job : List ℕ) (at : ℕ) {X : Type 0} (f : Unit {0} → Result X ReadFault) (x : X)
    → then_read (bounds_at job at) f ≡ Ok x → (length job ≤ longest_job) × (at ≤ length job)
open_known job at {X} f x e = go (ltb longest_job (length job)) (ltb (length job) at) refl refl e
  where
    go : (a b : Bool) → ltb longest_job (length job) ≡ a → ltb (length job) at ≡ b
        → then_read (cond a (Err (fault OutOfBounds at at)) (cond b (Err (fault OutOfBounds at at)) (Ok (tt {0})))) f
        ≡ Ok x → (length job ≤ longest_job) × (at ≤ length job)
    go true b p q e = not_ok e
    go false true p q e = not_ok e
    go false false p q e = (ltb-false longest_job (length job) p, ltb-false (length job) at q)

pub cut : (job : List ℕ) (at : ℕ) (c : CommandSeen) (next : ℕ) → read_at job at ≡ Ok (c, next)
    → (d : CommandSeen) × Alone job at c next d
cut job at c next e = go (read_at (drop at job) 0) refl
    (sym (ap ok_of there) ∙ read_shift (take at job) (drop at job) (omega (arith, ap length whole, bounds.0)))
  where
    bounds : (length job ≤ longest_job) × (at ≤ length job)
    bounds = open_known job at _ (c, next) e

    whole : take at job ++ drop at job ≡ job
    whole = take-append-drop at job

    front : length (take at job) ≡ at
    front = omega (arith, length-take at job, bounds.1)

    there : read_at (take at job ++ drop at job) (length (take at job)) ≡ Ok (c, next)
    there = ap₂ (λ (j : List ℕ) (n : ℕ). read_at j n) whole front ∙ e

    alone : (d : CommandSeen) (m : ℕ) → read_at (drop at job) 0 ≡ Ok (d, m) → c ≡ shift_plain at d → next ≡ at + m
        → Alone job at c next d
    alone d m q alike long =
        let k = read_known (drop at job) d m q in
        let i : ℕ = feed (drop at job) in
        let fits = known_fits (drop at job) d i k.0 in
        let n : next - at ≡ m = omega (arith, long) in
        let w : List ℕ = take (next - at) (drop at job) in
        let exact : length w ≡ i + 2 = omega (arith, length-take (next - at) (drop at job), n, k.1, fits.1) in
        let parted : w ++ drop (next - at) (drop at job) ≡ drop at job = take-append-drop (next - at) (drop at job) in
        let shorter : Known w d i =
        known_shorter w (drop (next - at) (drop at job)) d i exact fits.0
        (subst⁻¹ (λ (x : List ℕ). Known x d i) parted k.0) in
        let same_end : i + 2 ≡ next - at = omega (arith, n, k.1) in
        record {
          reads = read_made w d i shorter ∙ ap (λ (x : ℕ). Ok (d, x)) same_end;
          long = exact ∙ same_end;
          alike = alike;
          some = omega (arith, long, k.1);
        }

    go : (r : Result (CommandSeen × ℕ) ReadFault) → read_at (drop at job) 0 ≡ r
        → Some (c, next) ≡ option_map (shift_read (length (take at job))) (ok_of r)
        → (d : CommandSeen) × Alone job at c next d
    go (Ok x) q h =
        let p : (c, next) ≡ shift_read (length (take at job)) x = some_inj h in (
          x.0,
          alone x.0 x.1 q
              (ap (λ (y : CommandSeen × ℕ). y.0) p ∙ ap (λ (n : ℕ). shift_plain n x.0) front)
              (ap (λ (y : CommandSeen × ℕ). y.1) p ∙ ap (λ (n : ℕ). n + x.1) front),
        )
    go (Err x) q h = not_none (sym h)
