-- The law of reading at a place of a job: the frame, and the body in it.
use Rattle.std.proofs.Common.{◌≡◌, ℕ, suc, ◌+◌, ◌-◌, ◌<◌, ◌≤◌, Bool, true, false, cond, eqb, ltb, List, [], ◌∷◌, ◌++◌, length, get_or, take, drop, Ok, Err, Result, sym, refl, ap, ◌∙◌, arith, subst}
use Rattle.std.proofs.lemmas.Bool.{ltb-true, ltb-false, eqb-true, eqb-false, ne_eqb, eq-eqb, cond-true, cond-false}
use Rattle.std.proofs.lemmas.List.{append_assoc, length-append, length-take, length-take-le, take-append-drop, take_at, drop_more, get_or-append-add}
use mathlib.Core.Logic.{inl, inr}
use Rattle.limits.specs.Limits.{longest_job, longest_command}
use Rattle.jobparts.specs.Kinds.{stands}
use Rattle.jobparts.specs.declared.part.ReadRefusal.{ReadRefusal}
use Rattle.jobparts.specs.declared.part.ReadRefusal.TheVariants.{OutOfBounds, AtEnd, NoEscape, NoEnding, UnknownLetters, WrongByte, NotAdmitted}
use Rattle.jobparts.specs.declared.part.Wrong.{Wrong}
use Rattle.jobgroups.specs.Commands.{CommandSeen}
use Rattle.job.specs.Reading.{before, next_escape, fault, window, ending_at, then_read, placed, body_at, read_at, answer_of, next_of}
use Rattle.job.specs.declared.fault.ReadFault.{ReadFault}
use Rattle.joblaw.specs.Located.{Whole}
use Rattle.joblaw.proofs.Commands.{window_is, ending_in, read_in}
use Rattle.grammarlaw.specs.Commands.{WritesCommand, BodyRefuses, BodySays}
use Rattle.grammarlaw.specs.Frames.{FreeOf, Framed, ReadRefuses, ReadSays, Reading}
use Rattle.grammarlaw.proofs.Commanding.{body_laws}
use Rattle.grammarlaw.proofs.Rightness.{command_free}

itself : (b : ℕ) → eqb b b ≡ true
itself b = eq-eqb b b refl

before_free : (b : ℕ) (bs t : List ℕ) → FreeOf b bs → before b (bs ++ (b ∷ t)) ≡ length bs
before_free b [] t free = cond-true (eqb b b) 0 (1 + before b t) (itself b)
before_free b (c ∷ bs) t free =
    cond-false (eqb c b) 0 (1 + before b (bs ++ (b ∷ t))) (ne_eqb c b free.0)
    ∙ (let e = before_free b bs t free.1 in
    let s : 1 + before b (bs ++ (b ∷ t)) ≡ suc (length bs) = omega arith in s)

abbrev command : List ℕ → List ℕ
command body = 27 ∷ (body ++ (10 ∷ 0 ∷ []))

line_at : (body : List ℕ) → FreeOf 10 body → before 10 (command body) ≡ suc (length body)
line_at body free = let e = before_free 10 body (0 ∷ []) free in
    let s : 1 + before 10 (body ++ (10 ∷ 0 ∷ [])) ≡ suc (length body) = omega arith in s

long_is : (body : List ℕ) → length (command body) ≡ length body + 3
long_is body = omega (arith, length-append body (10 ∷ 0 ∷ []))

whole_is : (body : List ℕ) → FreeOf 10 body → length body + 3 ≤ longest_command → Whole (command body)
whole_is body free short =
    record {
      escape = refl;
      short = omega (arith, long_is body);
      ends = omega (arith, long_is body, line_at body free);
      closed = ap (λ n. get_or (27 ∷ (body ++ (10 ∷ 0 ∷ []))) n 0)
          (let e : before 10 (command body) + 1 ≡ suc (length body + 1) = omega (arith, line_at body free) in
          e) ∙ get_or-append-add body (10 ∷ 0 ∷ []) 1 0;
    }

job_is : (pre body after : List ℕ) → pre ++ (27 ∷ (body ++ (10 ∷ 0 ∷ after))) ≡ pre ++ (command body ++ after)
job_is pre body after = ap (λ x. pre ++ (27 ∷ x)) (sym (append_assoc body (10 ∷ 0 ∷ []) after))

body_taken : (body : List ℕ) → FreeOf 10 body → take (before 10 (command body)) (command body) ≡ 27 ∷ body
body_taken body free = ap (λ n. take n (command body)) (line_at body free)
    ∙ ap (λ (x : List ℕ). 27 ∷ x) (take_at body (10 ∷ 0 ∷ []) (length body) refl)

framed_by : (pre body after : List ℕ) → FreeOf 10 body → length body + 3 ≤ longest_command →
    length (pre ++ (27 ∷ (body ++ (10 ∷ 0 ∷ after)))) ≤ longest_job →
    read_at (pre ++ (27 ∷ (body ++ (10 ∷ 0 ∷ after)))) (length pre) ≡ placed (length pre + length body + 3)
    (body_at (pre ++ (27 ∷ body)) (length pre))
framed_by pre body after free short fits =
    ap (λ job. read_at job (length pre)) (job_is pre body after)
    ∙ read_in pre (command body) after (whole_is body free short)
    (subst (λ (job : List ℕ). length job ≤ longest_job) (job_is pre body after) fits)
    ∙ ap (λ bs. placed (length pre + before 10 (command body) + 2) (body_at (pre ++ bs) (length pre)))
    (body_taken body free)
    ∙ ap (λ n. placed n (body_at (pre ++ (27 ∷ body)) (length pre)))
    (let e : length pre + before 10 (command body) + 2 ≡ length pre + length body + 3 =
    omega (arith, line_at body free) in e)

-- reading in a frame
read_framed : (job : List ℕ) (at : ℕ) (body : List ℕ) → length job ≤ longest_job → (f : Framed job at body) →
    read_at job at ≡ placed (at + length body + 3) (body_at (f.before ++ (27 ∷ body)) (length f.before))
read_framed job at body fits f =
    ap (λ job. read_at job at) f.whole ∙ ap (read_at (f.before ++ (27 ∷ (body ++ (10 ∷ 0 ∷ f.after))))) f.place
    ∙ framed_by f.before body f.after f.free f.short (subst (λ (job : List ℕ). length job ≤ longest_job) f.whole fits)
    ∙ ap (λ n. placed (n + length body + 3) (body_at (f.before ++ (27 ∷ body)) (length f.before))) (sym f.place)

ending_framed : (job : List ℕ) (at : ℕ) (body : List ℕ) (f : Framed job at body) →
    ending_at job at ≡ Ok (at + before 10 (command body))
ending_framed job at body f =
    let whole = f.whole ∙ job_is f.before body f.after in
    ending_in job at (command body) (take (longest_command - length (command body)) f.after)
    (whole_is body f.free f.short)
    (ap (λ bs. window bs at) whole ∙ ap (window (f.before ++ (command body ++ f.after))) f.place
    ∙ window_is f.before (command body) f.after (omega (arith, long_is body, f.short)))

-- the frame that the tests of reading find
record Cut (b : ℕ) (bs : List ℕ) : Type 0 where
  front : List ℕ
  tail : List ℕ
  whole : bs ≡ front ++ (b ∷ tail)
  free : FreeOf b front
  count : before b bs ≡ length front

cut_step : (b c : ℕ) (bs : List ℕ) (t : Bool) → eqb c b ≡ t → cond t 0 (1 + before b bs) < suc (length bs) →
    (before b bs < length bs → Cut b bs) → Cut b (c ∷ bs)
cut_step b c bs true e lt h =
    record {
      front = [];
      tail = bs;
      whole = ap (λ z. z ∷ bs) (eqb-true c b e);
      free = tt;
      count = cond-true _ 0 (1 + before b bs) e;
    }
cut_step b c bs false e lt h =
    let r = h (omega arith) in
    record {
      front = c ∷ r.front;
      tail = r.tail;
      whole = ap (λ (x : List ℕ). c ∷ x) r.whole;
      free = (eqb-false c b e, r.free);
      count = cond-false _ 0 (1 + before b bs) e
          ∙ (let s : 1 + before b bs ≡ suc (length r.front) = omega (arith, r.count) in s);
    }

cut : (b : ℕ) (bs : List ℕ) → before b bs < length bs → Cut b bs
cut b [] lt = absurd (omega arith)
cut b (c ∷ bs) lt = cut_step b c bs (eqb c b) refl lt (cut b bs)

stands_facts : (t : Bool) (i : ℕ) (bs : List ℕ) → ltb i (length bs) ≡ t →
    cond t (eqb 0 (get_or bs i 0)) false ≡ true → (i < length bs) × (get_or bs i 0 ≡ 0)
stands_facts true i bs lt e = (ltb-true i (length bs) lt, sym (eqb-true 0 (get_or bs i 0) e))
stands_facts false i bs lt e = absurd (cc)

-- the byte behind the LF
nul_behind : (front tail : List ℕ) → length front + 1 < length (front ++ (10 ∷ tail)) →
    get_or (front ++ (10 ∷ tail)) (length front + 1) 0 ≡ 0 → (more : List ℕ) × (tail ≡ 0 ∷ more)
nul_behind front [] lt e = absurd (omega (arith, length-append front (10 ∷ [])))
nul_behind front (c ∷ tail) lt e = (tail, ap (λ z. z ∷ tail) (sym (get_or-append-add front (10 ∷ c ∷ tail) 1 0) ∙ e))

found_in : (job : List ℕ) (at : ℕ) (rest : List ℕ) → at < length job → drop at job ≡ 27 ∷ rest →
    (before 10 (take 254 rest) + 1 < length (take 254 rest)) ×
    (get_or (take 254 rest) (before 10 (take 254 rest) + 1) 0 ≡ 0) → (body : List ℕ) × Framed job at body
found_in job at rest lt is nul =
    let w = take 254 rest in
    let c = cut 10 (take 254 rest) (omega (arith, nul.0)) in
    let inside : length c.front + 1 < length (c.front ++ (10 ∷ c.tail)) =
    omega (arith, nul.0, c.count, ap length c.whole) in
    let zero_byte : get_or (c.front ++ (10 ∷ c.tail)) (length c.front + 1) 0 ≡ 0 =
    ap (λ bs. get_or bs (length c.front + 1) 0) (sym c.whole)
    ∙ ap (λ n. get_or (take 254 rest) (n + 1) 0) (sym c.count) ∙ nul.1 in
    let more = nul_behind c.front c.tail inside zero_byte in
    let behind : rest ≡ c.front ++ (10 ∷ 0 ∷ (more.0 ++ drop 254 rest)) =
    sym (take-append-drop 254 rest)
    ∙ ap (λ x. x ++ drop 254 rest) (c.whole ∙ ap (λ x. c.front ++ (10 ∷ x)) more.1)
    ∙ append_assoc c.front (10 ∷ 0 ∷ more.0) (drop 254 rest) in (
      c.front,
      record {
        before = take at job;
        after = more.0 ++ drop 254 rest;
        whole = sym (take-append-drop at job)
            ∙ ap (λ (x : List ℕ). take at job ++ x) (is ∙ ap (λ (x : List ℕ). 27 ∷ x) behind);
        place = sym (length-take-le at job (omega arith));
        free = c.free;
        short = omega (arith, length-take 254 rest, nul.0, c.count);
      },
    )

found_framed : (job : List ℕ) (at : ℕ) → at < length job → get_or job at 0 ≡ 27 →
    stands (eqb 0) (window job at) (before 10 (window job at) + 1) ≡ true → (body : List ℕ) × Framed job at body
found_framed job at lt esc closed =
    let rest = drop (at + 1) job in
    let is : drop at job ≡ 27 ∷ drop (at + 1) job = drop_more job at 0 lt ∙ ap (λ z. z ∷ drop (at + 1) job) esc in
    let view : window job at ≡ 27 ∷ take 254 (drop (at + 1) job) = ap (take longest_command) is in
    let n = before 10 (take 254 (drop (at + 1) job)) in
    let facts = stands_facts (ltb (1 + n + 1) (length (27 ∷ take 254 (drop (at + 1) job)))) (1 + n + 1)
    (27 ∷ take 254 (drop (at + 1) job)) refl (ap (λ v. stands (eqb 0) v (before 10 v + 1)) (sym view) ∙ closed) in
    let place : 1 + n + 1 ≡ suc (n + 1) = omega arith in
    found_in job at rest lt is
    (omega (arith, facts.0), sym (ap (λ i. get_or (27 ∷ take 254 (drop (at + 1) job)) i 0) place) ∙ facts.1)

-- reading, with its tests as variables
abbrev opened : Bool → Bool → ℕ → Result (Unit {0}) ReadFault
opened long past at = cond long (Err (fault OutOfBounds at at)) (cond past (Err (fault OutOfBounds at at)) (Ok tt))

abbrev begun : Bool → Bool → List ℕ → ℕ → Result (Unit {0}) ReadFault
begun within escape job at = cond within (cond escape (Ok tt) (Err (fault NoEscape at (next_escape job at))))
    (Err (fault AtEnd at at))

abbrev closes : Bool → List ℕ → ℕ → Result ℕ ReadFault
closes closed job at =
    cond closed (Ok (at + before 10 (window job at))) (Err (fault NoEnding at (next_escape job at)))

abbrev tests : Bool → Bool → Bool → Bool → Bool → List ℕ → ℕ → Result (CommandSeen × ℕ) ReadFault
tests long past within escape closed job at =
    then_read (opened long past at) (λ _.
    then_read (begun within escape job at)
    (λ _. then_read (closes closed job at) (λ end. placed (end + 2) (body_at (take end job) at))))

abbrev is_long : List ℕ → Bool
is_long job = ltb longest_job (length job)

abbrev is_past : List ℕ → ℕ → Bool
is_past job at = ltb (length job) at

abbrev is_within : List ℕ → ℕ → Bool
is_within job at = ltb at (length job)

abbrev is_escape : List ℕ → ℕ → Bool
is_escape job at = eqb (get_or job at 0) 27

abbrev is_closed : List ℕ → ℕ → Bool
is_closed job at = stands (eqb 0) (window job at) (before 10 (window job at) + 1)

abbrev Says : List ℕ → ℕ → Result (CommandSeen × ℕ) ReadFault → Type 0
Says job at r = ReadSays job at (next_of r) (answer_of r)

body_refuses : (job : List ℕ) (at : ℕ) (body : List ℕ) → Framed job at body → (r : ReadRefusal) (place : ℕ) →
    BodyRefuses body at r place → ReadRefuses job at r place (at + length body + 3)
body_refuses job at body f OutOfBounds place h = absurd h
body_refuses job at body f AtEnd place h = absurd h
body_refuses job at body f NoEscape place h = absurd h
body_refuses job at body f NoEnding place h = absurd h
body_refuses job at body f UnknownLetters place h = record { body = body; frame = f; behind = refl; here = h }
body_refuses job at body f WrongByte place h = record { body = body; frame = f; behind = refl; here = h }
body_refuses job at body f NotAdmitted place h = record { body = body; frame = f; behind = refl; here = h }

placed_says : (job : List ℕ) (at : ℕ) (body : List ℕ) → Framed job at body → (r : Result CommandSeen Wrong) →
    BodySays body at r → Says job at (placed (at + length body + 3) r)
placed_says job at body f (Ok p) h = record { body = body; frame = f; behind = refl; here = h }
placed_says job at body f (Err w) h = body_refuses job at body f w.refusal w.place h

in_frame : (job : List ℕ) (at : ℕ) (body : List ℕ) → length job ≤ longest_job → Framed job at body →
    Says job at (read_at job at)
in_frame job at body fits f =
    subst (Says job at) (sym (read_framed job at body fits f))
    (placed_says job at body f _
    (subst (λ n. BodySays body n (body_at (f.before ++ (27 ∷ body)) (length f.before))) (sym f.place)
    (body_laws f.before body).says))

tests_are : (job : List ℕ) (at : ℕ) (t1 t2 t3 t4 t5 : Bool) → is_long job ≡ t1 → is_past job at ≡ t2 →
    is_within job at ≡ t3 → is_escape job at ≡ t4 → is_closed job at ≡ t5 →
    read_at job at ≡ tests t1 t2 t3 t4 t5 job at
tests_are job at t1 t2 t3 t4 t5 e1 e2 e3 e4 e5 =
    ap (λ t. tests t (is_past job at) (is_within job at) (is_escape job at) (is_closed job at) job at) e1
    ∙ ap (λ t. tests t1 t (is_within job at) (is_escape job at) (is_closed job at) job at) e2
    ∙ ap (λ t. tests t1 t2 t (is_escape job at) (is_closed job at) job at) e3
    ∙ ap (λ t. tests t1 t2 t3 t (is_closed job at) job at) e4
    ∙ ap (λ t. tests t1 t2 t3 t4 t job at) e5

no_frame : (job : List ℕ) (at : ℕ) → is_closed job at ≡ false → (body : List ℕ) → Framed job at body → ⊥
no_frame job at not_closed body f =
    let found = ending_framed job at body f in
    let lost : ending_at job at ≡ Err (fault NoEnding at (next_escape job at)) = cond-false _ _ _ not_closed in
    cc

says_by : (job : List ℕ) (at : ℕ) (t1 t2 t3 t4 t5 : Bool) → is_long job ≡ t1 → is_past job at ≡ t2 →
    is_within job at ≡ t3 → is_escape job at ≡ t4 → is_closed job at ≡ t5 →
    Says job at (tests t1 t2 t3 t4 t5 job at)
says_by job at true t2 t3 t4 t5 e1 e2 e3 e4 e5 = inl (ltb-true _ _ e1)
says_by job at false true t3 t4 t5 e1 e2 e3 e4 e5 = inr (ltb-true _ _ e2)
says_by job at false false false t4 t5 e1 e2 e3 e4 e5 = omega (arith, ltb-false _ _ e2, ltb-false _ _ e3)
says_by job at false false true false t5 e1 e2 e3 e4 e5 = (ltb-true _ _ e3, eqb-false _ _ e4)
says_by job at false false true true false e1 e2 e3 e4 e5 = (eqb-true _ _ e4, no_frame job at e5)
says_by job at false false true true true e1 e2 e3 e4 e5 =
    let found = found_framed job at (ltb-true _ _ e3) (eqb-true _ _ e4) e5 in
    subst (Says job at) (tests_are job at false false true true true e1 e2 e3 e4 e5)
    (in_frame job at found.0 (ltb-false _ _ e1) found.1)

written_framed : (job : List ℕ) (at : ℕ) (body : List ℕ) → length job ≤ longest_job → Framed job at body →
    (p : CommandSeen) →
    WritesCommand p body (at + 1) →
    (answer_of (read_at job at) ≡ Ok p) × (next_of (read_at job at) ≡ at + length body + 3)
written_framed job at body fits f p w =
    let is : read_at job at ≡ Ok (p, at + length body + 3) =
    read_framed job at body fits f
    ∙ ap (placed (at + length body + 3))
    ((body_laws f.before body).written p (subst (λ n. WritesCommand p body (n + 1)) f.place w)) in
    (ap answer_of is, ap next_of is)

pub reading : Reading
reading job at =
    record {
      says = says_by job at (is_long job) (is_past job at) (is_within job at) (is_escape job at)
          (is_closed job at) refl refl refl refl refl;
      written = λ before body after whole place fits short p w.
          let f : Framed job at body =
          record {
            before = before;
            after = after;
            whole = whole;
            place = place;
            free = command_free p body (at + 1) w;
            short = short;
          } in
          written_framed job at body fits f p w;
      refused = λ fits body f p r.
          ap answer_of
          (read_framed job at body fits f
          ∙ ap (placed (at + length body + 3)) ((body_laws f.before body).refused p r)
          ∙ ap (λ n. Err (fault NotAdmitted (n + 1 + p) (at + length body + 3))) (sym f.place));
    }
