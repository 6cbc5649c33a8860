-- What a command does has nothing to do with the printer.
use Rattle.std.proofs.Common.{◌≡◌, ℕ, ◌+◌, ◌≤◌, Bool, true, false, cond, eqb, leb, ltb, List, [], ◌∷◌, ◌++◌, length, drop, Some, None, Ok, Err, Option, Result, sym, refl, ap, ◌∙◌, arith}
use mathlib.Core.Path.{subst⁻¹}
use Rattle.std.proofs.lemmas.Bool.Decides.{nat_tests}
use Rattle.faults.specs.declared.Fault.{Fault}
use Rattle.faults.specs.declared.Refusal.TheVariants.{ShortBuffer, TooManyOrdered, DraftFull}
use Rattle.limits.specs.Limits.{longest_form}
use Rattle.jobgroups.specs.Commands.{CommandSeen}
use Rattle.stores.specs.Forms.{Forms, Lawful, put_answer, filled_with, size_of}
use Rattle.stores.specs.declared.answers.StoreFault.{StoreFault}
use Rattle.label.specs.Labels.{LabelSeen, label_refusal}
use Rattle.station.specs.Reads.{read_at, next_at, out_of_bounds, Misread}
use Rattle.station.specs.Recalls.{acted, commands_of, done_all}
use Rattle.station.specs.Requests.{Request, on_label, issue, begin_saving, end_saving, recall, empty_store, tell_status, reset, request_of}
use Rattle.station.specs.Status.{answer_for, status_answer}
use Rattle.station.specs.Steps.{answered, answered_in, when_idle, when_saving, when_owing, relabelled, recalled, ordering, owing_all, most_ordered, drafted, refused, filed, concluded, on_read, commanded, short_buffers, fault_at, whole_at, answer_after, answer_on, answer_by, answer_bytes, work_after, work_on, work_by, work_in, work_bytes}
use Rattle.station.specs.Views.{ModeSeen, idle, saving, owing, View, owed_by, with_mode, with_ordered}
use Rattle.station.specs.declared.blame.Blame.{Blame}
use Rattle.tagline.specs.Digits.{four_digits}
use Rattle.ledger.proofs.Basics.{never}
use Rattle.jobrun.specs.Stages.{Moment, tag_next}
use Rattle.jobrun.specs.Outcomes.{unprinted}

abbrev pub aside : Result View Blame → Result View Blame
aside (Ok v) = Ok (unprinted v)
aside (Err b) = Err b

abbrev pub set_aside : Result (View × ℕ) Fault → Result (View × ℕ) Fault
set_aside (Ok o) = Ok (unprinted o.0, o.1)
set_aside (Err f) = Err f

module _ (v : View) where
  relabelled_aside : (o : Result LabelSeen Blame) → relabelled (unprinted v) o ≡ aside (relabelled v o)
  relabelled_aside (Ok l) = refl
  relabelled_aside (Err b) = refl

  recalled_aside : (n at : ℕ) (o : Option (List ℕ)) → recalled (unprinted v) n at o ≡ aside (recalled v n at o)
  recalled_aside n at (Some form) = relabelled_aside (done_all n v.label (commands_of form))
  recalled_aside n at None = refl

  ordering_aside : (n at : ℕ) → ordering (unprinted v) n at ≡ aside (ordering v n at)
  ordering_aside n at = go (leb (v.ordered + n) most_ordered)
    where
      go : (b : Bool) →
          cond b (Ok (with_mode (owing_all n) (with_ordered (v.ordered + n) (unprinted v))))
          (refused TooManyOrdered at)
          ≡ aside (cond b (Ok (with_mode (owing_all n) (with_ordered (v.ordered + n) v)))
          (refused TooManyOrdered at))
      go true = refl
      go false = refl

  drafted_aside : (n : ℕ) (draft whole : List ℕ) (at : ℕ) →
      drafted (unprinted v) n draft whole at ≡ aside (drafted v n draft whole at)
  drafted_aside n draft whole at = go (leb (length draft + length whole) longest_form)
    where
      go : (b : Bool) → cond b (Ok (with_mode (saving n (draft ++ whole)) (unprinted v))) (refused DraftFull at)
          ≡ aside (cond b (Ok (with_mode (saving n (draft ++ whole)) v)) (refused DraftFull at))
      go true = refl
      go false = refl

  filed_aside : (n : ℕ) (draft : List ℕ) (at : ℕ) (o : Result (Unit {0}) StoreFault) →
      filed (unprinted v) n draft at o ≡ aside (filed v n draft at o)
  filed_aside n draft at (Ok x) = refl
  filed_aside n draft at (Err e) = refl

  idle_aside : (q : Request) (at : ℕ) → when_idle (unprinted v) q at ≡ aside (when_idle v q at)
  idle_aside (on_label a) at = relabelled_aside (acted 0 v.label a at (label_refusal v.label a))
  idle_aside (issue n) at = ordering_aside n at
  idle_aside (begin_saving n) at = refl
  idle_aside end_saving at = refl
  idle_aside (recall n) at = recalled_aside n at (v.forms.at n)
  idle_aside empty_store at = refl
  idle_aside tell_status at = refl
  idle_aside reset at = refl

  saving_aside : (n : ℕ) (draft : List ℕ) (q : Request) (whole : List ℕ) (at : ℕ) →
      when_saving (unprinted v) n draft q whole at ≡ aside (when_saving v n draft q whole at)
  saving_aside n draft (on_label a) whole at = drafted_aside n draft whole at
  saving_aside n draft (issue k) whole at = refl
  saving_aside n draft (begin_saving k) whole at = refl
  saving_aside n draft end_saving whole at = filed_aside n draft at (put_answer v.forms n (length draft))
  saving_aside n draft (recall k) whole at = refl
  saving_aside n draft empty_store whole at = refl
  saving_aside n draft tell_status whole at = refl
  saving_aside n draft reset whole at = refl

  owing_aside : (q : Request) (at : ℕ) → when_owing (unprinted v) q at ≡ aside (when_owing v q at)
  owing_aside (on_label a) at = refl
  owing_aside (issue k) at = refl
  owing_aside (begin_saving k) at = refl
  owing_aside end_saving at = refl
  owing_aside (recall k) at = refl
  owing_aside empty_store at = refl
  owing_aside tell_status at = refl
  owing_aside reset at = refl

  answered_aside : (q : Request) (whole : List ℕ) (at : ℕ) →
      answered (unprinted v) q whole at ≡ aside (answered v q whole at)
  answered_aside q whole at = go v.mode
    where
      go : (d : ModeSeen) → answered_in d (unprinted v) q whole at ≡ aside (answered_in d v q whole at)
      go idle = idle_aside q at
      go (saving n draft) = saving_aside n draft q whole at
      go (owing left size) = owing_aside q at

  concluded_aside : (o : Result View Blame) (next : ℕ) → concluded (aside o) next ≡ set_aside (concluded o next)
  concluded_aside (Ok u) next = refl
  concluded_aside (Err b) next = refl

  read_aside : (job : List ℕ) (at : ℕ) (o : Result CommandSeen Misread) →
      on_read (unprinted v) job at o ≡ set_aside (on_read v job at o)
  read_aside job at (Ok c) = ap (λ (o : Result View Blame). concluded o (next_at job at))
      (answered_aside (request_of c) (whole_at job at) at)
      ∙ concluded_aside (answered v (request_of c) (whole_at job at) at) (next_at job at)
  read_aside job at (Err e) = refl

  pub commanded_aside : (job : List ℕ) (at answer work : ℕ) →
      commanded (unprinted v) job at answer work ≡ set_aside (commanded v job at answer work)
  commanded_aside job at answer work = go (out_of_bounds job at) (short_buffers answer work)
    where
      go : (a b : Bool)
          → cond a (on_read (unprinted v) job at (read_at job at))
          (cond b (Err (fault_at ShortBuffer 0 at at)) (on_read (unprinted v) job at (read_at job at)))
          ≡ set_aside (cond a (on_read v job at (read_at job at))
          (cond b (Err (fault_at ShortBuffer 0 at at)) (on_read v job at (read_at job at))))
      go true b = read_aside job at (read_at job at)
      go false true = refl
      go false false = read_aside job at (read_at job at)

-- ---- the fronts that a command writes into its buffers
abbrev pub asks_status : Request → Bool
asks_status (on_label a) = false
asks_status (issue n) = false
asks_status (begin_saving n) = false
asks_status end_saving = false
asks_status (recall n) = false
asks_status empty_store = false
asks_status tell_status = true
asks_status reset = false

abbrev pub told : Request → View → List ℕ
told q v = cond (asks_status q) (status_answer v) []

status_long : (owed left : ℕ) → length (answer_for owed left) ≡ answer_bytes
status_long owed left = go (eqb owed 0) (eqb left 0)
  where
    go : (a b : Bool) →
        length (1 ∷ 2 ∷
        (cond a (48 ∷ 48 ∷ [])
        (cond b (49 ∷ 51 ∷ []) (48 ∷ 50 ∷ [])) ++ (49 ∷ (four_digits owed ++ (3 ∷ 4 ∷ 13 ∷ 10 ∷ []))))) ≡ answer_bytes
    go true b = refl
    go false true = refl
    go false false = refl

told_is : (q : Request) (v : View) (answer : List ℕ) →
    answer_by q v answer ≡ told q v ++ drop (length (told q v)) answer
told_is (on_label a) v answer = refl
told_is (issue n) v answer = refl
told_is (begin_saving n) v answer = refl
told_is end_saving v answer = refl
told_is (recall n) v answer = refl
told_is empty_store v answer = refl
told_is tell_status v answer =
    sym (ap (λ (k : ℕ). status_answer v ++ drop k answer) (status_long (owed_by v) v.paper.left))
told_is reset v answer = refl

told_fits : (q : Request) (v : View) (long : ℕ) → answer_bytes ≤ long → length (told q v) ≤ long
told_fits q v long h = go (asks_status q)
  where
    go : (b : Bool) → length (cond b (status_answer v) []) ≤ long
    go true = subst⁻¹ (λ (k : ℕ). k ≤ long) (status_long (owed_by v) v.paper.left) h
    go false = omega arith

-- with nothing owed a status answer does not speak of the stock
told_aside : (q : Request) (v : View) → owed_by v ≡ 0 → told q (unprinted v) ≡ told q v
told_aside q v none =
    ap (λ (x : List ℕ). cond (asks_status q) x [])
    (ap (λ (k : ℕ). answer_for k 0) none ∙ sym (ap (λ (k : ℕ). answer_for k v.paper.left) none))

abbrev pub answer_front : Bool → Result CommandSeen Misread → View → List ℕ
answer_front true o v = []
answer_front false (Ok c) v = told (request_of c) v
answer_front false (Err e) v = []

abbrev pub form_bytes : Option (List ℕ) → List ℕ
form_bytes (Some x) = x
form_bytes None = []

abbrev pub filled : Request → Forms → List ℕ
filled (on_label a) forms = []
filled (issue n) forms = []
filled (begin_saving n) forms = []
filled end_saving forms = []
filled (recall n) forms = form_bytes (forms.at n)
filled empty_store forms = []
filled tell_status forms = []
filled reset forms = []

abbrev pub filled_in : ModeSeen → Request → Forms → List ℕ
filled_in idle q forms = filled q forms
filled_in (saving n draft) q forms = []
filled_in (owing left size) q forms = []

abbrev pub work_front : Bool → Result CommandSeen Misread → View → List ℕ
work_front true o v = []
work_front false (Ok c) v = filled_in v.mode (request_of c) v.forms
work_front false (Err e) v = []

form_is : (o : Option (List ℕ)) (work : List ℕ) → size_of o ≤ longest_form → work_bytes ≤ length work →
    filled_with o work ≡ form_bytes o ++ drop (length (form_bytes o)) work
form_is None work h k = refl
form_is (Some x) work h k =
    let le : length x ≤ length work = omega (arith, h, k) in
    let fits : leb (length x) (length work) ≡ true = grind (arith, nat_tests) in
    ap (λ (b : Bool). cond b (x ++ drop (length x) work) work) fits

form_fits : (o : Option (List ℕ)) (long : ℕ) → size_of o ≤ longest_form → work_bytes ≤ long →
    length (form_bytes o) ≤ long
form_fits None long h k = omega arith
form_fits (Some x) long h k = omega (arith, h, k)

module _ (forms : Forms) (lawful : Lawful forms) where
  filled_is : (q : Request) (work : List ℕ) → work_bytes ≤ length work →
      work_by q forms work ≡ filled q forms ++ drop (length (filled q forms)) work
  filled_is (on_label a) work k = refl
  filled_is (issue n) work k = refl
  filled_is (begin_saving n) work k = refl
  filled_is end_saving work k = refl
  filled_is (recall n) work k = form_is (forms.at n) work (lawful.short n) k
  filled_is empty_store work k = refl
  filled_is tell_status work k = refl
  filled_is reset work k = refl

  filled_fits : (q : Request) (long : ℕ) → work_bytes ≤ long → length (filled q forms) ≤ long
  filled_fits (on_label a) long k = omega arith
  filled_fits (issue n) long k = omega arith
  filled_fits (begin_saving n) long k = omega arith
  filled_fits end_saving long k = omega arith
  filled_fits (recall n) long k = form_fits (forms.at n) long (lawful.short n) k
  filled_fits empty_store long k = omega arith
  filled_fits tell_status long k = omega arith
  filled_fits reset long k = omega arith

  in_is : (d : ModeSeen) (q : Request) (work : List ℕ) → work_bytes ≤ length work →
      work_in d q forms work ≡ filled_in d q forms ++ drop (length (filled_in d q forms)) work
  in_is idle q work k = filled_is q work k
  in_is (saving n draft) q work k = refl
  in_is (owing left size) q work k = refl

  in_fits : (d : ModeSeen) (q : Request) (long : ℕ) → work_bytes ≤ long → length (filled_in d q forms) ≤ long
  in_fits idle q long k = filled_fits q long k
  in_fits (saving n draft) q long k = omega arith
  in_fits (owing left size) q long k = omega arith

-- whether a buffer is too short
abbrev pub lacks : Moment → Bool
lacks x = short_buffers (length x.answer) (length x.work)

enough : (a n : ℕ) → ltb a n ≡ false → n ≤ a
enough a n h = grind (arith, nat_tests)

none_owed : (n : ℕ) → ltb 0 n ≡ false → n ≡ 0
none_owed n h = grind (arith, nat_tests)

module _ (x : Moment) where
  long_enough : lacks x ≡ false → (answer_bytes ≤ length x.answer) × (work_bytes ≤ length x.work)
  long_enough h = go (ltb (length x.answer) answer_bytes) refl h
    where
      go : (b : Bool) → ltb (length x.answer) answer_bytes ≡ b →
          cond b true (ltb (length x.work) work_bytes) ≡ false →
          (answer_bytes ≤ length x.answer) × (work_bytes ≤ length x.work)
      go true q h = never (sym h)
      go false q h = (enough (length x.answer) answer_bytes q, enough (length x.work) work_bytes h)

  -- where no tag comes next and the buffers are long enough, nothing is owed
  nothing_owed : tag_next x ≡ false → lacks x ≡ false → owed_by x.view ≡ 0
  nothing_owed w h = go (ltb (length x.work) work_bytes) refl w
    where
      go : (b : Bool) → ltb (length x.work) work_bytes ≡ b → cond b false (ltb 0 (owed_by x.view)) ≡ false →
          owed_by x.view ≡ 0
      go true q w = let k = (long_enough h).1 in
          let t : ltb (length x.work) work_bytes ≡ false = grind (arith, nat_tests) in never (sym t ∙ q)
      go false q w = none_owed (owed_by x.view) w

  module _ (job : List ℕ) (at : ℕ) where
    abbrev pub answered_front : List ℕ
    answered_front = answer_front (lacks x) (read_at job at) x.view

    abbrev pub worked_front : List ℕ
    worked_front = work_front (lacks x) (read_at job at) x.view

    pub answered_is : answer_after x.view job at x.answer (length x.work)
        ≡ answered_front ++ drop (length answered_front) x.answer
    answered_is = go (lacks x) (read_at job at)
      where
        go : (b : Bool) (o : Result CommandSeen Misread) →
            cond b x.answer (answer_on o x.view x.answer) ≡ answer_front b o x.view ++ drop
            (length (answer_front b o x.view)) x.answer
        go true o = refl
        go false (Ok c) = told_is (request_of c) x.view x.answer
        go false (Err e) = refl

    pub answered_fits : length answered_front ≤ length x.answer
    answered_fits = go (lacks x) refl (read_at job at)
      where
        go : (b : Bool) → lacks x ≡ b → (o : Result CommandSeen Misread) →
            length (answer_front b o x.view) ≤ length x.answer
        go true h o = omega arith
        go false h (Ok c) = told_fits (request_of c) x.view (length x.answer) (long_enough h).0
        go false h (Err e) = omega arith

    pub worked_is : Lawful x.view.forms →
        work_after x.view job at (length x.answer) x.work ≡ worked_front ++ drop (length worked_front) x.work
    worked_is lawful = go (lacks x) refl (read_at job at)
      where
        go : (b : Bool) → lacks x ≡ b → (o : Result CommandSeen Misread) →
            cond b x.work (work_on o x.view x.work) ≡ work_front b o x.view ++ drop
            (length (work_front b o x.view)) x.work
        go true h o = refl
        go false h (Ok c) = in_is x.view.forms lawful x.view.mode (request_of c) x.work (long_enough h).1
        go false h (Err e) = refl

    pub worked_fits : Lawful x.view.forms → length worked_front ≤ length x.work
    worked_fits lawful = go (lacks x) refl (read_at job at)
      where
        go : (b : Bool) → lacks x ≡ b → (o : Result CommandSeen Misread)
            → length (work_front b o x.view) ≤ length x.work
        go true h o = omega arith
        go false h (Ok c) = in_fits x.view.forms lawful x.view.mode (request_of c) (length x.work) (long_enough h).1
        go false h (Err e) = omega arith

    -- they have nothing to do with the printer where no tag comes next
    pub answered_unprinted : tag_next x ≡ false →
        answer_front (lacks x) (read_at job at) (unprinted x.view) ≡ answered_front
    answered_unprinted w = go (lacks x) refl (read_at job at)
      where
        go : (b : Bool) → lacks x ≡ b → (o : Result CommandSeen Misread) →
            answer_front b o (unprinted x.view) ≡ answer_front b o x.view
        go true h o = refl
        go false h (Ok c) = told_aside (request_of c) x.view (nothing_owed w h)
        go false h (Err e) = refl

    pub worked_unprinted : work_front (lacks x) (read_at job at) (unprinted x.view) ≡ worked_front
    worked_unprinted = go (lacks x) (read_at job at)
      where
        go : (b : Bool) (o : Result CommandSeen Misread) → work_front b o (unprinted x.view) ≡ work_front b o x.view
        go true o = refl
        go false (Ok c) = refl
        go false (Err e) = refl
