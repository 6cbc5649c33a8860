-- A job has one outcome: its steps do not depend on the printer, which it is and how much stock it has.
use Rattle.std.proofs.Common.{◌≡◌, ℕ, ◌+◌, ◌<◌, Bool, true, false, cond, eqb, leb, ltb, List, [], ◌∷◌, ◌++◌, length, take, drop, Some, None, Ok, Err, Option, Result, sym, refl, ap, ◌∙◌, subst, ap₂, arith}
use mathlib.Core.Path.{subst⁻¹}
use Rattle.std.proofs.Math.Seq.{take-append_seam}
use Rattle.std.proofs.lemmas.Bool.Decides.{nat_tests}
use Rattle.faults.specs.declared.Fault.{Fault}
use Rattle.faults.specs.declared.Refusal.TheVariants.{ShortBuffer, OutOfStock}
use Rattle.limits.specs.Limits.{last_tag}
use Rattle.texts.specs.Wheels.{Wheels}
use Rattle.stores.specs.Forms.{Forms}
use Rattle.printers.specs.Paper.{Paper, unused}
use Rattle.station.specs.Reads.{read_at, out_of_bounds}
use Rattle.station.specs.Steps.{commanded, on_read, answer_bytes, work_bytes, fault_at, owed_fault, print_fault, Reloaded, PrintedIn, printed, line_in, next_line, print_work, most_ordered}
use Rattle.station.specs.Views.{ModeSeen, idle, saving, owing, View, made, owed_in, owed_by}
use Rattle.ledger.proofs.Basics.{never, not_none, not_ok, ok_inj}
use Rattle.jobrun.specs.Stages.{Moment, moment, Taken, Sent, Again, Sending, Tagging, StagedBy, Staged, tag_next, with_view, ends}
use Rattle.jobrun.specs.Jobs.{is_last, place_after, tag_in, tags_in, Stages}
use Rattle.jobrun.specs.Outcomes.{unprinted, Same, AsLong, InStep, OneOutcome}
use Rattle.jobrun.specs.declared.stage.Stage.{Stage}
use Rattle.jobrun.specs.declared.stage.Stage.TheVariants.{Tag, Done, Refused, Ended, NoStock}
use Rattle.jobrun.proofs.Calls.{Calls, step_calls, calls_append, bound_so_far, turns_make}
use Rattle.jobrun.proofs.Going.{err_inj}
use Rattle.jobrun.proofs.Fronts.{front_none, front_same, front_line, front_then, kept_long}
use Rattle.jobrun.proofs.Unprinted.{set_aside, commanded_aside, lacks, answer_front, work_front, answered_front, worked_front, answered_is, answered_fits, worked_is, worked_fits, answered_unprinted, worked_unprinted}

-- ---- when a tag comes next
wanted : (a b : Bool) → cond a false b ≡ true → (a ≡ false) × (b ≡ true)
wanted true b h = never h
wanted false b h = (refl, h)

module _ (job : List ℕ) (at : ℕ) (d e : Moment) (t : Stage) where
  -- the tag is taken, from the stock that is there or from new stock
  record Tagged : Type 0 where
    from : View
    long : ℕ
    is : t ≡ Tag long
    same : unprinted from ≡ unprinted d.view
    takes : Taken (with_view from d) long e

  tag_made : d.view.paper.taken < last_tag → tag_next d ≡ true → Staged job at d t e → Tagged
  tag_made more w h = go (print_fault d.view (length d.work)) (subst (λ (b : Bool). StagedBy b job at d t e) w h)
    where
      owed : (ltb (length d.work) work_bytes ≡ false) × (ltb 0 (owed_by d.view) ≡ true)
      owed = wanted (ltb (length d.work) work_bytes) (ltb 0 (owed_by d.view)) w

      -- new stock is enough for it
      accepted : (k : ModeSeen) → d.view.mode ≡ k → ltb 0 (owed_in k) ≡ true → Reloaded d.view e.view →
          print_fault e.view (length d.work) ≡ None
      accepted idle q o r = never o
      accepted (saving n draft) q o r = never o
      accepted (owing left size) q o r =
          let some : eqb e.view.paper.left 0 ≡ false = let k = r.loaded more in grind (arith, nat_tests) in
          let kept : e.view.mode ≡ owing left size = ap (λ (v : View). v.mode) r.after ∙ q in
          ap (λ (b : Bool). cond b (Some (fault_at ShortBuffer 0 0 0))
          (owed_fault e.view.mode e.view.paper.left)) owed.0
          ∙ ap (λ (k : ModeSeen). owed_fault k e.view.paper.left) kept
          ∙ ap (λ (b : Bool). cond b (Some (fault_at OutOfStock 0 0 0)) None) some

      again : (x : Stage) → t ≡ x → Again d x e → Tagged
      again (Tag n) q a =
          record { from = a.0; long = n; is = q; same = ap unprinted a.1.after; takes = a.2 }
      again (Done next) q a = absurd a
      again (Refused f) q a = absurd a
      again (Ended f) q a = absurd a
      again (NoStock f) q a = not_none (sym (accepted d.view.mode refl owed.1 a.0) ∙ a.1)

      go : (o : Option Fault) → Tagging o d t e → Tagged
      go None h = record { from = d.view; long = h.0; is = h.1; same = refl; takes = h.2 }
      go (Some f) h = again t refl h

  command_made : tag_next d ≡ false → Staged job at d t e → Sending job at d t e
  command_made w h = subst (λ (b : Bool). StagedBy b job at d t e) w h

-- ---- two tags
line_aside : (d : ModeSeen) (v : View) → line_in d (unprinted v) ≡ line_in d v
line_aside idle v = refl
line_aside (saving n draft) v = refl
line_aside (owing left size) v = refl

abbrev after_tag : ModeSeen → View → View
after_tag idle v = v
after_tag (saving n draft) v = v
after_tag (owing left size) v = unprinted (printed v left size (unused 0))

tag_aside : (d : ModeSeen) (m u : View) → PrintedIn d m u → unprinted u ≡ after_tag d (unprinted m)
tag_aside idle m u p = absurd p
tag_aside (saving n draft) m u p = absurd p
tag_aside (owing left size) m u p = ap unprinted p.after

lines_same : (m m' : View) → unprinted m ≡ unprinted m' → next_line m ≡ next_line m'
lines_same m m' q = sym (line_aside m.mode m) ∙ ap (λ (v : View). line_in v.mode v) q ∙ line_aside m'.mode m'

-- two moments of a job that show the same, with buffers that are long enough in both, or in neither
record Level (d d' : Moment) : Type 0 where
  view : unprinted d.view ≡ unprinted d'.view
  long : AsLong d d'

module _ (job : List ℕ) (at : ℕ) (d d' e e' : Moment) (t t' : Stage) (level : Level d d') where
  tags_same : Tagged job at d e t → Tagged job at d' e' t' → (t ≡ t') × Same d e d' e'
  tags_same a b =
      let q : unprinted a.from ≡ unprinted b.from = a.same ∙ level.view ∙ sym b.same in
      let line = lines_same a.from b.from q in
      let long : a.long ≡ b.long = a.takes.step.2 ∙ ap length line ∙ sym b.takes.step.2 in (
        a.is ∙ ap Tag long ∙ sym b.is,
        record {
          view = tag_aside a.from.mode a.from e.view a.takes.step.1 ∙ ap (λ (v : View). after_tag v.mode v) q
              ∙ sym (tag_aside b.from.mode b.from e'.view b.takes.step.1);
          answer = front_none d.answer e.answer d'.answer e'.answer a.takes.answer b.takes.answer;
          work = front_line (next_line a.from) (next_line b.from) d.work e.work d'.work e'.work line
              a.takes.work b.takes.work a.takes.long b.takes.long;
        },
      )

  -- ---- two commands
  lacks_same : lacks d ≡ lacks d'
  lacks_same = ap₂ (λ (a b : Bool). cond a true b) level.long.answer level.long.work

  came : set_aside (commanded d.view job at (length d.answer) (length d.work))
      ≡ set_aside (commanded d'.view job at (length d'.answer) (length d'.work))
  came =
      sym (commanded_aside d.view job at (length d.answer) (length d.work))
      ∙ ap₂ (λ (v : View) (b : Bool). cond (out_of_bounds job at) (on_read v job at (read_at job at))
      (cond b (Err (fault_at ShortBuffer 0 at at)) (on_read v job at (read_at job at)))) level.view lacks_same
      ∙ commanded_aside d'.view job at (length d'.answer) (length d'.work)

  buffers_same : (r r' : Result ℕ Fault) → tag_next d ≡ false → tag_next d' ≡ false →
      unprinted e.view ≡ unprinted e'.view → Sent job at d r e → Sent job at d' r' e' → Same d e d' e'
  buffers_same r r' w w' v s s' =
      let told : answered_front d job at ≡ answered_front d' job at =
      sym (answered_unprinted d job at w)
      ∙ ap₂ (λ (b : Bool) (u : View). answer_front b (read_at job at) u) lacks_same level.view
      ∙ answered_unprinted d' job at w' in
      let filled : worked_front d job at ≡ worked_front d' job at =
      sym (worked_unprinted d job at)
      ∙ ap₂ (λ (b : Bool) (u : View). work_front b (read_at job at) u) lacks_same level.view
      ∙ worked_unprinted d' job at in
      record {
        view = v;
        answer = front_same (answered_front d job at) (answered_front d' job at) d.answer e.answer d'.answer
            e'.answer told (answered_fits d job at) (answered_fits d' job at)
            (s.answer ∙ answered_is d job at) (s'.answer ∙ answered_is d' job at);
        work = front_same (worked_front d job at) (worked_front d' job at) d.work e.work d'.work e'.work filled
            (worked_fits d job at s.store) (worked_fits d' job at s'.store)
            (s.work ∙ worked_is d job at s.store) (s'.work ∙ worked_is d' job at s'.store);
      }

  commands_same : tag_next d ≡ false → tag_next d' ≡ false → Sending job at d t e → Sending job at d' t' e' →
      (t ≡ t') × Same d e d' e'
  commands_same w w' s s' = go t t' refl refl s s'
    where
      done : (next next' : ℕ) → Sent job at d (Ok next) e → Sent job at d' (Ok next') e' →
          ◌≡◌ {A = Result (View × ℕ) Fault} (Ok (unprinted e.view, next)) (Ok (unprinted e'.view, next'))
      done next next' s s' = sym (ap set_aside s.step) ∙ came ∙ ap set_aside s'.step

      refused : (f f' : Fault) → Sent job at d (Err f) e → Sent job at d' (Err f') e' → f ≡ f'
      refused f f' s s' = err_inj (sym (ap set_aside s.step.0) ∙ came ∙ ap set_aside s'.step.0)

      kept : (f f' : Fault) → Sent job at d (Err f) e → Sent job at d' (Err f') e' →
          unprinted e.view ≡ unprinted e'.view
      kept f f' s s' = ap unprinted s.step.1 ∙ level.view ∙ sym (ap unprinted s'.step.1)

      odd : {X : Type 0} (next : ℕ) (f : Fault) → Sent job at d (Ok next) e → Sent job at d' (Err f) e' → X
      odd next f s s' = not_ok (sym (sym (ap set_aside s.step) ∙ came ∙ ap set_aside s'.step.0))

      odd' : {X : Type 0} (next : ℕ) (f : Fault) → Sent job at d (Err f) e → Sent job at d' (Ok next) e' → X
      odd' next f s s' = not_ok (sym (ap set_aside s.step.0) ∙ came ∙ ap set_aside s'.step)

      go : (x x' : Stage) → t ≡ x → t' ≡ x' → Sending job at d x e → Sending job at d' x' e' →
          (t ≡ t') × Same d e d' e'
      go (Tag n) x' q q' s s' = absurd s
      go (NoStock f) x' q q' s s' = absurd s
      go (Done next) (Tag n) q q' s s' = absurd s'
      go (Done next) (Done next') q q' s s' =
          let both = ok_inj (done next next' s s') in (
            q ∙ ap Done (ap (λ (p : View × ℕ). p.1) both)
                ∙ sym q',
            buffers_same (Ok next) (Ok next') w w' (ap (λ (p : View × ℕ). p.0) both) s s',
          )
      go (Done next) (Refused f) q q' s s' = odd next f s s'.0
      go (Done next) (Ended f) q q' s s' = odd next f s s'.0
      go (Done next) (NoStock f) q q' s s' = absurd s'
      go (Refused f) (Tag n) q q' s s' = absurd s'
      go (Refused f) (Done next) q q' s s' = odd' next f s.0 s'
      go (Refused f) (Refused f') q q' s s' = (
        q ∙ ap Refused (refused f f' s.0 s'.0)
            ∙ sym q',
        buffers_same (Err f) (Err f') w w' (kept f f' s.0 s'.0) s.0 s'.0,
      )
      go (Refused f) (Ended f') q q' s s' = never (sym s.1 ∙ ap ends (refused f f' s.0 s'.0) ∙ s'.1)
      go (Refused f) (NoStock f') q q' s s' = absurd s'
      go (Ended f) (Tag n) q q' s s' = absurd s'
      go (Ended f) (Done next) q q' s s' = odd' next f s.0 s'
      go (Ended f) (Refused f') q q' s s' = never (sym s'.1 ∙ sym (ap ends (refused f f' s.0 s'.0)) ∙ s.1)
      go (Ended f) (Ended f') q q' s s' = (
        q ∙ ap Ended (refused f f' s.0 s'.0)
            ∙ sym q',
        buffers_same (Err f) (Err f') w w' (kept f f' s.0 s'.0) s.0 s'.0,
      )
      go (Ended f) (NoStock f') q q' s s' = absurd s'

  next_same : tag_next d ≡ tag_next d'
  next_same = ap₂ (λ (b : Bool) (v : View). cond b false (ltb 0 (owed_by v))) level.long.work level.view

  -- ---- two steps
  steps_same : d.view.paper.taken < last_tag → d'.view.paper.taken < last_tag → Staged job at d t e →
      Staged job at d' t' e' → (t ≡ t') × Same d e d' e'
  steps_same more more' h h' = go (tag_next d) refl
    where
      go : (b : Bool) → tag_next d ≡ b → (t ≡ t') × Same d e d' e'
      go true w = tags_same (tag_made job at d e t more w h) (tag_made job at d' e' t' more' (sym next_same ∙ w) h')
      go false w = commands_same w (sym next_same ∙ w) (command_made job at d e t w h)
          (command_made job at d' e' t' (sym next_same ∙ w) h')

  -- and the line of two tags
  line_same : d.view.paper.taken < last_tag → d'.view.paper.taken < last_tag → Staged job at d t e →
      Staged job at d' t' e' → (n k : ℕ) → t ≡ Tag n → t' ≡ Tag k → take n e.work ≡ take k e'.work
  line_same more more' h h' n k is is' = go (tag_next d) refl
    where
      tag_long : {x y : ℕ} → Tag x ≡ Tag y → x ≡ y
      tag_long q = cc

      line_of_tag : (f : Moment) (m : ℕ) (l w : List ℕ) → m ≡ length l → f.work ≡ l ++ drop (length l) w →
          take m f.work ≡ l
      line_of_tag f m l w p q = ap₂ (λ (i : ℕ) (x : List ℕ). take i x) p q ∙ take-append_seam l (drop (length l) w)

      go : (b : Bool) → tag_next d ≡ b → take n e.work ≡ take k e'.work
      go true w =
          let a = tag_made job at d e t more w h in
          let b = tag_made job at d' e' t' more' (sym next_same ∙ w) h' in
          line_of_tag e n (next_line a.from) d.work (tag_long (sym is ∙ a.is) ∙ a.takes.step.2) a.takes.work
          ∙ lines_same a.from b.from (a.same ∙ level.view ∙ sym b.same)
          ∙ sym (line_of_tag e' k (next_line b.from) d'.work (tag_long (sym is' ∙ b.is) ∙ b.takes.step.2)
          b.takes.work)
      go false w = absurd (subst (λ (x : Stage). Sending job at d x e) is (command_made job at d e t w h))

-- ---- two jobs
-- far enough from its last tag, a printer takes whatever a job orders
more_tags : (forms : Forms) (paper : Paper) (w w' : Wheels) → paper.taken + most_ordered < last_tag →
    (n : ℕ) (x : View) → Calls (made forms paper w w') n x → x.paper.taken < last_tag
more_tags forms paper w w' far n x c = let b = bound_so_far (made forms paper w w') refl n x c in
    omega (arith, b.taken, b.tags, b.most, far)

on : (u : View) (job : List ℕ) (d e : Moment) (at n : ℕ) (t : Stage) → Calls u n d.view → Staged job at d t e →
    Calls u (n + tag_in t) e.view
on u job d e at n t c h = calls_append u d.view e.view n (tag_in t) c (step_calls job at d e t h)

module _ (u u' : View) (start start' : Moment) (as_long : AsLong start start')
    (enough : (n : ℕ) (x : View) → Calls u n x → x.paper.taken < last_tag)
    (enough' : (n : ℕ) (x : View) → Calls u' n x → x.paper.taken < last_tag) (job : List ℕ) where
  level : (d d' : Moment) → Same start d start' d' → Level d d'
  level d d' s =
      let a = kept_long s.answer.front start.answer d.answer s.answer.fits s.answer.one in
      let a' = kept_long s.answer.front start'.answer d'.answer s.answer.fits' s.answer.other in
      let w = kept_long s.work.front start.work d.work s.work.fits s.work.one in
      let w' = kept_long s.work.front start'.work d'.work s.work.fits' s.work.other in
      record {
        view = s.view;
        long = record {
          answer = ap (λ (n : ℕ). ltb n answer_bytes) a ∙ as_long.answer
              ∙ sym (ap (λ (n : ℕ). ltb n answer_bytes) a');
          work = ap (λ (n : ℕ). ltb n work_bytes) w ∙ as_long.work ∙ sym (ap (λ (n : ℕ). ltb n work_bytes) w');
        };
      }

  after : (d d' e e' : Moment) → Same start d start' d' → Same d e d' e' → Same start e start' e'
  after d d' e e' g h = record {
    view = h.view;
    answer = front_then start.answer d.answer e.answer start'.answer d'.answer e'.answer g.answer h.answer;
    work = front_then start.work d.work e.work start'.work d'.work e'.work g.work h.work;
  }

  jobs_same : (at : ℕ) (d d' m m' e e' : Moment) (p p' n n' : ℕ) (ts us : List Stage) (l l' : Stage) →
      Same start d start' d' → Calls u n d.view → Calls u' n' d'.view
      → Stages job at d ts p m → Staged job p m l e → is_last l ≡ true → Stages job at d' us p' m' →
      Staged job p' m' l' e' → is_last l' ≡ true
      → (ts ≡ us) × Same start e start' e'
  jobs_same at d d' m m' e e' p p' n n' [] [] l l' same c c' h s o h' s' o' =
      let a : Staged job at d l e =
      subst (λ (k : ℕ). Staged job k d l e) h.0 (subst (λ (x : Moment). Staged job p x l e) h.1 s) in
      let b : Staged job at d' l' e' =
      subst (λ (k : ℕ). Staged job k d' l' e') h'.0 (subst (λ (x : Moment). Staged job p' x l' e') h'.1 s') in (
        refl,
        after d d' e e' same
            (steps_same job at d d' e e' l l' (level d d' same) (enough n d.view c) (enough' n' d'.view c') a b).1,
      )
  jobs_same at d d' m m' e e' p p' n n' [] (x ∷ us) l l' same c c' h s o h' s' o' =
      let a : Staged job at d l e =
      subst (λ (k : ℕ). Staged job k d l e) h.0 (subst (λ (x : Moment). Staged job p x l e) h.1 s) in
      let q = steps_same job at d d' e h'.0 l x (level d d' same) (enough n d.view c) (enough' n' d'.view c') a
      h'.1 in
      never (sym h'.2 ∙ sym (ap is_last q.0) ∙ o)
  jobs_same at d d' m m' e e' p p' n n' (t ∷ ts) [] l l' same c c' h s o h' s' o' =
      let b : Staged job at d' l' e' =
      subst (λ (k : ℕ). Staged job k d' l' e') h'.0 (subst (λ (x : Moment). Staged job p' x l' e') h'.1 s') in
      let q = steps_same job at d d' h.0 e' t l' (level d d' same) (enough n d.view c) (enough' n' d'.view c')
      h.1 b in
      never (sym h.2 ∙ ap is_last q.0 ∙ o')
  jobs_same at d d' m m' e e' p p' n n' (t ∷ ts) (x ∷ us) l l' same c c' h s o h' s' o' =
      let q = steps_same job at d d' h.0 h'.0 t x (level d d' same) (enough n d.view c) (enough' n' d'.view c')
      h.1 h'.1 in
      let rest : Stages job (place_after t at) h'.0 us p' m' =
      subst⁻¹ (λ (y : Stage). Stages job (place_after y at) h'.0 us p' m') q.0 h'.3 in
      let more = jobs_same (place_after t at) h.0 h'.0 m m' e e' p p' (n + tag_in t) (n' + tag_in x) ts us l l'
      (after d d' h.0 h'.0 same q.1) (on u job d h.0 at n t c h.1) (on u' job d' h'.0 at n' x c' h'.1) h.3
      s o rest s' o' in
      (ap₂ (λ (y : Stage) (ys : List Stage). y ∷ ys) q.0 more.0, more.1)

  along_same : (at : ℕ) (d d' e e' : Moment) (p p' n n' : ℕ) (ts us : List Stage) → length ts ≡ length us →
      Same start d start' d' → Calls u n d.view → Calls u' n' d'.view
      → Stages job at d ts p e → Stages job at d' us p' e' → (ts ≡ us) × (p ≡ p') × Same start e start' e'
  along_same at d d' e e' p p' n n' [] [] long same c c' h h' = (
    refl,
    h.0 ∙ sym h'.0,
    subst⁻¹ (λ (x : Moment). Same start x start' e') h.1
        (subst⁻¹ (λ (x : Moment). Same start d start' x) h'.1 same),
  )
  along_same at d d' e e' p p' n n' [] (x ∷ us) long same c c' h h' = absurd (omega (arith, long))
  along_same at d d' e e' p p' n n' (t ∷ ts) [] long same c c' h h' = absurd (omega (arith, long))
  along_same at d d' e e' p p' n n' (t ∷ ts) (x ∷ us) long same c c' h h' =
      let q = steps_same job at d d' h.0 h'.0 t x (level d d' same) (enough n d.view c) (enough' n' d'.view c')
      h.1 h'.1 in
      let rest : Stages job (place_after t at) h'.0 us p' e' =
      subst⁻¹ (λ (y : Stage). Stages job (place_after y at) h'.0 us p' e') q.0 h'.3 in
      let fewer : length ts ≡ length us = omega (arith, long) in
      let more = along_same (place_after t at) h.0 h'.0 e e' p p' (n + tag_in t) (n' + tag_in x) ts us fewer
      (after d d' h.0 h'.0 same q.1) (on u job d h.0 at n t c h.1) (on u' job d' h'.0 at n' x c' h'.1) h.3 rest in
      (ap₂ (λ (y : Stage) (ys : List Stage). y ∷ ys) q.0 more.0, more.1, more.2)

pub one_outcome : OneOutcome
one_outcome forms paper paper' w w' far far' job answer work answer' work' as_long =
    let u = made forms paper w w' in
    let u' = made forms paper' w w' in
    let d = moment u answer work in
    let d' = moment u' answer' work' in
    let none : (v : View) → Calls v 0 v = λ v. record { events = []; run = refl; taken = refl } in
    let same : Same d d d' d' =
    record {
      view = refl;
      answer = front_none answer answer answer' answer' refl refl;
      work = front_none work work work' work' refl refl;
    } in
    let enough = more_tags forms paper w w' far in
    let enough' = more_tags forms paper' w w' far' in
    record {
      along = λ ts us p q x y long h h'. along_same u u' d d' as_long enough enough' job 0 d d' x y p q 0 0 ts
          us long same (none u) (none u') h h';
      lines = λ ts us p q x y long h h' n k x' y' s s'.
          let so = along_same u u' d d' as_long enough enough' job 0 d d' x y p q 0 0 ts us long same (none u)
          (none u') h h' in
          line_same job p x y x' y' (Tag n) (Tag k) (level u u' d d' as_long enough enough' job x y so.2)
          (enough (tags_in ts) x.view (turns_make job 0 p d x ts h).calls)
          (enough' (tags_in us) y.view (turns_make job 0 q d' y us h').calls) s
          (subst⁻¹ (λ (r : ℕ). Staged job r y (Tag k) y') so.1 s') n k refl refl;
      whole = λ ts us x y a b.
          jobs_same u u' d d' as_long enough enough' job 0 d d' a.led.before b.led.before x y a.led.place
          b.led.place 0 0 ts us a.last b.last same (none u) (none u') a.led.stages a.led.step
          a.over b.led.stages b.led.step b.over;
    }
