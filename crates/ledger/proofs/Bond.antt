-- How ledger and station go together, and that every call keeps it so.
use Rattle.std.proofs.Common.{◌≡◌, ℕ, ◌+◌, ◌-◌, ◌<◌, ◌≤◌, Bool, true, false, cond, eqb, leb, List, [], ◌∷◌, ◌++◌, map, length, Some, None, Ok, Err, Option, Result, sym, refl, ap, ◌∙◌, subst, ap₂, arith, length-append}
use mathlib.Core.Path.{subst⁻¹}
use Rattle.std.proofs.ByRecursion.{All-push}
use Rattle.std.specs.Option.{option_map}
use Rattle.std.specs.List.{AllByRecursion as All}
use Rattle.limits.specs.Limits.{longest_form}
use Rattle.texts.specs.Wheels.{Wheels}
use Rattle.fields.specs.Tables.{Table}
use Rattle.tagline.specs.Line.{line_of}
use Rattle.stores.specs.Forms.{Forms, put_answer, stored, emptied}
use Rattle.stores.specs.declared.answers.StoreFault.{StoreFault}
use Rattle.printers.specs.Paper.{Paper, with_tag}
use Rattle.jobgroups.specs.Commands.{CommandSeen}
use Rattle.label.specs.Actions.{Action}
use Rattle.label.specs.Labels.{LabelSeen, new_label, label_refusal, label_after, turned_label}
use Rattle.label.specs.declared.fault.LabelFault.{LabelFault}
use Rattle.station.specs.Reads.{read_at}
use Rattle.station.specs.Requests.{Request, on_label, issue, begin_saving, end_saving, recall, empty_store, tell_status, reset, request_of}
use Rattle.station.specs.declared.blame.Blame.{Blame}
use Rattle.station.specs.Recalls.{acted, commands_of, done_all}
use Rattle.station.specs.Steps.{Call, command, print, reload, Performed, whole_at, commanded, answered, answered_in, when_idle, when_saving, when_owing, relabelled, recalled, ordering, owing_all, most_ordered, drafted, refused, filed as filed_by, Printed, PrintedIn, printed, tag_line, Reloaded}
use Rattle.faults.specs.declared.Refusal.TheVariants.{TooManyOrdered, DraftFull}
use Rattle.station.specs.Views.{ModeSeen, idle, saving, owing, View, made, with_label, with_mode, with_forms as with_stored, with_ordered}
use Rattle.ledger.specs.FieldAccounts.{FieldAccounts, table_now, accounts_after, accounts_after_all}
use Rattle.ledger.specs.Ledgers.{Form, given, filed, Ledger, opened, feed, noted, label_noted, issue_noted, end_noted, recall_noted, reset_noted, read_noted, print_noted, actions_of, with_fields, with_forms, with_draft}
use Rattle.ledger.specs.Laws.{most_owed}
use Rattle.ledger.specs.Words.{joined}
use Rattle.ledger.proofs.Readers.{Reader}
use Rattle.ledger.proofs.Basics.{above_zero, ok_inj, not_ok, ok_of}
use Rattle.std.proofs.lemmas.Bool.{eqb-true, leb-false, leb-true}
use Rattle.ledger.proofs.Fields.{act_all, fields_after, fields_after_all, fields_turned, fields_new}
use Rattle.ledger.proofs.Saved.{Saved, joined_push, read_action, actions_of_lem, issue_few, done_acts}
use Rattle.ledger.proofs.Calls.{accepted_read}

-- what the store has under a number, and what the ledger has
abbrev pub FormTied : Option (List ℕ) → Option Form → Type 0
FormTied o None = o ≡ None
FormTied o (Some (given x)) = o ≡ Some x
FormTied o (Some (filed ws)) = (o ≡ Some (joined ws)) × All Saved ws × (length (joined ws) ≤ longest_form)

-- what the station is doing; and the number being saved, the draft, the labels owed and the size in the ledger
abbrev pub Ties : ModeSeen → Option ℕ → List (List ℕ) → ℕ → ℕ → Type 0
Ties idle number draft owed size = (number ≡ None) × (owed ≡ 0)
Ties (saving n d) number draft owed size =
    (number ≡ Some n) × (owed ≡ 0) × (d ≡ joined draft) × All Saved draft × (length d ≤ longest_form)
Ties (owing left all) number draft owed size = (number ≡ None) × (owed ≡ left) × (size ≡ all) × (0 < left)

pub record Bound (w w' : Wheels) (base : ℕ) (l : Ledger) (v : View) : Type 0 where
  pub first : v.first ≡ w
  pub second : v.second ≡ w'
  pub fields : v.label.table ≡ table_now w w' l.fields
  pub forms : (n : ℕ) → FormTied (v.forms.at n) (l.forms n)
  pub mode : Ties v.mode l.saving l.draft l.owed l.size
  pub ordered : v.ordered ≡ l.ordered
  pub few : l.owed ≤ most_owed
  pub most : l.ordered ≤ most_ordered
  pub tags : l.ordered ≡ l.taken + l.owed + l.cancelled
  pub taken : v.paper.taken ≡ base + l.taken
  pub latest : 0 < l.taken → v.paper.latest ≡ l.line

module _ (r : Reader) (w w' : Wheels) (base : ℕ) where
  -- ---- what changes by itself
  relabel : (l : Ledger) (v : View) (es : FieldAccounts) (m : LabelSeen) → Bound w w' base l v
      → m.table ≡ table_now w w' es → Bound w w' base (with_fields es l) (with_label m v)
  relabel l v es m h t = record {
    first = h.first;
    second = h.second;
    fields = t;
    forms = h.forms;
    mode = h.mode;
    ordered = h.ordered;
    few = h.few;
    most = h.most;
    tags = h.tags;
    taken = h.taken;
    latest = h.latest;
  }

  redo : (l : Ledger) (v : View) (d : ModeSeen) (number : Option ℕ) (draft : List (List ℕ)) → Bound w w' base l v
      → Ties d number draft l.owed l.size → Bound w w' base (with_draft number draft l) (with_mode d v)
  redo l v d number draft h t = record {
    first = h.first;
    second = h.second;
    fields = h.fields;
    forms = h.forms;
    mode = t;
    ordered = h.ordered;
    few = h.few;
    most = h.most;
    tags = h.tags;
    taken = h.taken;
    latest = h.latest;
  }

  restore : (l : Ledger) (v : View) (f : Forms) (forms : ℕ → Option Form) → Bound w w' base l v
      → ((n : ℕ) → FormTied (f.at n) (forms n)) → Bound w w' base (with_forms forms l) (with_stored f v)
  restore l v f forms h t = record {
    first = h.first;
    second = h.second;
    fields = h.fields;
    forms = t;
    mode = h.mode;
    ordered = h.ordered;
    few = h.few;
    most = h.most;
    tags = h.tags;
    taken = h.taken;
    latest = h.latest;
  }

  tied_reset : (l : Ledger) (v : View) → Bound w w' base l v
      → Bound w w' base (reset_noted l) (with_mode idle (with_label new_label v))
  tied_reset l v h = record {
    first = h.first;
    second = h.second;
    fields = fields_new w w';
    forms = h.forms;
    mode = (refl, refl);
    ordered = h.ordered;
    few = omega arith;
    most = h.most;
    tags = omega (arith, h.tags);
    taken = h.taken;
    latest = h.latest;
  }

  -- ---- an idle station
  idle_label : (l : Ledger) (v u : View) (a : Action) (whole : List ℕ) (at : ℕ) → Bound w w' base l v → l.saving ≡ None
      → relabelled v (acted 0 v.label a at (label_refusal v.label a)) ≡ Ok u
      → Bound w w' base (label_noted l.saving a whole l) u
  idle_label l v u a whole at h n e =
      subst⁻¹ (λ (o : Option ℕ). Bound w w' base (label_noted o a whole l) u) n (go (label_refusal v.label a) e)
    where
      go : (o : Option LabelFault) → relabelled v (acted 0 v.label a at o) ≡ Ok u
          → Bound w w' base (with_fields (accounts_after l.fields a) l) u
      go None e = subst (λ (y : View). Bound w w' base (with_fields (accounts_after l.fields a) l) y) (ok_inj e)
          (relabel l v (accounts_after l.fields a) (label_after v.label a) h
          (fields_after w w' v.label l.fields a h.fields))
      go (Some f) e = not_ok e

  idle_issue : (l : Ledger) (v u : View) (n at : ℕ) → n ≤ most_owed → Bound w w' base l v → l.saving ≡ None
      → l.owed ≡ 0 → ordering v n at ≡ Ok u → Bound w w' base (issue_noted n l) u
  idle_issue l v u n at few h s o e = go (leb (v.ordered + n) most_ordered) refl e
    where
      ties : (b : Bool) → eqb n 0 ≡ b → Ties (cond b idle (owing n n)) l.saving l.draft n n
      ties true z = (s, eqb-true n 0 z)
      ties false z = (s, refl, refl, above_zero n z)

      after : leb (v.ordered + n) most_ordered ≡ true
          → Bound w w' base (issue_noted n l) (with_mode (owing_all n) (with_ordered (v.ordered + n) v))
      after b = record {
        first = h.first;
        second = h.second;
        fields = h.fields;
        forms = h.forms;
        mode = ties (eqb n 0) refl;
        ordered = ap (λ (k : ℕ). k + n) h.ordered;
        few = few;
        most = omega (arith, h.ordered, leb-true (v.ordered + n) most_ordered b);
        tags = omega (arith, h.tags, o);
        taken = h.taken;
        latest = h.latest;
      }

      go : (b : Bool) → leb (v.ordered + n) most_ordered ≡ b
          → cond b (Ok (with_mode (owing_all n) (with_ordered (v.ordered + n) v))) (refused TooManyOrdered at) ≡ Ok u
          → Bound w w' base (issue_noted n l) u
      go true b e = subst (λ (y : View). Bound w w' base (issue_noted n l) y) (ok_inj e) (after b)
      go false b e = not_ok e

  -- the actions in the ledger are those of the form's commands in the store
  idle_recall : (l : Ledger) (v u : View) (n at : ℕ) → Bound w w' base l v → recalled v n at (v.forms.at n) ≡ Ok u
      → Bound w w' base (recall_noted (l.forms n) l) u
  idle_recall l v u n at h e = go (v.forms.at n) (l.forms n) (h.forms n) e
    where
      done : (f : Form) (x : List ℕ) → actions_of f ≡ map read_action (commands_of x) → (o : Result LabelSeen Blame)
          → done_all n v.label (commands_of x) ≡ o
          → relabelled v o ≡ Ok u → Bound w w' base (recall_noted (Some f) l) u
      done f x q (Ok m) d e = subst (λ (y : View). Bound w w' base (recall_noted (Some f) l) y) (ok_inj e)
          (relabel l v (accounts_after_all l.fields (actions_of f)) m h
          (fields_after_all w w' v.label m l.fields (actions_of f) h.fields
          (ap (act_all v.label) q ∙ sym (done_acts n v.label (commands_of x)) ∙ ap ok_of d)))
      done f x q (Err f') d e = not_ok e

      go : (o : Option (List ℕ)) (f : Option Form) → FormTied o f → recalled v n at o ≡ Ok u
          → Bound w w' base (recall_noted f l) u
      go o None t e = not_ok (subst (λ (k : Option (List ℕ)). recalled v n at k ≡ Ok u) t e)
      go o (Some (given x)) t e =
          done (given x) x refl (done_all n v.label (commands_of x)) refl
          (subst (λ (k : Option (List ℕ)). recalled v n at k ≡ Ok u) t e)
      go o (Some (filed ws)) t e =
          done (filed ws) (joined ws) (sym (actions_of_lem r ws t.1 (omega (arith, t.2))))
          (done_all n v.label (commands_of (joined ws))) refl
          (subst (λ (k : Option (List ℕ)). recalled v n at k ≡ Ok u) t.0 e)

  idle_request : (l : Ledger) (v u : View) (q : Request) (whole : List ℕ) (at : ℕ)
      → ((n : ℕ) → q ≡ issue n → n ≤ most_owed) → Bound w w' base l v → l.saving ≡ None → l.owed ≡ 0
      → when_idle v q at ≡ Ok u → Bound w w' base (noted q whole l) u
  idle_request l v u (on_label a) whole at few h s o e = idle_label l v u a whole at h s e
  idle_request l v u (issue n) whole at few h s o e = idle_issue l v u n at (few n refl) h s o e
  idle_request l v u (begin_saving n) whole at few h s o e =
      subst (λ (y : View). Bound w w' base (with_draft (Some n) [] l) y) (ok_inj e)
      (redo l v (saving n []) (Some n) [] h (refl, o, refl, tt, omega arith))
  idle_request l v u end_saving whole at few h s o e = not_ok e
  idle_request l v u (recall n) whole at few h s o e = idle_recall l v u n at h e
  idle_request l v u empty_store whole at few h s o e =
      subst (λ (y : View). Bound w w' base (with_forms (λ n. None) l) y) (ok_inj e)
      (restore l v (emptied v.forms) (λ n. None) h (λ n. refl))
  idle_request l v u tell_status whole at few h s o e = subst (λ (y : View). Bound w w' base l y) (ok_inj e) h
  idle_request l v u reset whole at few h s o e =
      subst (λ (y : View). Bound w w' base (reset_noted l) y) (ok_inj e) (tied_reset l v h)

  -- ---- a station that saves a form
  module _ (l : Ledger) (v u : View) (n : ℕ) (d : List ℕ) (h : Bound w w' base l v)
      (t : Ties (saving n d) l.saving l.draft l.owed l.size) where
    saving_label : (a : Action) (whole : List ℕ) (at : ℕ) → Saved whole → drafted v n d whole at ≡ Ok u
        → Bound w w' base (label_noted l.saving a whole l) u
    saving_label a whole at s e =
        subst⁻¹ (λ (o : Option ℕ). Bound w w' base (label_noted o a whole l) u) t.0
        (go (leb (length d + length whole) longest_form) refl e)
      where
        go : (b : Bool) → leb (length d + length whole) longest_form ≡ b
            → cond b (Ok (with_mode (saving n (d ++ whole)) v)) (refused DraftFull at) ≡ Ok u
            → Bound w w' base (with_draft (Some n) (l.draft ++ whole ∷ []) l) u
        go true b e = subst (λ (y : View). Bound w w' base (with_draft (Some n) (l.draft ++ whole ∷ []) l) y) (ok_inj e)
            (redo l v (saving n (d ++ whole)) (Some n) (l.draft ++ whole ∷ []) h (
              refl,
              t.1,
              ap (λ (x : List ℕ). x ++ whole) t.2 ∙ sym (joined_push l.draft whole),
              All-push Saved l.draft whole t.3 s,
              omega (arith, length-append d whole, leb-true (length d + length whole) longest_form b),
            ))
        go false b e = not_ok e

    saving_end : (at : ℕ) → filed_by v n d at (put_answer v.forms n (length d)) ≡ Ok u
        → Bound w w' base (end_noted l.saving l) u
    saving_end at e = subst⁻¹ (λ (o : Option ℕ). Bound w w' base (end_noted o l) u) t.0
        (go (put_answer v.forms n (length d)) e)
      where
        put : (k : ℕ) (b : Bool) → FormTied (cond b (Some d) (v.forms.at k)) (cond b (Some (filed l.draft)) (l.forms k))
        put k true = (ap Some t.2, t.3, subst (λ (x : List ℕ). length x ≤ longest_form) t.2 t.4)
        put k false = h.forms k

        go : (o : Result (Unit {0}) StoreFault) → filed_by v n d at o ≡ Ok u → Bound w w' base (end_noted (Some n) l) u
        go (Ok x) e = subst (λ (y : View). Bound w w' base (end_noted (Some n) l) y) (ok_inj e)
            (redo (with_forms (λ k. cond (eqb k n) (Some (filed l.draft)) (l.forms k)) l)
            (with_stored (stored v.forms n d) v) idle None []
            (restore l v (stored v.forms n d) (λ k. cond (eqb k n) (Some (filed l.draft)) (l.forms k)) h
            (λ k. put k (eqb k n)))
            (refl, t.1))
        go (Err x) e = not_ok e

    saving_request : (q : Request) (whole : List ℕ) (at : ℕ) → ((a : Action) → q ≡ on_label a → Saved whole)
        → when_saving v n d q whole at ≡ Ok u → Bound w w' base (noted q whole l) u
    saving_request (on_label a) whole at s e = saving_label a whole at (s a refl) e
    saving_request (issue k) whole at s e = not_ok e
    saving_request (begin_saving k) whole at s e = not_ok e
    saving_request end_saving whole at s e = saving_end at e
    saving_request (recall k) whole at s e = not_ok e
    saving_request empty_store whole at s e = not_ok e
    saving_request tell_status whole at s e = subst (λ (y : View). Bound w w' base l y) (ok_inj e) h
    saving_request reset whole at s e =
        subst (λ (y : View). Bound w w' base (reset_noted l) y) (ok_inj e) (tied_reset l v h)

  -- ---- a station that owes labels
  owing_request : (l : Ledger) (v u : View) (q : Request) (whole : List ℕ) (at : ℕ) → Bound w w' base l v
      → when_owing v q at ≡ Ok u → Bound w w' base (noted q whole l) u
  owing_request l v u (on_label a) whole at h e = not_ok e
  owing_request l v u (issue k) whole at h e = not_ok e
  owing_request l v u (begin_saving k) whole at h e = not_ok e
  owing_request l v u end_saving whole at h e = not_ok e
  owing_request l v u (recall k) whole at h e = not_ok e
  owing_request l v u empty_store whole at h e = not_ok e
  owing_request l v u tell_status whole at h e = subst (λ (y : View). Bound w w' base l y) (ok_inj e) h
  owing_request l v u reset whole at h e =
      subst (λ (y : View). Bound w w' base (reset_noted l) y) (ok_inj e) (tied_reset l v h)

  -- ---- the calls
  tied_request : (l : Ledger) (v u : View) (q : Request) (whole : List ℕ) (at : ℕ)
      → ((n : ℕ) → q ≡ issue n → n ≤ most_owed) → ((a : Action) → q ≡ on_label a → Saved whole) → Bound w w' base l v
      → answered v q whole at ≡ Ok u → Bound w w' base (noted q whole l) u
  tied_request l v u q whole at few s h e = go v.mode h.mode e
    where
      go : (d : ModeSeen) → Ties d l.saving l.draft l.owed l.size → answered_in d v q whole at ≡ Ok u
          → Bound w w' base (noted q whole l) u
      go idle t e = idle_request l v u q whole at few h t.0 t.1 e
      go (saving n d) t e = saving_request l v u n d h t q whole at s e
      go (owing left all) t e = owing_request l v u q whole at h e

  tied_command : (l : Ledger) (v u : View) (job : List ℕ) (at answer work next : ℕ) → Bound w w' base l v
      → commanded v job at answer work ≡ Ok (u, next)
      → Bound w w' base (read_noted (read_at job at) (whole_at job at) l) u
  tied_command l v u job at answer work next h e =
      let a = accepted_read v job at answer work u next e in
      let cut = r.cut job at a.0 a.1 in
      subst⁻¹ (λ (o : Result CommandSeen _). Bound w w' base (read_noted o (whole_at job at) l) u) a.1
      (tied_request l v u (request_of a.0) (whole_at job at) at (issue_few a.0)
      (λ x q. record { read = cut.0; action = x; whole = cut.1.whole; asks = cut.1.asks ∙ q }) h a.2)

  tied_print : (l : Ledger) (v u : View) (left size : ℕ) → Bound w w' base l v
      → Ties (owing left size) l.saving l.draft l.owed l.size → Printed v left size u
      → Bound w w' base (print_noted w w' l) u
  tied_print l v u left size h t p = subst⁻¹ (λ (y : View). Bound w w' base (print_noted w w' l) y) p.after after
    where
      ties : (b : Bool) → leb left 1 ≡ b
          → Ties (cond b idle (owing (left - 1) size)) l.saving l.draft (l.owed - 1) l.size
      ties true z = (t.0, omega (arith, t.1, leb-true left 1 z))
      ties false z = (t.0, ap (λ (k : ℕ). k - 1) t.1, t.2, omega (arith, leb-false left 1 z))

      after : Bound w w' base (print_noted w w' l)
          (printed v left size (with_tag v.paper (tag_line v left size) u.paper.left))
      after = record {
        first = h.first;
        second = h.second;
        fields = ap₂ (λ (a b : Wheels). (turned_label a b v.label).table) h.first h.second
            ∙ fields_turned w w' v.label l.fields h.fields;
        forms = h.forms;
        mode = ties (leb left 1) refl;
        ordered = h.ordered;
        few = omega (arith, h.few);
        most = h.most;
        tags = omega (arith, h.tags, t.1, t.3);
        taken = omega (arith, h.taken);
        latest = λ _. ap (λ (x : Table). line_of (size - left + 1) size x) h.fields
            ∙ ap₂ (λ (n k : ℕ). line_of (n - k + 1) n (table_now w w' l.fields)) (sym t.2) (sym t.1);
      }

  tied_printed : (l : Ledger) (v u : View) → Bound w w' base l v → PrintedIn v.mode v u
      → Bound w w' base (print_noted w w' l) u
  tied_printed l v u h p = go v.mode h.mode p
    where
      go : (d : ModeSeen) → Ties d l.saving l.draft l.owed l.size → PrintedIn d v u
          → Bound w w' base (print_noted w w' l) u
      go idle t p = absurd p
      go (saving n d) t p = absurd p
      go (owing left size) t p = tied_print l v u left size h t p

  tied_reload : (l : Ledger) (v u : View) → Bound w w' base l v → Reloaded v u → Bound w w' base l u
  tied_reload l v u h p = subst⁻¹ (λ (y : View). Bound w w' base l y) p.after (record {
    first = h.first;
    second = h.second;
    fields = h.fields;
    forms = h.forms;
    mode = h.mode;
    ordered = h.ordered;
    few = h.few;
    most = h.most;
    tags = h.tags;
    taken = h.taken;
    latest = h.latest;
  })

  -- every call keeps ledger and station together
  pub tied_step : (l : Ledger) (v u : View) (c : Call) (ok : Bool) → Bound w w' base l v → Performed v c ok u
      → Bound w w' base (feed w w' l c ok) u
  tied_step l v u (command job at answer work) true h s = tied_command l v u job at answer work s.0 h s.1
  tied_step l v u (print work) true h s = tied_printed l v u h s.1
  tied_step l v u reload true h s = tied_reload l v u h s
  tied_step l v u (command job at answer work) false h s = subst⁻¹ (λ (y : View). Bound w w' base l y) s.2 h
  tied_step l v u (print work) false h s = subst⁻¹ (λ (y : View). Bound w w' base l y) s.2 h
  tied_step l v u reload false h s = absurd s

-- a newly made station
pub tied_made : (forms : Forms) (paper : Paper) (w w' : Wheels)
    → Bound w w' paper.taken (opened forms.at) (made forms paper w w')
tied_made forms paper w w' = record {
  first = refl;
  second = refl;
  fields = fields_new w w';
  forms = λ n. kept (forms.at n);
  mode = (refl, refl);
  ordered = refl;
  few = omega arith;
  most = omega arith;
  tags = refl;
  taken = omega arith;
  latest = λ k. absurd (let z : ⊥ = omega arith in z);
}
  where
    kept : (o : Option (List ℕ)) → FormTied o (option_map given o)
    kept None = refl
    kept (Some x) = refl
