-- A recall does what the commands saved there do one after another.
use Rattle.std.proofs.Common.{◌≡◌, ℕ, ◌+◌, ◌≤◌, Bool, true, false, ◌&&◌, List, [], ◌∷◌, ◌++◌, map, length, is_some, Some, None, Ok, Err, Option, Result, sym, refl, ap, ◌∙◌, subst, append-nil, arith, length-append}
use mathlib.Core.Path.{subst⁻¹}
use Rattle.std.specs.Option.{option_map}
use Rattle.std.specs.List.{AllByRecursion as All}
use Rattle.limits.specs.Limits.{longest_form, longest_job}
use Rattle.texts.specs.Wheels.{Wheels}
use Rattle.jobgroups.specs.Commands.{CommandSeen}
use Rattle.label.specs.Actions.{Action}
use Rattle.label.specs.Labels.{LabelSeen, label_refusal}
use Rattle.station.specs.Reads.{read_at}
use Rattle.station.specs.Requests.{Request, on_label, recall, request_of}
use Rattle.station.specs.declared.blame.Blame.{Blame}
use Rattle.station.specs.Recalls.{acted, commands_of, done_all}
use Rattle.station.specs.Steps.{Call, command, print, reload, Performed, short_buffers, answer_bytes, work_bytes, whole_at, answered, answered_in, relabelled, recalled}
use Rattle.station.specs.Views.{ModeSeen, idle, View, with_label}
use Rattle.ledger.specs.Ledgers.{Form, filed, Ledger, action_read}
use Rattle.ledger.specs.Laws.{Event, Run, all_accepted, Asks, Sends, SendsAll, Recalls, CanSend}
use Rattle.ledger.specs.Words.{joined}
use Rattle.ledger.proofs.Readers.{Reader, Located}
use Rattle.ledger.proofs.Basics.{never, some_inj, not_none, ok_of}
use Rattle.ledger.proofs.Fields.{act_one, act_all, and_then}
use Rattle.ledger.proofs.Saved.{Saved, saved_action, read_action, actions_of_lem, label_action, acted_by, done_acts}
use Rattle.ledger.proofs.Calls.{step_ok, step_not, stepped}
use Rattle.ledger.proofs.Bond.{FormTied, Bound}

-- a call that is to make the label o came out so, from v to x
abbrev Came : Bool → Option LabelSeen → View → View → Type 0
Came true o v x = (m : LabelSeen) × (o ≡ Some m) × (x ≡ with_label m v)
Came false o v x = (o ≡ None) × (x ≡ v)

relabelled_ok : (v : View) (y : Result LabelSeen Blame)
    → ok_of (relabelled v y) ≡ option_map (λ m. with_label m v) (ok_of y)
relabelled_ok v (Ok m) = refl
relabelled_ok v (Err e) = refl

module _ (v : View) (job : List ℕ) (at answer work : ℕ) (c : CommandSeen) (reads : read_at job at ≡ Ok c)
    (long : short_buffers answer work ≡ false) where
  came : (o : Option LabelSeen)
      → ok_of (answered v (request_of c) (whole_at job at) at) ≡ option_map (λ m. with_label m v) o
      → (ok : Bool) (x : View) → Performed v (command job at answer work) ok x → Came ok o v x
  came o e true x s = go o (sym e ∙ step_ok v job at answer work c reads long x s)
    where
      go : (o : Option LabelSeen) → option_map (λ m. with_label m v) o ≡ Some x → Came true o v x
      go (Some m) e = (m, refl, sym (some_inj e))
      go None e = not_none e
  came o e false x s = (go o (sym e ∙ step_not v job at answer work c reads long x s), s.2)
    where
      go : (o : Option LabelSeen) → option_map (λ m. with_label m v) o ≡ None → o ≡ None
      go (Some m) e = not_none (sym e)
      go None e = refl

  -- a label command on an idle station
  label_ok : (a : Action) → request_of c ≡ on_label a → v.mode ≡ idle
      → ok_of (answered v (request_of c) (whole_at job at) at)
      ≡ option_map (λ m. with_label m v) (act_one v.label (Some a))
  label_ok a q i =
      ap (λ (k : Request). ok_of (answered v k (whole_at job at) at)) q
      ∙ ap (λ (d : ModeSeen). ok_of (answered_in d v (on_label a) (whole_at job at) at)) i
      ∙ relabelled_ok v (acted 0 v.label a at (label_refusal v.label a))
      ∙ ap (option_map (λ m. with_label m v)) (acted_by 0 v.label a at (label_refusal v.label a))

  -- a recall on an idle station
  recall_ok : (n : ℕ) (x : List ℕ) → request_of c ≡ recall n → v.mode ≡ idle → v.forms.at n ≡ Some x
      → ok_of (answered v (request_of c) (whole_at job at) at)
      ≡ option_map (λ m. with_label m v) (act_all v.label (map read_action (commands_of x)))
  recall_ok n x q i f =
      ap (λ (k : Request). ok_of (answered v k (whole_at job at) at)) q
      ∙ ap (λ (d : ModeSeen). ok_of (answered_in d v (recall n) (whole_at job at) at)) i
      ∙ ap (λ (o : Option (List ℕ)). ok_of (recalled v n at o)) f
      ∙ relabelled_ok v (done_all n v.label (commands_of x))
      ∙ ap (option_map (λ m. with_label m v)) (done_acts n v.label (commands_of x))

saved_action_lem : (w : List ℕ) (s : Saved w) → saved_action w ≡ Some s.action
saved_action_lem w s = ap action_read s.whole.reads ∙ label_action s.read s.action s.asks

abbrev Same : LabelSeen → List (List ℕ) → List Event → View → Type 0
Same l ws es y =
    (is_some (act_all l (map saved_action ws)) ≡ all_accepted es)
    × (all_accepted es ≡ true → act_all l (map saved_action ws) ≡ Some y.label)

still_idle : (v x : View) (ok : Bool) (o : Option LabelSeen) → v.mode ≡ idle → Came ok o v x → x.mode ≡ idle
still_idle v x true o i c = ap (λ (y : View). y.mode) c.2 ∙ i
still_idle v x false o i c = ap (λ (y : View). y.mode) c.1 ∙ i

module _ (r : Reader) where
  -- a saved command that is sent to an idle station
  sent : (v x : View) (w : List ℕ) (s : Saved w) (c : Call) → Sends w c → v.mode ≡ idle → (ok : Bool)
      → Performed v c ok x → Came ok (act_one v.label (saved_action w)) v x
  sent v x w s (command job at answer work) p i ok h =
      let there : (d : CommandSeen) × Located (p.0 ++ (w ++ p.1)) (length p.0) s.read (length w) d =
      r.located p.0 w p.1 s.read s.whole (subst (λ (j : List ℕ). length j ≤ longest_job) p.2 p.4) in
      let reads : read_at job at ≡ Ok there.0 =
      ap (λ (j : List ℕ). read_at j at) p.2 ∙ ap (λ (k : ℕ). read_at (p.0 ++ (w ++ p.1)) k) p.3 ∙ there.1.reads in
      subst⁻¹ (λ (o : Option Action). Came ok (act_one v.label o) v x) (saved_action_lem w s)
      (came v job at answer work there.0 reads p.5 (act_one v.label (Some s.action))
      (label_ok v job at answer work there.0 reads p.5 s.action (there.1.asks ∙ s.asks) i) ok x h)
  sent v x w s (print work) p i ok h = absurd p
  sent v x w s reload p i ok h = absurd p

  one_by_one : (ws : List (List ℕ)) (es : List Event) (v y : View) → All Saved ws → v.mode ≡ idle → SendsAll ws es
      → Run v es y → Same v.label ws es y
  one_by_one [] [] v y a i p h = (refl, λ _. ap (λ (z : View). Some z.label) (sym h))
  one_by_one [] (e ∷ es) v y a i p h = absurd p
  one_by_one (w ∷ ws) [] v y a i p h = absurd p
  one_by_one (w ∷ ws) (e ∷ es) v y a i p h =
      let k = sent v h.0 w a.0 e.call p.0 i e.accepted h.1 in
      go e.accepted k (one_by_one ws es h.0 y a.1
      (still_idle v h.0 e.accepted (act_one v.label (saved_action w)) i k) p.1 h.2)
    where
      go : (ok : Bool) → Came ok (act_one v.label (saved_action w)) v h.0 → Same h.0.label ws es y
          → (is_some (act_all v.label (map saved_action (w ∷ ws))) ≡ (ok && all_accepted es))
          × ((ok && all_accepted es) ≡ true → act_all v.label (map saved_action (w ∷ ws)) ≡ Some y.label)
      go true c again =
          let d : act_all v.label (map saved_action (w ∷ ws)) ≡ act_all c.0 (map saved_action ws) =
          ap (λ (o : Option LabelSeen). and_then o (λ m. act_all m (map saved_action ws))) c.1 in
          let same : Same c.0 ws es y = subst (λ (z : View). Same z.label ws es y) c.2 again in
          (ap (λ (o : Option LabelSeen). is_some o) d ∙ same.0, λ t. d ∙ same.1 t)
      go false c again =
          let d : act_all v.label (map saved_action (w ∷ ws)) ≡ None =
          ap (λ (o : Option LabelSeen). and_then o (λ m. act_all m (map saved_action ws))) c.0 in
          (ap (λ (o : Option LabelSeen). is_some o) d, λ t. never t)

  -- saved commands can be sent one after another
  one_after_another : (ws : List (List ℕ)) (v : View) → All Saved ws → length (joined ws) ≤ longest_form
      → v.mode ≡ idle → (es : List Event) × (y : View) × SendsAll ws es × Run v es y
  one_after_another [] v a short i = ([], v, tt, refl)
  one_after_another (w ∷ ws) v a short i =
      let long : length (w ++ joined ws) ≡ length w + length (joined ws) = length-append w (joined ws) in
      let c : Call = command w 0 answer_bytes work_bytes in
      let p : Sends w c = ([], [], sym (append-nil w), refl, omega (arith, long, short), refl) in
      let s = stepped v w 0 answer_bytes work_bytes a.0.read a.0.whole.reads refl in
      let k = sent v s.1 w a.0 c p i s.0 s.2 in
      let rest = one_after_another ws s.1 a.1 (omega (arith, long, short))
      (still_idle v s.1 s.0 (act_one v.label (saved_action w)) i k) in
      (record { call = c; accepted = s.0 } ∷ rest.0, rest.1, (p, rest.2), (s.1, s.2, rest.3))

  module _ (w w' : Wheels) (base : ℕ) (l : Ledger) (v : View) (h : Bound w w' base l v) (n : ℕ) (ws : List (List ℕ))
      (f : l.forms n ≡ Some (filed ws)) (i : v.mode ≡ idle) where
    tied : FormTied (v.forms.at n) (Some (filed ws))
    tied = subst (λ (o : Option Form). FormTied (v.forms.at n) o) f (h.forms n)

    recall_came : (c : Call) → Asks c (recall n) → (ok : Bool) (x : View) → Performed v c ok x
        → Came ok (act_all v.label (map saved_action ws)) v x
    recall_came (command job at answer work) q ok x s =
        subst (λ (acts : List (Option Action)). Came ok (act_all v.label acts) v x)
        (actions_of_lem r ws tied.1 (omega (arith, tied.2)))
        (came v job at answer work q.0 q.1 q.3 (act_all v.label (map read_action (commands_of (joined ws))))
        (recall_ok v job at answer work q.0 q.1 q.3 n (joined ws) q.2 i tied.0) ok x s)
    recall_came (print work) q ok x s = absurd q
    recall_came reload q ok x s = absurd q

    pub recall_law : (c : Call) → Asks c (recall n) → Recalls ws v c
    recall_law c q = λ ok x s es y p run. go x es y ok (recall_came c q ok x s) (one_by_one ws es v y tied.1 i p run)
      where
        go : (x : View) (es : List Event) (y : View) (ok : Bool)
            → Came ok (act_all v.label (map saved_action ws)) v x → Same v.label ws es y
            → (ok ≡ all_accepted es) × (ok ≡ true → x.label ≡ y.label)
        go x es y true c same =
            let all : true ≡ all_accepted es = sym (ap (λ (o : Option LabelSeen). is_some o) c.1) ∙ same.0 in
            (all, λ _. ap (λ (z : View). z.label) c.2 ∙ some_inj (sym c.1 ∙ same.1 (sym all)))
        go x es y false c same = (sym (ap (λ (o : Option LabelSeen). is_some o) c.0) ∙ same.0, λ t. never t)

    pub tried : CanSend ws v
    tried = one_after_another ws v tied.1 tied.2 i
