-- Saved commands: the form that they make one behind the other reads back as the commands themselves.
use Rattle.std.proofs.Common.{◌≡◌, ℕ, zero, suc, ◌+◌, ◌<◌, ◌≤◌, Bool, true, false, cond, ltb, List, [], ◌∷◌, ◌++◌, map, length, Some, None, Ok, Err, Option, Result, sym, refl, ap, ◌∙◌, subst, ap₂, append_assoc, append-nil, arith, length-append}
use mathlib.Core.Path.{subst⁻¹}
use Rattle.std.specs.List.{AllByRecursion as All}
use Rattle.limits.specs.Limits.{longest_job}
use Rattle.jobparts.specs.Parts.{PartSeen}
use Rattle.jobgroups.specs.Commands.{CommandSeen}
use Rattle.jobgroups.specs.declared.letters.Letters.{Letters}
use Rattle.jobgroups.specs.declared.letters.Letters.TheVariants.{OfLabel, OfStation}
use Rattle.jobgroups.specs.declared.letters.StationLetters.{StationLetters}
use Rattle.jobgroups.specs.declared.letters.StationLetters.TheVariants.{Xs, Xo, Xp, Xq, J1, Ws, Wr}
use Rattle.label.specs.Actions.{Action, action_of, action_by}
use Rattle.label.specs.Labels.{LabelSeen, label_refusal}
use Rattle.label.specs.declared.fault.LabelFault.{LabelFault}
use Rattle.station.specs.Reads.{read_at, next_at, Misread}
use Rattle.station.specs.Requests.{Request, on_label, issue, request_of, request_by, request_for}
use Rattle.station.specs.declared.blame.Blame.{Blame}
use Rattle.station.specs.Recalls.{FormCommand, commands_from, commands_of, acted, acted_on, done_one, then_done, done_all}
use Rattle.ledger.specs.Laws.{most_owed}
use Rattle.ledger.specs.Ledgers.{action_read}
use Rattle.ledger.specs.Words.{joined}
use Rattle.ledger.proofs.Readers.{Reader, Whole}
use Rattle.ledger.proofs.Basics.{ok_of}
use Rattle.std.proofs.lemmas.Bool.{le-ltb, lt-ltb}
use Rattle.ledger.proofs.Fields.{act_by, act_one, act_all, and_then}

-- w is one whole label command
pub record Saved (w : List ℕ) : Type 0 where
  pub read : CommandSeen
  pub action : Action
  pub whole : Whole w read
  pub asks : request_of read ≡ on_label action

pub joined_push : (ws : List (List ℕ)) (w : List ℕ) → joined (ws ++ w ∷ []) ≡ joined ws ++ w
joined_push [] w = append-nil w
joined_push (x ∷ ws) w = ap (λ (r : List ℕ). x ++ r) (joined_push ws w) ∙ sym (append_assoc x (joined ws) w)

-- ---- a command asks for an action exactly when it is a label command
abbrev action_in : Request → Option Action
action_in (on_label a) = Some a
action_in r = None

no_action : (k : StationLetters) (ps : List PartSeen) → None ≡ action_in (request_for k ps)
no_action Xs ps = refl
no_action Xo ps = refl
no_action Xp ps = refl
no_action Xq ps = refl
no_action J1 ps = refl
no_action Ws ps = refl
no_action Wr ps = refl

by_letters : (k : Letters) (ps : List PartSeen) → action_by k ps ≡ action_in (request_by k ps)
by_letters (OfLabel k) ps = refl
by_letters (OfStation k) ps = no_action k ps

pub same_action : (c d : CommandSeen) → request_of d ≡ request_of c → action_of d ≡ action_of c
same_action c d h = by_letters d.letters d.parts ∙ ap action_in h ∙ sym (by_letters c.letters c.parts)

pub label_action : (c : CommandSeen) (a : Action) → request_of c ≡ on_label a → action_of c ≡ Some a
label_action c a h = by_letters c.letters c.parts ∙ ap action_in h

-- ---- an issue is of at most as many labels as four digits tell
abbrev labels_in : Request → ℕ
labels_in (issue n) = n
labels_in r = 0

few_asked : (k : StationLetters) (ps : List PartSeen) → labels_in (request_for k ps) ≤ most_owed
few_asked Xs ps = omega arith
few_asked Xo ps = omega arith
few_asked Xp ps = omega arith
few_asked Xq ps = omega arith
few_asked J1 ps = omega arith
few_asked Ws ps = omega arith
few_asked Wr ps = omega arith

few_labels : (k : Letters) (ps : List PartSeen) → labels_in (request_by k ps) ≤ most_owed
few_labels (OfLabel k) ps = omega arith
few_labels (OfStation k) ps = few_asked k ps

pub issue_few : (c : CommandSeen) (n : ℕ) → request_of c ≡ issue n → n ≤ most_owed
issue_few c n h = subst (λ (q : Request). labels_in q ≤ most_owed) h (few_labels c.letters c.parts)

-- ---- the actions of a form
abbrev pub read_action : FormCommand → Option Action
read_action s = action_read s.read

abbrev pub saved_action : List ℕ → Option Action
saved_action w = action_read (read_at w 0)

stop : (turns : ℕ) (form : List ℕ) (at : ℕ) → ltb at (length form) ≡ false
    → map read_action (commands_from turns form at) ≡ []
stop zero form at h = refl
stop (suc turns) form at h =
    ap (λ (b : Bool). map read_action
    (cond b (record { place = at; read = read_at form at } ∷ commands_from turns form (next_at form at)) [])) h

go_on : (turns : ℕ) (form : List ℕ) (at : ℕ) → ltb at (length form) ≡ true
    → map read_action (commands_from (suc turns) form at)
    ≡ action_read (read_at form at) ∷ map read_action (commands_from turns form (next_at form at))
go_on turns form at h =
    ap (λ (b : Bool). map read_action
    (cond b (record { place = at; read = read_at form at } ∷ commands_from turns form (next_at form at)) [])) h

module _ (r : Reader) where
  some_bytes : (w : List ℕ) → Saved w → 0 < length w
  some_bytes w s = subst (λ (n : ℕ). 0 < n) s.whole.ends (r.cut w 0 s.read s.whole.reads).1.some

  -- where the commands stand behind some bytes
  actions_from : (ws : List (List ℕ)) → All Saved ws → (before : List ℕ) (turns : ℕ)
      → length (before ++ joined ws) ≤ longest_job → length (joined ws) ≤ turns
      → map read_action (commands_from turns (before ++ joined ws) (length before)) ≡ map saved_action ws
  actions_from [] h before turns short enough =
      stop turns (before ++ []) (length before)
      (subst⁻¹ (λ (x : List ℕ). ltb (length before) (length x) ≡ false) (append-nil before)
      (le-ltb (length before) (length before) (omega arith)))
  actions_from (w ∷ ws) h before zero short enough =
      let some = some_bytes w h.0 in let long =
      length-append w (joined ws) in absurd (let z : ⊥ = omega (arith, some, long, enough) in z)
  actions_from (w ∷ ws) h before (suc turns) short enough =
      let some : 0 < length w = some_bytes w h.0 in
      let long : length (w ++ joined ws) ≡ length w + length (joined ws) = length-append w (joined ws) in
      let all : length (before ++ (w ++ joined ws)) ≡ length before + length (w ++ joined ws) =
      length-append before (w ++ joined ws) in
      let form : List ℕ = before ++ (w ++ joined ws) in
      let there = r.located before w (joined ws) h.0.read h.0.whole short in
      let head : action_read (read_at form (length before)) ≡ saved_action w =
      ap action_read there.1.reads ∙ same_action h.0.read there.0 there.1.asks ∙ sym (ap action_read h.0.whole.reads) in
      let next : next_at form (length before) ≡ length (before ++ w) = there.1.ends ∙ sym (length-append before w) in
      let rest : map read_action (commands_from turns ((before ++ w) ++ joined ws) (length (before ++ w)))
      ≡ map saved_action ws =
      actions_from ws h.1 (before ++ w) turns
      (subst⁻¹ (λ (x : List ℕ). length x ≤ longest_job) (append_assoc before w (joined ws)) short)
      (omega (arith, some, long, enough)) in
      go_on turns form (length before) (lt-ltb (length before) (length form) (omega (arith, some, long, all)))
      ∙ ap₂ (λ (a : Option Action) (as' : List (Option Action)). a ∷ as') head
      (ap (λ (n : ℕ). map read_action (commands_from turns form n)) next
      ∙ ap (λ (x : List ℕ). map read_action (commands_from turns x (length (before ++ w))))
      (sym (append_assoc before w (joined ws)))
      ∙ rest)

  pub actions_of_lem : (ws : List (List ℕ)) → All Saved ws → length (joined ws) ≤ longest_job
      → map read_action (commands_of (joined ws)) ≡ map saved_action ws
  actions_of_lem ws h short = actions_from ws h [] (length (joined ws)) short (omega arith)

-- ---- doing the commands of a form is doing their actions in turn
pub acted_by : (n : ℕ) (l : LabelSeen) (a : Action) (at : ℕ) (o : Option LabelFault)
    → ok_of (acted n l a at o) ≡ act_by l a o
acted_by n l a at None = refl
acted_by n l a at (Some e) = refl

one_acts : (n : ℕ) (l : LabelSeen) (at : ℕ) (x : Result CommandSeen Misread)
    → ok_of (done_one n l at x) ≡ act_one l (action_read x)
one_acts n l at (Err e) = refl
one_acts n l at (Ok c) = go (action_of c)
  where
    go : (o : Option Action) → ok_of (acted_on n l at o) ≡ act_one l o
    go None = refl
    go (Some a) = acted_by n l a at (label_refusal l a)

pub done_acts : (n : ℕ) (l : LabelSeen) (cs : List FormCommand) → ok_of (done_all n l cs) ≡ act_all l (map read_action cs)
done_acts n l [] = refl
done_acts n l (c ∷ cs) =
    go (done_one n l c.place c.read) (λ m. done_acts n m cs)
    ∙ ap (λ (o : Option LabelSeen). and_then o (λ m. act_all m (map read_action cs))) (one_acts n l c.place c.read)
  where
    go : (x : Result LabelSeen Blame) → ((m : LabelSeen) → ok_of (done_all n m cs) ≡ act_all m (map read_action cs))
        → ok_of (then_done x (λ m. done_all n m cs)) ≡ and_then (ok_of x) (λ m. act_all m (map read_action cs))
    go (Ok m) again = again m
    go (Err e) again = refl
