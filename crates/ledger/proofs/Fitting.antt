-- What an accepted call does fits the ledger.
use Rattle.std.proofs.Common.{◌≡◌, ℕ, ◌<◌, Bool, true, false, cond, List, [], ◌∷◌, map, Some, None, Ok, Err, Option, Result, sym, refl, ap, ◌∙◌, subst, arith}
use mathlib.Core.Path.{subst⁻¹}
use Rattle.texts.specs.Wheels.{Wheels}
use Rattle.fields.specs.Tables.{is_field}
use Rattle.fields.specs.declared.fault.FieldFault.{FieldFault}
use Rattle.fields.specs.declared.fault.FieldFault.TheVariants.{NoFormat}
use Rattle.jobgroups.specs.Commands.{CommandSeen}
use Rattle.label.specs.Actions.{Action, set_size, clear, set_format, set_text, set_links, draw}
use Rattle.label.specs.Labels.{LabelSeen, label_refusal, label_after, from_field}
use Rattle.label.specs.declared.fault.LabelFault.{LabelFault}
use Rattle.station.specs.Reads.{Misread}
use Rattle.station.specs.Recalls.{acted, commands_of, done_all}
use Rattle.station.specs.Requests.{Request, on_label, recall, request_of}
use Rattle.station.specs.Steps.{Call, command, print, reload, Performed, whole_at, answered, answered_in, relabelled, recalled, PrintedIn}
use Rattle.station.specs.Views.{ModeSeen, idle, saving, owing, View}
use Rattle.station.specs.declared.blame.Blame.{Blame}
use Rattle.ledger.specs.Histories.{asked, deed_of, deed_by}
use Rattle.ledger.specs.Ledgers.{Form, given, filed, Ledger, actions_of}
use Rattle.ledger.specs.Words.{joined}
use Rattle.ledger.proofs.Readers.{Reader}
use Rattle.ledger.proofs.Basics.{not_none, not_ok, ok_of}
use Rattle.ledger.proofs.Fields.{act_by, act_all, and_then}
use Rattle.ledger.proofs.Saved.{read_action, actions_of_lem, done_acts}
use Rattle.ledger.proofs.Calls.{accepted_read}
use Rattle.ledger.proofs.Bond.{FormTied, Ties, Bound}
use Rattle.ledger.proofs.LastSet.{Names, AllName}
use Rattle.ledger.proofs.Facts.{FormFits, Fits}

there : (f : Bool) (x : Option FieldFault) → from_field (cond f x (Some NoFormat)) ≡ None → f ≡ true
there true x h = refl
there false x h = not_none (sym h)

named : (l : LabelSeen) (a : Action) → label_refusal l a ≡ None → Names a
named l (set_size pitch width long) h = tt
named l clear h = tt
named l (set_format name f t) h = there (is_field name) _ h
named l (set_text name t) h = there (is_field name) _ h
named l (set_links strings) h = tt
named l (draw d) h = tt

all_named : (l m : LabelSeen) (acts : List (Option Action)) → act_all l acts ≡ Some m → AllName acts
all_named l m [] e = tt
all_named l m (None ∷ rest) e = not_none e
all_named l m (Some a ∷ rest) e = go (label_refusal l a) refl e (λ k. all_named (label_after l a) m rest k)
  where
    go : (o : Option LabelFault) → label_refusal l a ≡ o → and_then (act_by l a o) (λ n. act_all n rest) ≡ Some m
        → (act_all (label_after l a) rest ≡ Some m → AllName rest)
        → AllName (Some a ∷ rest)
    go None h e again = (named l a h, again e)
    go (Some x) h e again = not_none e

module _ (r : Reader) (w w' : Wheels) (base : ℕ) (l : Ledger) (v u : View) (h : Bound w w' base l v) where
  label_fits : (a : Action) (at : ℕ) → relabelled v (acted 0 v.label a at (label_refusal v.label a)) ≡ Ok u → Names a
  label_fits a at e = go (label_refusal v.label a) refl e
    where
      go : (o : Option LabelFault) → label_refusal v.label a ≡ o → relabelled v (acted 0 v.label a at o) ≡ Ok u
          → Names a
      go None q e = named v.label a q
      go (Some f) q e = not_ok e

  recall_fits : (n at : ℕ) → recalled v n at (v.forms.at n) ≡ Ok u → FormFits (l.forms n)
  recall_fits n at e = go (v.forms.at n) (l.forms n) (h.forms n) e
    where
      done : (f : Form) (x : List ℕ) → actions_of f ≡ map read_action (commands_of x) → (o : Result LabelSeen Blame)
          → done_all n v.label (commands_of x) ≡ o
          → relabelled v o ≡ Ok u → AllName (actions_of f)
      done f x q (Ok m) d e =
          all_named v.label m (actions_of f)
          (ap (act_all v.label) q ∙ sym (done_acts n v.label (commands_of x)) ∙ ap ok_of d)
      done f x q (Err f') d e = not_ok e

      go : (o : Option (List ℕ)) (f : Option Form) → FormTied o f → recalled v n at o ≡ Ok u → FormFits f
      go o None t e = tt
      go o (Some (given x)) t e =
          done (given x) x refl (done_all n v.label (commands_of x)) refl
          (subst (λ (k : Option (List ℕ)). recalled v n at k ≡ Ok u) t e)
      go o (Some (filed ws)) t e =
          done (filed ws) (joined ws) (sym (actions_of_lem r ws t.1 (omega (arith, t.2))))
          (done_all n v.label (commands_of (joined ws))) refl
          (subst (λ (k : Option (List ℕ)). recalled v n at k ≡ Ok u) t.0 e)

  request_fits : (q : Request) (whole : List ℕ) (at : ℕ) → answered v q whole at ≡ Ok u → Fits l (asked q whole)
  request_fits q whole at e = go v.mode h.mode q e
    where
      go : (d : ModeSeen) → Ties d l.saving l.draft l.owed l.size → (q : Request) → answered_in d v q whole at ≡ Ok u
          → Fits l (asked q whole)
      go idle t (on_label a) e = λ _. label_fits a at e
      go idle t (recall n) e = recall_fits n at e
      go idle t q e = tt
      go (saving n d) t (on_label a) e = λ z. not_none (sym z ∙ t.0)
      go (saving n d) t (recall k) e = not_ok e
      go (saving n d) t q e = tt
      go (owing left all) t (on_label a) e = not_ok e
      go (owing left all) t (recall k) e = not_ok e
      go (owing left all) t q e = tt

  print_fits : PrintedIn v.mode v u → 0 < l.owed
  print_fits p = go v.mode h.mode p
    where
      go : (d : ModeSeen) → Ties d l.saving l.draft l.owed l.size → PrintedIn d v u → 0 < l.owed
      go idle t p = absurd p
      go (saving n d) t p = absurd p
      go (owing left size) t p = omega (arith, t.1, t.3)

  pub step_fits : (c : Call) (ok : Bool) → Performed v c ok u → Fits l (deed_by c ok)
  step_fits (command job at answer work) true s =
      let a = accepted_read v job at answer work u s.0 s.1 in
      subst⁻¹ (λ (o : Result CommandSeen Misread). Fits l (deed_of o (whole_at job at))) a.1
      (request_fits (request_of a.0) (whole_at job at) at a.2)
  step_fits (print work) true s = print_fits s.1
  step_fits reload true s = tt
  step_fits (command job at answer work) false s = tt
  step_fits (print work) false s = tt
  step_fits reload false s = tt
