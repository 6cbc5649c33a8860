-- What the words tell, from what ledger and station agree on; and a whole run.
use Rattle.std.proofs.Common.{◌≡◌, ℕ, Bool, true, List, [], ◌∷◌, length, Some, None, Option, ap, ◌∙◌, subst, ap₂, arith}
use mathlib.Core.Path.{subst⁻¹}
use Rattle.std.specs.Prelude.{unwrap_or}
use Rattle.std.specs.Option.{option_map}
use Rattle.texts.specs.Wheels.{Wheels}
use Rattle.tagline.specs.Digits.{four_digits}
use Rattle.fields.specs.Records.{FormatSeen, FieldSeen, blank_field}
use Rattle.fields.specs.Tables.{is_field, field_of}
use Rattle.fields.specs.declared.table.FieldName.{FieldName}
use Rattle.station.specs.Steps.{Call, Performed}
use Rattle.station.specs.Views.{View, IsNew}
use Rattle.ledger.specs.Log.{call_of, answer_left, work_left, Does}
use Rattle.ledger.specs.FieldAccounts.{turned_times}
use Rattle.ledger.specs.Histories.{Deed, deed_by, since, Silent, SaidLast}
use Rattle.ledger.specs.Laws.{Event, Run, Accounted, FreeToRecall}
use Rattle.ledger.specs.Ledgers.{Form, given, filed, Ledger, opened}
use Rattle.ledger.specs.Told.{CanRecall, Searched, Told, Leads, ToldThroughout, Holds, AllTold, ToldAfter, history_after}
use Rattle.ledger.specs.Words.{Change, at_start, form_bytes, changes, new_format, format, new_text, tags_in, shown, promised, issued, saves, begins, files, lines}
use Rattle.ledger.specs.declared.log.LogEntry.{LogEntry}
use Rattle.ledger.proofs.Readers.{Reader}
use Rattle.ledger.proofs.Bond.{FormTied, Bound, tied_step}
use Rattle.ledger.proofs.Dealt.{dealt, fed_deed, place_in_issue}
use Rattle.ledger.proofs.Facts.{Facts, facts_dealt, facts_made}
use Rattle.ledger.proofs.Fitting.{step_fits}
use Rattle.ledger.proofs.LastSet.{slot_lem, no_format, turned_blank}
use Rattle.ledger.proofs.LookingBack.{found, found_none, looks_back}
use Rattle.ledger.proofs.Runs.{accounted, answered, bound_new}

-- ---- what the store has under a number
stored_so : (o : Option (List ℕ)) (f : Option Form) → FormTied o f → o ≡ option_map form_bytes f
stored_so o None t = t
stored_so o (Some (given x)) t = t
stored_so o (Some (filed ws)) t = t.0

module _ (r : Reader) (w w' : Wheels) (base : ℕ) (start : ℕ → Option Form) where
  searched : (s : List Deed) → Searched w w' start s
  searched s = record {
    promises = looks_back promised s;
    issues = looks_back issued s;
    savings = looks_back saves s;
    beginnings = looks_back begins s;
    filings = λ n. looks_back (files n) s;
    formats = λ f. looks_back (new_format f) (changes start s);
    texts = λ f. looks_back (new_text f) (changes start s);
    tag_lines = looks_back (lines w w' start) s;
  }

  module _ (l : Ledger) (s : List Deed) (u : View) (b : Bound w w' base l u) (h : Facts w w' start l s) where
    law : Accounted base l u
    law = accounted r w w' base l u b

    shown_so : (f : FieldName) → is_field f ≡ true → field_of f u.label.table ≡ shown w w' f (changes start s)
    shown_so f k = ap (field_of f) b.fields ∙ slot_lem w w' l.fields (changes start s) h.fields f k

    free : (n : ℕ) (ws : List (List ℕ)) → CanRecall start s n ws → FreeToRecall l n ws
    free n ws k = record {
      saved = h.filing.forms n ∙ k.saved_here;
      owed = h.account.owed ∙ k.nothing_owed;
      saving = h.filing.saving ∙ k.none_being_saved;
    }

    -- a field with such a format and text, behind such changes
    abbrev aged : Option FormatSeen → Option (List ℕ) → List Change → FieldSeen
    aged l t after = turned_times w w' (tags_in after) (record { format = l; text = unwrap_or t [] })

    set_last_so : (f : FieldName) → is_field f ≡ true → (t : List ℕ) (after : List Change)
        → SaidLast (new_text f) (changes start s) t after
        → field_of f u.label.table ≡ aged (format f (changes start s)) (Some t) after
    set_last_so f k t after said =
        let x = found (new_text f) (changes start s) t after said in
        shown_so f k ∙ ap₂ (aged (format f (changes start s))) x.says x.rest

    never_set_so : (f : FieldName) → is_field f ≡ true → Silent (new_text f) (changes start s) []
        → field_of f u.label.table ≡ blank_field
    never_set_so f k q =
        let all = since (new_text f) (changes start s) in
        shown_so f k
        ∙ ap₂ (λ (l : Option (Option FormatSeen)) (t : Option (List ℕ)). aged (unwrap_or l None) t all)
        (no_format f (changes start s) q) (found_none (new_text f) (changes start s) q)
        ∙ turned_blank w w' (tags_in all)

    tells : Told w w' start base s u
    tells = record {
      searched = searched s;
      balance = omega (arith, h.account.ordered, h.account.taken, h.account.owed, h.account.cancelled, b.tags);
      counted = b.ordered ∙ h.account.ordered;
      owes = law.owed ∙ h.account.owed;
      saves_now = law.saving ∙ h.filing.saving;
      taken = omega (arith, h.account.taken, b.taken);
      few = omega (arith, h.account.owed, b.few);
      told = law.told ∙ ap four_digits h.account.owed;
      answers = λ job at answer work k. answered base l u law job at answer work k ∙ ap four_digits h.account.owed;
      place = place_in_issue s;
      fields = shown_so;
      set_last = set_last_so;
      never_set = never_set_so;
      forms = λ n. stored_so (u.forms.at n) (l.forms n) (b.forms n) ∙ ap (option_map form_bytes) (h.filing.forms n);
      line = λ k. b.latest (omega (arith, k, h.account.taken)) ∙ h.account.line;
      recalls = λ n ws k. law.recalls n ws (free n ws k);
      tries = λ n ws k. law.tries n ws (free n ws k);
    }

  -- the call c keeps ledger, station and words together
  module _ (l : Ledger) (s : List Deed) (u v : View) (c : Call) (ok : Bool) (b : Bound w w' base l u)
      (h : Facts w w' start l s) (step : Performed u c ok v) where
    bound_then : Bound w w' base (dealt w w' l (deed_by c ok)) v
    bound_then =
        subst (λ (k : Ledger). Bound w w' base k v) (fed_deed w w' l c ok) (tied_step r w w' base l u v c ok b step)

    facts_then : Facts w w' start (dealt w w' l (deed_by c ok)) (deed_by c ok ∷ s)
    facts_then = facts_dealt w w' start l s (deed_by c ok) (step_fits r w w' base l u v b c ok step) h

  leads : (l : Ledger) (s : List Deed) (u x : View) (answer work answer' work' : List ℕ) (es : List LogEntry)
      → Bound w w' base l u → Facts w w' start l s
      → Does u answer work es x answer' work' → Leads (Told w w' start base) s u answer work es x answer' work'
  leads l s u x answer work answer' work' [] b h d = (tells l s u b h, d.0, d.1, d.2)
  leads l s u x answer work answer' work' (e ∷ es) b h d =
      let c = call_of (length answer) (length work) e.call in
      let after = dealt w w' l (deed_by c e.accepted) in
      let bound : Bound w w' base after d.0 = bound_then l s u d.0 c e.accepted b h d.1 in
      let facts : Facts w w' start after (deed_by c e.accepted ∷ s) = facts_then l s u d.0 c e.accepted b h d.1 in
      let answer_then = answer_left u e.call answer work in
      let work_then = work_left u e.call answer work in (
        tells l s u b h,
        (
          d.0,
          d.1,
          leads after (deed_by c e.accepted ∷ s) d.0 x answer_then work_then answer' work' es bound facts d.2,
        ),
      )

  holds : (l : Ledger) (s : List Deed) (u x : View) (es : List Event) → Bound w w' base l u → Facts w w' start l s
      → Run u es x → Holds (Told w w' start base) s u es x
  holds l s u x [] b h run = (run, tells l s u b h)
  holds l s u x (e ∷ es) b h run =
      let d = deed_by e.call e.accepted in
      let bound : Bound w w' base (dealt w w' l d) run.0 = bound_then l s u run.0 e.call e.accepted b h run.1 in
      let facts : Facts w w' start (dealt w w' l d) (d ∷ s) = facts_then l s u run.0 e.call e.accepted b h run.1 in
      (tells l s u b h, (run.0, run.1, holds (dealt w w' l d) (d ∷ s) run.0 x es bound facts run.2))

pub told_throughout : Reader → (u x : View) (answer work answer' work' : List ℕ) (es : List LogEntry) → IsNew u
    → Does u answer work es x answer' work' → ToldThroughout u answer work es x answer' work'
told_throughout r u x answer work answer' work' es new d =
    leads r u.first u.second u.paper.taken (at_start u.forms.at) (opened u.forms.at) [] u x answer work answer' work' es
    (bound_new u new) (facts_made u.first u.second u.forms.at) d

pub all_told : Reader → (u x : View) (es : List Event) → IsNew u → Run u es x → AllTold u es x
all_told r u x es new run =
    holds r u.first u.second u.paper.taken (at_start u.forms.at) (opened u.forms.at) [] u x es (bound_new u new)
    (facts_made u.first u.second u.forms.at) run

-- what holds at each moment holds at the end
at_end : (P : List Deed → View → Type 0) (s : List Deed) (u x : View) (es : List Event) → Holds P s u es x
    → P (history_after s es) x
at_end P s u x [] h = subst⁻¹ (λ (v : View). P s v) h.0 h.1
at_end P s u x (e ∷ es) h = at_end P (deed_by e.call e.accepted ∷ s) h.1.0 x es h.1.2

pub told_after : (u x : View) (es : List Event) → AllTold u es x → ToldAfter u es x
told_after u x es h = at_end (Told u.first u.second (at_start u.forms.at) u.paper.taken) [] u x es h
