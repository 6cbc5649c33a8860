-- Ledger and words agree throughout a run.
--   Fits l d     the deed d is one that an accepted call does where the ledger is l: it names no field that there is
--                not, and for a tag a label is owed
--   Facts w v start l s   the ledger l says what the words say of the history s
use Rattle.std.proofs.Common.{◌≡◌, ℕ, ◌+◌, ◌-◌, ◌<◌, List, [], ◌∷◌, ◌++◌, Some, None, Option, sym, refl, ap, ◌∙◌, subst, ap₂, arith}
use Rattle.texts.specs.Wheels.{Wheels}
use Rattle.tagline.specs.Line.{line_of}
use Rattle.fields.specs.Tables.{Table}
use Rattle.station.specs.Requests.{on_label, issue, begin_saving, end_saving, recall, empty_store, tell_status, reset}
use Rattle.ledger.specs.FieldAccounts.{table_now}
use Rattle.ledger.specs.Histories.{Deed, asked, tag, nothing}
use Rattle.ledger.specs.Ledgers.{Form, Ledger, actions_of, opened, label_noted, end_noted, recall_noted, tag_of}
use Rattle.ledger.specs.Words.{at_start, size, number, form_at, changes, done_by, done_unless, next_line}
use Rattle.ledger.proofs.Basics.{not_none}
use Rattle.ledger.proofs.Dealt.{dealt, place_in_issue, SameAccount, account_of, account_in, account_dealt, SameFiling, filing_of, filing_in, filing_dealt}
use Rattle.ledger.proofs.LastSet.{LastSet, Names, AllName, set_by, set_in_turn, set_once_more, set_blank, set_first, table_lem}

-- ---- what an accepted call may do
abbrev pub FormFits : Option Form → Type 0
FormFits None = Unit {0}
FormFits (Some x) = AllName (actions_of x)

abbrev pub Fits : Ledger → Deed → Type 0
Fits l (asked (on_label a) whole) = l.saving ≡ None → Names a
Fits l (asked (recall n) whole) = FormFits (l.forms n)
Fits l tag = 0 < l.owed
Fits l d = Unit {0}

-- ---- what ledger and words agree on
pub record Facts (w v : Wheels) (start : ℕ → Option Form) (l : Ledger) (s : List Deed) : Type 0 where
  pub account : SameAccount (account_of l) (account_in w v start s)
  pub filing : SameFiling (filing_of l) (filing_in w v start s)
  pub fields : LastSet l.fields (changes start s)

module _ (w v : Wheels) (start : ℕ → Option Form) where
  fields_dealt : (l : Ledger) (s : List Deed) (d : Deed) → Fits l d → Facts w v start l s
      → LastSet (dealt w v l d).fields (changes start (d ∷ s))
  fields_dealt l s (asked (on_label a) whole) fits h = go l.saving refl
    where
      go : (o : Option ℕ) → l.saving ≡ o
          → LastSet (label_noted o a whole l).fields (changes start (asked (on_label a) whole ∷ s))
      go None e =
          subst (λ (o : Option ℕ). LastSet (label_noted None a whole l).fields (done_unless o a ++ changes start s))
          (sym e ∙ h.filing.saving)
          (set_by l.fields (changes start s) a h.fields (fits e))
      go (Some n) e =
          subst (λ (o : Option ℕ). LastSet (label_noted (Some n) a whole l).fields (done_unless o a ++ changes start s))
          (sym e ∙ h.filing.saving) h.fields
  fields_dealt l s (asked (issue n) whole) fits h = h.fields
  fields_dealt l s (asked (begin_saving n) whole) fits h = h.fields
  fields_dealt l s (asked end_saving whole) fits h = go l.saving
    where
      go : (o : Option ℕ) → LastSet (end_noted o l).fields (changes start (asked end_saving whole ∷ s))
      go None = h.fields
      go (Some n) = h.fields
  fields_dealt l s (asked (recall n) whole) fits h = go (l.forms n) fits (h.filing.forms n)
    where
      go : (o : Option Form) → FormFits o → o ≡ form_at start n s
          → LastSet (recall_noted o l).fields (changes start (asked (recall n) whole ∷ s))
      go None k e = subst (λ (o : Option Form). LastSet l.fields (done_by o ++ changes start s)) e h.fields
      go (Some x) k e =
          subst (λ (o : Option Form). LastSet (recall_noted (Some x) l).fields (done_by o ++ changes start s)) e
          (set_in_turn l.fields (changes start s) (actions_of x) h.fields k)
  fields_dealt l s (asked empty_store whole) fits h = h.fields
  fields_dealt l s (asked tell_status whole) fits h = h.fields
  fields_dealt l s (asked reset whole) fits h = set_blank (changes start s)
  fields_dealt l s tag fits h = set_once_more l.fields (changes start s) h.fields
  fields_dealt l s nothing fits h = h.fields

  line_lem : (l : Ledger) (s : List Deed) → 0 < l.owed → Facts w v start l s → tag_of w v l ≡ next_line w v start s
  line_lem l s due h =
      let place = place_in_issue s (omega (arith, due, h.account.owed)) in
      let n : l.size - l.owed + 1 ≡ number s = omega (arith, place, h.account.owed, h.account.size) in
      ap₂ (λ (k z : ℕ). line_of k z (table_now w v l.fields)) n h.account.size
      ∙ ap (λ (t : Table). line_of (number s) (size s) t) (table_lem w v l.fields (changes start s) h.fields)

  pub facts_dealt : (l : Ledger) (s : List Deed) (d : Deed) → Fits l d → Facts w v start l s
      → Facts w v start (dealt w v l d) (d ∷ s)
  facts_dealt l s d fits h = record {
    account = account_dealt w v start l s d h.account (λ e. line_lem l s (subst (λ (x : Deed). Fits l x) e fits) h);
    filing = filing_dealt w v start l s d h.filing;
    fields = fields_dealt l s d fits h;
  }

pub facts_made : (w v : Wheels) (forms : ℕ → Option (List ℕ)) → Facts w v (at_start forms) (opened forms) []
facts_made w v forms = record {
  account = record { ordered = refl; taken = refl; owed = refl; cancelled = refl; size = refl; line = refl };
  filing = record { saving = refl; draft = λ n e. not_none e; forms = λ n. refl };
  fields = set_first;
}
