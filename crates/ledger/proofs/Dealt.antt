-- The ledger fed by what a call did, and the ledger's numbers, line and forms in words of the run's history.
use Rattle.std.proofs.Common.{◌≡◌, ℕ, ◌+◌, ◌<◌, Bool, true, false, cond, eqb, List, [], ◌∷◌, ◌++◌, Some, None, Ok, Err, Option, Result, sym, refl, ap, ◌∙◌, ap₂, arith}
use Rattle.std.specs.Prelude.{unwrap_or}
use Rattle.std.specs.Option.{option_or}
use Rattle.texts.specs.Wheels.{Wheels}
use Rattle.jobgroups.specs.Commands.{CommandSeen}
use Rattle.station.specs.Reads.{read_at, Misread}
use Rattle.station.specs.Requests.{on_label, issue, begin_saving, end_saving, recall, empty_store, tell_status, reset}
use Rattle.station.specs.Steps.{Call, command, print, reload, whole_at}
use Rattle.ledger.specs.Histories.{Deed, asked, tag, nothing, deed_of, deed_by, latest}
use Rattle.ledger.specs.Ledgers.{Form, filed, Ledger, feed, noted, label_noted, end_noted, recall_noted, read_noted, print_noted, tag_of}
use Rattle.ledger.specs.Words.{ordered, tags, owed, cancelled, size, number, saving, saved_since, filed_at, files, form_at, next_line, line_after}
use Rattle.ledger.proofs.Basics.{not_none}

-- ---- a call is noted by what it did alone
abbrev pub dealt : Wheels → Wheels → Ledger → Deed → Ledger
dealt w v l (asked q whole) = noted q whole l
dealt w v l tag = print_noted w v l
dealt w v l nothing = l

pub fed_deed : (w v : Wheels) (l : Ledger) (c : Call) (ok : Bool) → feed w v l c ok ≡ dealt w v l (deed_by c ok)
fed_deed w v l (command job at answer work) true = go (read_at job at)
  where
    go : (o : Result CommandSeen Misread) → read_noted o (whole_at job at) l ≡ dealt w v l (deed_of o (whole_at job at))
    go (Ok c) = refl
    go (Err e) = refl
fed_deed w v l (print work) true = refl
fed_deed w v l reload true = refl
fed_deed w v l (command job at answer work) false = refl
fed_deed w v l (print work) false = refl
fed_deed w v l reload false = refl

-- ---- a tag's number is its place in its issue
pub place_in_issue : (s : List Deed) → 0 < owed s → owed s + number s ≡ size s + 1
place_in_issue [] h = absurd (let z : ⊥ = omega (arith, h) in z)
place_in_issue (asked (issue n) whole ∷ before) h = omega arith
place_in_issue (asked reset whole ∷ before) h = absurd (let z : ⊥ = omega (arith, h) in z)
place_in_issue (tag ∷ before) h = let i = place_in_issue before (omega (arith, h)) in omega (arith, i, h)
place_in_issue (d ∷ before) h = place_in_issue before h

-- ---- numbers and line
pub record Account : Type 0 where
  pub ordered : ℕ
  pub taken : ℕ
  pub owed : ℕ
  pub cancelled : ℕ
  pub size : ℕ
  pub line : List ℕ

pub record SameAccount (a b : Account) : Type 0 where
  pub ordered : a.ordered ≡ b.ordered
  pub taken : a.taken ≡ b.taken
  pub owed : a.owed ≡ b.owed
  pub cancelled : a.cancelled ≡ b.cancelled
  pub size : a.size ≡ b.size
  pub line : a.line ≡ b.line

abbrev pub account_of : Ledger → Account
account_of l = record {
  ordered = l.ordered;
  taken = l.taken;
  owed = l.owed;
  cancelled = l.cancelled;
  size = l.size;
  line = l.line;
}

module _ (w v : Wheels) (start : ℕ → Option Form) where
  abbrev pub account_in : List Deed → Account
  account_in s = record {
    ordered = ordered s;
    taken = tags s;
    owed = owed s;
    cancelled = cancelled s;
    size = size s;
    line = line_after w v start s;
  }

  pub account_dealt : (l : Ledger) (s : List Deed) (d : Deed) → SameAccount (account_of l) (account_in s)
      → (d ≡ tag → tag_of w v l ≡ next_line w v start s)
      → SameAccount (account_of (dealt w v l d)) (account_in (d ∷ s))
  account_dealt l s (asked (on_label a) whole) h next = go l.saving
    where
      go : (o : Option ℕ)
          → SameAccount (account_of (label_noted o a whole l)) (account_in (asked (on_label a) whole ∷ s))
      go None = h
      go (Some n) = h
  account_dealt l s (asked (issue n) whole) h next =
      record {
        ordered = ap (λ (k : ℕ). k + n) h.ordered;
        taken = h.taken;
        owed = omega arith;
        cancelled = h.cancelled;
        size = refl;
        line = h.line;
      }
  account_dealt l s (asked (begin_saving n) whole) h next = h
  account_dealt l s (asked end_saving whole) h next = go l.saving
    where
      go : (o : Option ℕ) → SameAccount (account_of (end_noted o l)) (account_in (asked end_saving whole ∷ s))
      go None = h
      go (Some n) = h
  account_dealt l s (asked (recall n) whole) h next = go (l.forms n)
    where
      go : (o : Option Form) → SameAccount (account_of (recall_noted o l)) (account_in (asked (recall n) whole ∷ s))
      go None = h
      go (Some x) = h
  account_dealt l s (asked empty_store whole) h next = h
  account_dealt l s (asked tell_status whole) h next = h
  account_dealt l s (asked reset whole) h next =
      record {
        ordered = h.ordered;
        taken = h.taken;
        owed = omega arith;
        cancelled = ap₂ (λ (a b : ℕ). a + b) h.cancelled h.owed;
        size = h.size;
        line = h.line;
      }
  account_dealt l s tag h next =
      record {
        ordered = h.ordered;
        taken = ap (λ (k : ℕ). k + 1) h.taken;
        owed = omega (arith, h.owed);
        cancelled = h.cancelled;
        size = h.size;
        line = next refl;
      }
  account_dealt l s nothing h next = h

-- ---- forms, and the draft of the one that is being saved
pub record Filing : Type 0 where
  pub saving : Option ℕ
  pub draft : List (List ℕ)
  pub forms : ℕ → Option Form

pub record SameFiling (a b : Filing) : Type 0 where
  pub saving : a.saving ≡ b.saving
  pub draft : (n : ℕ) → a.saving ≡ Some n → a.draft ≡ b.draft
  pub forms : (n : ℕ) → a.forms n ≡ b.forms n

abbrev pub filing_of : Ledger → Filing
filing_of l = record { saving = l.saving; draft = l.draft; forms = l.forms }

module _ (w v : Wheels) (start : ℕ → Option Form) where
  abbrev pub filing_in : List Deed → Filing
  filing_in s = record { saving = saving s; draft = saved_since s; forms = λ n. form_at start n s }

  pub filing_dealt : (l : Ledger) (s : List Deed) (d : Deed) → SameFiling (filing_of l) (filing_in s)
      → SameFiling (filing_of (dealt w v l d)) (filing_in (d ∷ s))
  filing_dealt l s (asked (on_label a) whole) h = go l.saving refl
    where
      go : (o : Option ℕ) → l.saving ≡ o
          → SameFiling (filing_of (label_noted o a whole l)) (filing_in (asked (on_label a) whole ∷ s))
      go None e = record { saving = h.saving; draft = λ n k. not_none (sym e ∙ k); forms = h.forms }
      go (Some n) e =
          record {
            saving = sym e ∙ h.saving;
            draft = λ k _. ap (λ (ws : List (List ℕ)). ws ++ whole ∷ []) (h.draft n e);
            forms = h.forms;
          }
  filing_dealt l s (asked (issue n) whole) h = h
  filing_dealt l s (asked (begin_saving n) whole) h = record { saving = refl; draft = λ k e. refl; forms = h.forms }
  filing_dealt l s (asked end_saving whole) h = go l.saving refl
    where
      put : (k n : ℕ) (b : Bool)
          → cond b (Some (filed l.draft)) (l.forms k)
          ≡ unwrap_or (option_or (cond b (Some (Some (filed l.draft))) None) (latest (files k) s)) (start k)
      put k n true = refl
      put k n false = h.forms k

      go : (o : Option ℕ) → l.saving ≡ o
          → SameFiling (filing_of (end_noted o l)) (filing_in (asked end_saving whole ∷ s))
      go None e =
          record {
            saving = e;
            draft = λ n k. not_none (sym e ∙ k);
            forms = λ n. h.forms n
                ∙ ap
                (λ (o : Option ℕ). unwrap_or (option_or (filed_at n o (saved_since s)) (latest (files n) s)) (start n))
                (sym e ∙ h.saving);
          }
      go (Some n) e =
          record {
            saving = refl;
            draft = λ k z. not_none z;
            forms = λ k. put k n (eqb k n)
                ∙ ap₂
                (λ (o : Option ℕ) (ws : List (List ℕ)).
                unwrap_or (option_or (filed_at k o ws) (latest (files k) s)) (start k))
                (sym e ∙ h.saving) (h.draft n e);
          }
  filing_dealt l s (asked (recall n) whole) h = go (l.forms n)
    where
      go : (o : Option Form) → SameFiling (filing_of (recall_noted o l)) (filing_in (asked (recall n) whole ∷ s))
      go None = h
      go (Some x) = h
  filing_dealt l s (asked empty_store whole) h = record { saving = h.saving; draft = h.draft; forms = λ n. refl }
  filing_dealt l s (asked tell_status whole) h = h
  filing_dealt l s (asked reset whole) h = record { saving = refl; draft = λ n z. not_none z; forms = h.forms }
  filing_dealt l s tag h = h
  filing_dealt l s nothing h = h
