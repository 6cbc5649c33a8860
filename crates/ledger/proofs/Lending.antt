-- What the calls of a run leave in its buffers.
use Rattle.std.proofs.Common.{◌≡◌, ℕ, ◌+◌, ◌<◌, ◌≤◌, Bool, List, [], ◌∷◌, ◌++◌, length, get_or, take, set, sym, refl, ap, ◌∙◌, subst, ap₂}
use Rattle.std.proofs.lemmas.List.{take_more_set, take_all}
use Rattle.station.specs.Steps.{Performed}
use Rattle.station.specs.Views.{View}
use Rattle.ledger.specs.Log.{call_of, answer_left, work_left, Does}
use Rattle.ledger.specs.declared.log.LogEntry.{LogEntry}

abbrev pub noted : LogEntry → Bool → LogEntry
noted e ok = record e { accepted = ok }

-- ---- one call more
does_more : (u v x : View) (answer work a w : List ℕ) (es : List LogEntry) (e : LogEntry) →
    Does u answer work es v a w → Performed v (call_of (length a) (length w) e.call) e.accepted x
    → Does u answer work (es ++ e ∷ []) x (answer_left v e.call a w) (work_left v e.call a w)
does_more u v x answer work a w [] e d s =
    let at_start : (y : View) (b z : List ℕ) → y ≡ v → b ≡ a → z ≡ w →
    Does y b z (e ∷ []) x (answer_left v e.call a w) (work_left v e.call a w) =
    λ y b z p q r. (
      x,
      subst (λ (k : View). Performed k (call_of (length b) (length z) e.call) e.accepted x) (sym p)
          (subst (λ (k : List ℕ). Performed v (call_of (length k) (length z) e.call) e.accepted x) (sym q)
          (subst (λ (k : List ℕ). Performed v (call_of (length a) (length k) e.call) e.accepted x) (sym r) s)),
      (
        refl,
        ap (λ (k : View). answer_left k e.call a w) (sym p)
            ∙ ap₂ (λ (k m : List ℕ). answer_left y e.call k m) (sym q) (sym r),
        ap (λ (k : View). work_left k e.call a w) (sym p)
            ∙ ap₂ (λ (k m : List ℕ). work_left y e.call k m) (sym q) (sym r),
      ),
    ) in
    at_start u answer work (sym d.0) (sym d.1) (sym d.2)
does_more u v x answer work a w (f ∷ es) e d s = (d.0, d.1, does_more d.0 v x _ _ a w es e d.2 s)

pub does_next : (u v x : View) (answer work a w b z : List ℕ) (log : List LogEntry) (i : ℕ) (n : LogEntry)
    (ok : Bool) → i < length log
    → Does u answer work (take i log) v a w → Performed v (call_of (length a) (length w) (get_or log i n).call) ok x
    → b ≡ answer_left v (get_or log i n).call a w → z ≡ work_left v (get_or log i n).call a w
    → Does u answer work (take (i + 1) (set log i (noted (get_or log i n) ok))) x b z
does_next u v x answer work a w b z log i n ok lt d s p q =
    let e = noted (get_or log i n) ok in
    subst (λ (es : List LogEntry). Does u answer work es x b z) (sym (take_more_set log i e lt))
    (subst (λ (k : List ℕ). Does u answer work (take i log ++ e ∷ []) x k z) (sym p)
    (subst (λ (k : List ℕ). Does u answer work (take i log ++ e ∷ []) x (answer_left v e.call a w) k) (sym q)
    (does_more u v x answer work a w (take i log) e d s)))

pub does_whole : (u f x : View) (answer work a w : List ℕ) (log : List LogEntry) (i : ℕ) → u ≡ f →
    length log ≤ i → Does u answer work (take i log) x a w → Does f answer work log x a w
does_whole u f x answer work a w log i e h d =
    subst (λ (z : View). Does z answer work log x a w) e
    (subst (λ (es : List LogEntry). Does u answer work es x a w) (take_all i log h) d)
