-- What was said last is what is found by looking back, and nothing was said exactly where nothing is found.
use Rattle.std.proofs.Common.{◌≡◌, List, [], ◌∷◌, ◌++◌, Some, None, Option, sym, refl, ap, ◌∙◌, append-nil}
use Rattle.std.specs.Option.{option_or, MatchOption}
use Rattle.ledger.specs.Histories.{latest, later, since, Silent, SaidLast, LooksBack}
use Rattle.ledger.proofs.Basics.{not_none}

module _ {D A : Type 0} (f : List D → D → Option A) where
  pub record Found (s : List D) (x : A) (after : List D) : Type 0 where
    pub says : latest f s ≡ Some x
    pub rest : since f s ≡ after

  found_behind : (x : A) (deed : D) (before after : List D) → f before deed ≡ Some x → Silent f after (deed ∷ before)
      → Found (after ++ deed ∷ before) x after
  found_behind x deed before [] e q = record {
    says = ap (λ (o : Option A). option_or o (latest f before)) e;
    rest = ap (λ (o : Option A). later o deed (since f before)) e;
  }
  found_behind x deed before (d ∷ ds) e q =
      let r = found_behind x deed before ds e q.1 in
      record {
        says = ap (λ (o : Option A). option_or o (latest f (ds ++ deed ∷ before))) q.0 ∙ r.says;
        rest = ap (λ (o : Option A). later o d (since f (ds ++ deed ∷ before))) q.0 ∙ ap (λ (l : List D). d ∷ l) r.rest;
      }

  pub found : (s : List D) (x : A) (after : List D) → SaidLast f s x after → Found s x after
  found s x after said =
      let r = found_behind x said.deed said.before after said.says said.silent in
      record { says = ap (latest f) said.split ∙ r.says; rest = ap (since f) said.split ∙ r.rest }

  pub said_last : (s : List D) (x : A) → latest f s ≡ Some x → SaidLast f s x (since f s)
  said_last [] x h = not_none h
  said_last (d ∷ before) x h = go (f before d) refl h (λ k. said_last before x k)
    where
      go : (o : Option A) → f before d ≡ o → option_or o (latest f before) ≡ Some x
          → (latest f before ≡ Some x → SaidLast f before x (since f before))
          → SaidLast f (d ∷ before) x (later o d (since f before))
      go (Some y) e h again = record { deed = d; before = before; split = refl; says = e ∙ h; silent = tt }
      go None e h again =
          let r = again h in
          record {
            deed = r.deed;
            before = r.before;
            split = ap (λ (l : List D). d ∷ l) r.split;
            says = r.says;
            silent = (ap (λ (l : List D). f l d) (sym r.split) ∙ e, r.silent);
          }

  pub found_none : (s : List D) → Silent f s [] → latest f s ≡ None
  found_none [] q = refl
  found_none (d ∷ before) q =
      ap (λ (o : Option A). option_or o (latest f before)) (ap (λ (l : List D). f l d) (sym (append-nil before)) ∙ q.0)
      ∙ found_none before q.1

  pub since_all : (s : List D) → Silent f s [] → since f s ≡ s
  since_all [] q = refl
  since_all (d ∷ before) q =
      ap (λ (o : Option A). later o d (since f before)) (ap (λ (l : List D). f l d) (sym (append-nil before)) ∙ q.0)
      ∙ ap (λ (l : List D). d ∷ l) (since_all before q.1)

  pub silent : (s : List D) → latest f s ≡ None → Silent f s []
  silent [] h = tt
  silent (d ∷ before) h = go (f before d) refl h (λ k. silent before k)
    where
      go : (o : Option A) → f before d ≡ o → option_or o (latest f before) ≡ None
          → (latest f before ≡ None → Silent f before []) → Silent f (d ∷ before) []
      go (Some y) e h again = not_none (sym h)
      go None e h again = (ap (λ (l : List D). f l d) (append-nil before) ∙ e, again h)

  pub looks_back : (s : List D) → LooksBack f s
  looks_back s = go (latest f s) refl
    where
      go : (o : Option A) → latest f s ≡ o → MatchOption o (Silent f s []) (λ x. SaidLast f s x (since f s))
      go None h = silent s h
      go (Some x) h = said_last s x h
