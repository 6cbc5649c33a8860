-- Doing a form's commands one after another: what is left to do gives what the whole form gives.
use Rattle.std.proofs.Common.{◌≡◌, ℕ, zero, suc, ◌-◌, ◌<◌, ◌≤◌, true, false, cond, ltb, List, [], ◌∷◌, length, Ok, Err, Result, sym, ap, ◌∙◌, arith}
use Rattle.std.proofs.lemmas.Bool.Decides.{nat_tests}
use Rattle.label.specs.Labels.{LabelSeen}
use Rattle.station.specs.Reads.{read_at, next_at}
use Rattle.station.specs.Recalls.{commands_from, done_all, done_one, then_done}
use Rattle.station.specs.declared.blame.Blame.{Blame}

pub record Left (n : ℕ) (form : List ℕ) (at : ℕ) (l : LabelSeen) (o : Result LabelSeen Blame) : Type 0 where
  pub turns : ℕ
  pub enough : length form - at ≤ turns
  pub gives : done_all n l (commands_from turns form at) ≡ o

turn_of : (n : ℕ) (form : List ℕ) (at : ℕ) (l : LabelSeen) (turns : ℕ) → at < length form
    → done_all n l (commands_from (suc turns) form at)
    ≡ then_done (done_one n l at (read_at form at))
    (λ m. done_all n m (commands_from turns form (next_at form at)))
turn_of n form at l turns lt =
    let yes : ltb at (length form) ≡ true = grind (arith, nat_tests) in
    ap (λ b. done_all n l (cond b
    (record { place = at; read = read_at form at } ∷ commands_from turns form (next_at form at)) [])) yes

-- a command done, with the rest of the form behind it
pub again : (n : ℕ) (form : List ℕ) (at next : ℕ) (l m : LabelSeen) (o : Result LabelSeen Blame)
    → at < length form
    → at < next → next ≡ next_at form at
    → done_one n l at (read_at form at) ≡ Ok m → Left n form at l o → Left n form next m o
again n form at next l m o lt on e h left = go left.turns left.enough left.gives
  where
    go : (turns : ℕ) → length form - at ≤ turns → done_all n l (commands_from turns form at) ≡ o → Left n form next m o
    go zero few g = absurd (omega arith)
    go (suc turns) few g =
        record {
          turns = turns;
          enough = omega arith;
          gives =
              ap (λ k. done_all n m (commands_from turns form k)) e
              ∙ ap (λ d. then_done d (λ m. done_all n m (commands_from turns form (next_at form at)))) (sym h)
              ∙ sym (turn_of n form at l turns lt)
              ∙ g;
        }

-- a command refused
pub stops : (n : ℕ) (form : List ℕ) (at : ℕ) (l : LabelSeen) (b : Blame) (o : Result LabelSeen Blame) → at < length form
    → done_one n l at (read_at form at) ≡ Err b → Left n form at l o → o ≡ Err b
stops n form at l b o lt h left = go left.turns left.enough left.gives
  where
    go : (turns : ℕ) → length form - at ≤ turns → done_all n l (commands_from turns form at) ≡ o → o ≡ Err b
    go zero few g = absurd (omega arith)
    go (suc turns) few g =
        sym g ∙ turn_of n form at l turns lt
        ∙ ap (λ d. then_done d (λ m. done_all n m (commands_from turns form (next_at form at)))) h

-- nothing is left to do
pub ended : (n : ℕ) (form : List ℕ) (at : ℕ) (l : LabelSeen) (o : Result LabelSeen Blame) → length form ≤ at
    → Left n form at l o → o ≡ Ok l
ended n form at l o le left = go left.turns left.gives
  where
    go : (turns : ℕ) → done_all n l (commands_from turns form at) ≡ o → o ≡ Ok l
    go zero g = sym g
    go (suc turns) g =
        let past : ltb at (length form) ≡ false = grind (arith, nat_tests) in
        sym g ∙ ap (λ b. done_all n l
        (cond b (record { place = at; read = read_at form at } ∷ commands_from turns form
        (next_at form at)) [])) past
