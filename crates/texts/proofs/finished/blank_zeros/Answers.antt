use Rattle.std.proofs.Common.{◌≡◌, ℕ, zero, suc, ◌+◌, ◌-◌, ◌<◌, Bool, true, false, cond, eqb, List, [], ◌∷◌, ◌++◌, length, get_or, take, drop, set, sym, refl, ap, ◌∙◌, arith, rules}
use Rattle.std.proofs.lemmas.List.{append_assoc, length-take-le, set-get_or, take-append-drop, take_more_set, drop-set-lt, drop_more}
use Rattle.std.proofs.lemmas.Bool.Decides.{nat_tests}
use Rattle.texts.specs.Finishing.{blanked}
use Rattle.texts.proofs.finished.blank_zeros.Goals as goal

-- a byte that is no zero ends the run
stops : (n x : ℕ) (r : List ℕ) → eqb x 48 ≡ false → blanked n (x ∷ r) ≡ x ∷ r
stops zero x r h = refl
stops (suc n) x r h = ap (λ b. cond b (32 ∷ blanked n r) (x ∷ r)) h

-- a zero becomes a space, and the run goes on
goes : (n : ℕ) (t : List ℕ) (i : ℕ) → i < length t → i < n → get_or t i 0 ≡ 48
    → take (i + 1) (set t i 32) ++ blanked (n - (i + 1)) (drop (i + 1) (set t i 32)) ≡ take i t ++ blanked
    (n - i) (drop i t)
goes n t i lt more zero-there =
    let one : n - i ≡ suc (n - (i + 1)) = omega arith in
    let here : drop i t ≡ 48 ∷ drop (i + 1) t = drop_more t i 0 lt ∙ ap (λ x. x ∷ drop (i + 1) t) zero-there in
    let left : blanked (n - i) (drop i t) ≡ 32 ∷ blanked (n - (i + 1)) (drop (i + 1) t) =
    ap (λ k. blanked k (drop i t)) one ∙ ap (blanked (suc (n - (i + 1)))) here in
    ap (λ l. l ++ blanked (n - (i + 1)) (drop (i + 1) (set t i 32))) (take_more_set t i 32 lt)
    ∙ append_assoc (take i t) (32 ∷ []) _
    ∙ ap (λ l. take i t ++ (32 ∷ blanked (n - (i + 1)) l)) (drop-set-lt (i + 1) t i 32 (omega arith))
    ∙ ap (λ l. take i t ++ l) (sym left)

-- what lies behind the places stays
behind : (n : ℕ) (t : List ℕ) → blanked n (take n t) ++ drop n t ≡ blanked n t
behind zero t = refl
behind (suc n) [] = refl
behind (suc n) (x ∷ t) = here (eqb x 48) (behind n t)
  where
    here : (b : Bool) → blanked n (take n t) ++ drop n t ≡ blanked n t
        → cond b (32 ∷ blanked n (take n t)) (x ∷ take n t) ++ drop n t ≡ cond b (32 ∷ blanked n t) (x ∷ t)
    here true h = ap (λ l. 32 ∷ l) h
    here false h = ap (λ l. x ∷ l) (take-append-drop n t)

pub loop-b-preserved : goal.loop-b-preserved
loop-b-preserved c =
    let t = c.loop-b.b-items in
    let i = c.loop-b.b-index in
    let long = length-take-le c.args.places c.args.text.now c.requires in
    let lt : i < length t = omega arith in
    goes c.args.places t i lt (omega arith) (search rules) ∙ c.loop-b.invariant

pub returns-then-b-ne48 : goal.returns-then-b-ne48
returns-then-b-ne48 c =
    let t = c.loop-b.b-items in
    let i = c.loop-b.b-index in
    let k = c.args.places - i in
    let lt : i < length t = omega arith in
    let no : eqb (get_or t i 0) 48 ≡ false = grind (arith, nat_tests) in
    let same : blanked k (drop i t) ≡ drop i t =
    ap (blanked k) (drop_more t i 0 lt) ∙ stops k (get_or t i 0) (drop (i + 1) t) no
    ∙ sym (drop_more t i 0 lt) in
    let front = sym (sym c.loop-b.invariant ∙ ap (λ l. take i t ++ l) same ∙ take-append-drop i t) in
    ap (λ l. l ++ drop c.args.places c.args.text.now) (set-get_or t i 0 ∙ front)
    ∙ behind c.args.places c.args.text.now

pub returns : goal.returns
returns c =
    let t = c.loop-b.b-items in
    let i = c.loop-b.b-index in
    let long = length-take-le c.args.places c.args.text.now c.requires in
    let none : c.args.places - i ≡ 0 = omega arith in
    let front = sym (sym c.loop-b.invariant ∙ ap (λ k. take i t ++ blanked k (drop i t)) none
    ∙ take-append-drop i t) in
    ap (λ l. l ++ drop c.args.places c.args.text.now) front ∙ behind c.args.places c.args.text.now
