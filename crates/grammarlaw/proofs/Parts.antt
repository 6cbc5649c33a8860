-- Bytes of one kind, at the front of a list.
use Rattle.std.proofs.Common.{◌≡◌, ℕ, zero, suc, ◌+◌, ◌<◌, ◌≤◌, Bool, true, false, leb, List, [], ◌∷◌, ◌++◌, length, take, drop, Ok, Err, Result, sym, refl, ap, ◌∙◌, arith}
use Rattle.std.proofs.lemmas.List.{append_assoc, take-append-le, take-append-drop, length-take-le}
use Rattle.std.proofs.lemmas.Bool.{leb-true, leb-false, le-leb, cond-true, cond-false}
use Rattle.jobparts.specs.Items.{part_at}
use Rattle.jobparts.specs.Kinds.{of_kind, run}
use Rattle.jobparts.specs.Parts.{given, Got, wrong_byte}
use Rattle.jobparts.specs.declared.part.ByteKind.{ByteKind}
use Rattle.jobparts.specs.declared.part.Wrong.{Wrong}
use Rattle.grammarlaw.specs.Right.{AllOf, Sized}

-- no further byte of the kind
abbrev pub Stops : ByteKind → List ℕ → Type 0
Stops k [] = Unit {0}
Stops k (b ∷ bs) = of_kind k b ≡ false

pub record Runs (k : ByteKind) (bs : List ℕ) : Type 0 where
  pub front : List ℕ
  pub tail : List ℕ
  pub whole : bs ≡ front ++ tail
  pub kind : AllOf k front
  pub stops : Stops k tail
  pub count : run k bs ≡ length front

run_step : (k : ByteKind) (b : ℕ) (bs : List ℕ) (t : Bool) → of_kind k b ≡ t → Runs k bs → Runs k (b ∷ bs)
run_step k b bs true e r =
    record {
      front = b ∷ r.front;
      tail = r.tail;
      whole = ap (λ (x : List ℕ). b ∷ x) r.whole;
      kind = (e, r.kind);
      stops = r.stops;
      count = cond-true _ (1 + run k bs) 0 e ∙ omega (arith, r.count);
    }
run_step k b bs false e r =
    record { front = []; tail = b ∷ bs; whole = refl; kind = tt; stops = e; count = cond-false _ (1 + run k bs) 0 e }

pub runs : (k : ByteKind) (bs : List ℕ) → Runs k bs
runs k [] = record { front = []; tail = []; whole = refl; kind = tt; stops = tt; count = refl }
runs k (b ∷ bs) = run_step k b bs (of_kind k b) refl (runs k bs)

pub all_take : (k : ByteKind) (n : ℕ) (bs : List ℕ) → AllOf k bs → AllOf k (take n bs)
all_take k zero bs h = tt
all_take k (suc n) [] h = tt
all_take k (suc n) (b ∷ bs) h = (h.0, all_take k n bs h.1)

pub run_ge : (k : ByteKind) (own theirs : List ℕ) → AllOf k own → length own ≤ run k (own ++ theirs)
run_ge k [] theirs h = omega arith
run_ge k (b ∷ own) theirs h =
    let more = run_ge k own theirs h.1 in
    omega (arith, cond-true (of_kind k b) (1 + run k (own ++ theirs)) 0 h.0)

pub run_exact : (k : ByteKind) (own theirs : List ℕ) → AllOf k own → Stops k theirs → run k (own ++ theirs) ≡ length own
run_exact k [] [] h s = refl
run_exact k [] (b ∷ bs) h s = cond-false _ (1 + run k bs) 0 s
run_exact k (b ∷ own) theirs h s =
    cond-true _ (1 + run k (own ++ theirs)) 0 h.0 ∙ omega (arith, run_exact k own theirs h.1 s)

pub data PartCase (k : ByteKind) (n : ℕ) (bs : List ℕ) (at : ℕ) (r : Result Got Wrong) : Type 0 where
  whole : (own theirs : List ℕ) → bs ≡ own ++ theirs → Sized k n own → r ≡ Ok (given at own ∷ [], at + n) →
      PartCase k n bs at r
  short :
      (front tail : List ℕ) → bs ≡ front ++ tail → AllOf k front → length front < n → Stops k tail →
      r ≡ Err (wrong_byte (at + length front)) → PartCase k n bs at r

part_by : (k : ByteKind) (n : ℕ) (body : List ℕ) (at : ℕ) (t : Bool) → leb n (run k (drop at body)) ≡ t →
    Runs k (drop at body) →
    PartCase k n (drop at body) at (part_at k n body at)
unfolding part_at
part_by k n body at true e r =
    let enough : n ≤ length r.front = omega (arith, leb-true _ _ e, r.count) in
    let cut : take n (drop at body) ≡ take n r.front = ap (take n) r.whole ∙ take-append-le n r.front r.tail enough in
    whole (take n r.front) (drop n r.front ++ r.tail)
    (r.whole ∙ ap (λ x. x ++ r.tail) (sym (take-append-drop n r.front))
    ∙ append_assoc (take n r.front) (drop n r.front) r.tail)
    (record { count = length-take-le n r.front enough; kind = all_take k n r.front r.kind })
    (cond-true _ _ _ e ∙ ap (λ bs. Ok (given at bs ∷ [], at + n)) cut)
part_by k n body at false e r =
    short r.front r.tail r.whole r.kind (omega (arith, leb-false _ _ e, r.count)) r.stops
    (cond-false _ _ _ e ∙ ap (λ m. Err (wrong_byte (at + m))) r.count)

pub part_case : (k : ByteKind) (n : ℕ) (body : List ℕ) (at : ℕ) → PartCase k n (drop at body) at (part_at k n body at)
part_case k n body at = part_by k n body at (leb n (run k (drop at body))) refl (runs k (drop at body))

pub take_own : (own theirs : List ℕ) (n : ℕ) → length own ≡ n → take n (own ++ theirs) ≡ own
take_own [] theirs n e = ap (λ m. take m theirs) (sym e)
take_own (b ∷ own) theirs n e = ap (λ m. take m (b ∷ own ++ theirs)) (sym e)
    ∙ ap (λ (x : List ℕ). b ∷ x) (take_own own theirs (length own) refl)

pub part_written : (k : ByteKind) (n : ℕ) (body : List ℕ) (at : ℕ) (own theirs : List ℕ) →
    drop at body ≡ own ++ theirs → Sized k n own →
    part_at k n body at ≡ Ok (given at own ∷ [], at + n)
unfolding part_at
part_written k n body at own theirs e s =
    let enough : n ≤ run k (drop at body) = omega (arith, run_ge k own theirs s.kind, ap (run k) e, s.count) in
    cond-true _ _ _ (le-leb n (run k (drop at body)) enough)
    ∙ ap (λ bs. Ok (given at bs ∷ [], at + n)) (ap (take n) e ∙ take_own own theirs n s.count)
