-- Of all commands one alone can have the letters that a body begins with.
use Rattle.std.proofs.Common.{◌≡◌, ℕ, Bool, true, false, cond, eqb, List, [], ◌∷◌, ◌++◌, length, drop, Some, None, sym, refl, ap, ◌∙◌, arith, subst}
use Rattle.std.proofs.lemmas.Bool.{eqb-true, both_ways}
use Rattle.std.proofs.lemmas.List.{append_cancel_left}
use mathlib.Core.Logic.{inl, inr}
use Rattle.jobparts.specs.Kinds.{of_kind}
use Rattle.jobparts.specs.Parts.{PartSeen}
use Rattle.jobparts.specs.declared.part.ByteKind.TheVariants.{Digit}
use Rattle.jobgroups.specs.Table.{letters_of, parts_of, order, text_field}
use Rattle.jobgroups.specs.declared.letters.Letters.{Letters}
use Rattle.jobgroups.specs.declared.letters.Letters.TheVariants.{OfLabel, OfStation}
use Rattle.jobgroups.specs.declared.letters.LabelLetters.{LabelLetters}
use Rattle.jobgroups.specs.declared.letters.LabelLetters.TheVariants.{D, C, Pc, Xb, RcLinks, Rc, Rb, Lc, Xr}
use Rattle.jobgroups.specs.declared.letters.StationLetters.{StationLetters}
use Rattle.jobgroups.specs.declared.letters.StationLetters.TheVariants.{Xs, Xo, Xp, Xq, J1, Ws, Wr}
use Rattle.job.specs.Reading.{leads, first_led}
use Rattle.grammarlaw.specs.Bodies.{GoesOnAs}
use Rattle.grammarlaw.specs.Laws.{RightRow, WritesRow, RefusedRow}
use Rattle.grammarlaw.specs.Right.{Sized}

abbrev pub Parts : Type 0
Parts = List PartSeen

pub data Found (c : Letters) (v : List ℕ) : Type 0 where
  itself : first_led order (letters_of c ++ v) ≡ Some c → Found c v
  links : c ≡ OfLabel Rc → (u : List ℕ) → v ≡ 59 ∷ u →
      first_led order (letters_of c ++ v) ≡ Some (OfLabel RcLinks) → Found c v

found_rc : (b : ℕ) (u : List ℕ) (t : Bool) → eqb b 59 ≡ t → Found (OfLabel Rc) (b ∷ u)
found_rc b u true e =
    links refl u (ap (λ z. z ∷ u) (eqb-true b 59 e))
    (ap (λ t. cond (cond t true false) (Some (OfLabel RcLinks)) (Some (OfLabel Rc))) e)
found_rc b u false e = itself (ap (λ t. cond (cond t true false) (Some (OfLabel RcLinks)) (Some (OfLabel Rc))) e)

label_found : (c : LabelLetters) (v : List ℕ) → Found (OfLabel c) v
label_found D v = itself refl
label_found C v = itself refl
label_found Pc v = itself refl
label_found Xb v = itself refl
label_found RcLinks v = itself refl
label_found Rc [] = itself refl
label_found Rc (b ∷ u) = found_rc b u (eqb b 59) refl
label_found Rb v = itself refl
label_found Lc v = itself refl
label_found Xr v = itself refl

station_found : (c : StationLetters) (v : List ℕ) → Found (OfStation c) v
station_found Xs v = itself refl
station_found Xo v = itself refl
station_found Xp v = itself refl
station_found Xq v = itself refl
station_found J1 v = itself refl
station_found Ws v = itself refl
station_found Wr v = itself refl

pub found : (c : Letters) (v : List ℕ) → Found c v
found (OfLabel c) v = label_found c v
found (OfStation c) v = station_found c v

none_by : (c : Letters) (v : List ℕ) → Found c v → first_led order (letters_of c ++ v) ≡ None → ⊥
none_by c v (itself is) e = cc
none_by c v (links same u cut is) e = cc

pub none_leads : (w : List ℕ) → first_led order w ≡ None → (c : Letters) (v : List ℕ) → w ≡ letters_of c ++ v → ⊥
none_leads w e c v cut = none_by c v (found c v) (ap (first_led order) (sym cut) ∙ e)

lead_step : (t : Bool) (l : ℕ) (ls : List ℕ) (b : ℕ) (bs : List ℕ) → eqb b l ≡ t →
    cond t (leads ls bs) false ≡ true → (leads ls bs ≡ true → bs ≡ ls ++ drop (length ls) bs) →
    b ∷ bs ≡ l ∷ (ls ++ drop (length ls) bs)
lead_step true l ls b bs is e h = let first = eqb-true b l is in let rest = h e in cc
lead_step false l ls b bs is e h = absurd (cc)

leads_split : (ls bs : List ℕ) → leads ls bs ≡ true → bs ≡ ls ++ drop (length ls) bs
leads_split [] bs e = refl
leads_split (l ∷ ls) [] e = absurd (cc)
leads_split (l ∷ ls) (b ∷ bs) e = lead_step (eqb b l) l ls b bs refl e (leads_split ls bs)

first_step : (t : Bool) (d : Letters) (cs : List Letters) (bs : List ℕ) (c : Letters) →
    leads (letters_of d) bs ≡ t → cond t (Some d) (first_led cs bs) ≡ Some c →
    (first_led cs bs ≡ Some c → bs ≡ letters_of c ++ drop (length (letters_of c)) bs) →
    bs ≡ letters_of c ++ drop (length (letters_of c)) bs
first_step true d cs bs c is e h = let same : d ≡ c = cc in
    subst (λ z. bs ≡ letters_of z ++ drop (length (letters_of z)) bs) same (leads_split (letters_of d) bs is)
first_step false d cs bs c is e h = h e

pub first_split : (cs : List Letters) (bs : List ℕ) (c : Letters) → first_led cs bs ≡ Some c →
    bs ≡ letters_of c ++ drop (length (letters_of c)) bs
first_split [] bs c e = absurd (cc)
first_split (d ∷ cs) bs c e = first_step (leads (letters_of d) bs) d cs bs c refl e (first_split cs bs c)

-- a text's command goes on with a digit, so never as the links' does
no_digit : (m t u : List ℕ) → Sized Digit 3 m → 59 ∷ u ≡ m ++ t → ⊥
no_digit [] t u s e = omega (arith, s.count)
no_digit (b ∷ m) t u s e =
    let first : 59 ≡ b = cc in
    both_ways (of_kind Digit b) (ap (of_kind Digit) (sym first)) s.kind.0

right_not_links : (u : List ℕ) → RightRow (parts_of (OfLabel Rc)) (59 ∷ u) → ⊥
unfolding text_field
right_not_links u w = no_digit w.mine w.theirs u w.first w.whole

written_not_links : (u : List ℕ) → ((ss : Parts) × WritesRow (parts_of (OfLabel Rc)) ss (59 ∷ u)) → ⊥
unfolding text_field
written_not_links u w = no_digit w.1.mine w.1.theirs u w.1.first.sized w.1.bytes

refused_not_links : (u : List ℕ) (q : ℕ) → RefusedRow (parts_of (OfLabel Rc)) (59 ∷ u) q → ⊥
unfolding text_field
refused_not_links u q (inl f) = no_digit f.own f.behind u f.sized f.whole
refused_not_links u q (inr f) = no_digit f.mine f.theirs u f.first.sized f.whole

pub right_by : (P : Letters → List ℕ → Type 0) → ((u : List ℕ) → P (OfLabel Rc) (59 ∷ u) → ⊥) →
    (c : Letters) (v : List ℕ) → P c v → Found c v → first_led order (letters_of c ++ v) ≡ Some c
right_by P never c v h (itself is) = is
right_by P never c v h (links same u cut is) = absurd (never u (subst (λ d. P d (59 ∷ u)) same (subst (P c) cut h)))

pub right_leads : (c : Letters) (v : List ℕ) → RightRow (parts_of c) v → first_led order (letters_of c ++ v) ≡ Some c
right_leads c v h = right_by (λ c v. RightRow (parts_of c) v) right_not_links c v h (found c v)

pub written_leads : (c : Letters) (v : List ℕ) → ((ss : Parts) × WritesRow (parts_of c) ss v) →
    first_led order (letters_of c ++ v) ≡ Some c
written_leads c v h = right_by (λ c v. (ss : Parts) × WritesRow (parts_of c) ss v) written_not_links c v h (found c v)

pub refused_leads : (c : Letters) (v : List ℕ) → ((q : ℕ) × RefusedRow (parts_of c) v q) →
    first_led order (letters_of c ++ v) ≡ Some c
refused_leads c v h =
    right_by (λ c v. (q : ℕ) × RefusedRow (parts_of c) v q) (λ u f. refused_not_links u f.0 f.1) c v h (found c v)

-- a body that goes on alike has the same command
starts_alike : (front tail x u : List ℕ) → GoesOnAs tail x → front ++ x ≡ 59 ∷ u →
    (v : List ℕ) × (front ++ tail ≡ 59 ∷ v)
starts_alike [] [] [] u same e = absurd (cc)
starts_alike [] [] (c ∷ x) u same e = absurd same
starts_alike [] (b ∷ tail) [] u same e = absurd same
starts_alike [] (b ∷ tail) (c ∷ x) u same e = let first : c ≡ 59 = cc in (tail, ap (λ z. z ∷ tail) (sym same ∙ first))
starts_alike (d ∷ front) tail x u same e = let first : d ≡ 59 = cc in
    (front ++ tail, ap (λ z. z ∷ (front ++ tail)) first)

alike_by : (c d : Letters) (front tail x : List ℕ) → GoesOnAs tail x →
    first_led order (letters_of c ++ (front ++ tail)) ≡ Some c → Found c (front ++ x) →
    first_led order (letters_of c ++ (front ++ x)) ≡ Some d → c ≡ d
alike_by c d front tail x same led (itself is) e = cc
alike_by c d front tail x same led (links rc u cut is) e =
    let v = starts_alike front tail x u same cut in
    let here : first_led order (letters_of (OfLabel Rc) ++ (59 ∷ v.0)) ≡ Some (OfLabel Rc) =
    subst (λ z. first_led order (letters_of z ++ (59 ∷ v.0)) ≡ Some z) rc
    (ap (λ bs. first_led order (letters_of c ++ bs)) (sym v.1) ∙ led) in
    let other : Some (OfLabel RcLinks) ≡ Some (OfLabel Rc) = here in
    absurd (cc)

pub alike : (c d : Letters) (front tail x v : List ℕ) → GoesOnAs tail x →
    first_led order (letters_of c ++ (front ++ tail)) ≡ Some c →
    letters_of c ++ (front ++ x) ≡ letters_of d ++ v → RightRow (parts_of d) v → RightRow (parts_of c) (front ++ x)
alike c d front tail x v same led cut h =
    let one : c ≡ d =
    alike_by c d front tail x same led (found c (front ++ x)) (ap (first_led order) cut ∙ right_leads d v h) in
    let behind : front ++ x ≡ v =
    append_cancel_left (letters_of c) (front ++ x) v (cut ∙ ap (λ z. letters_of z ++ v) (sym one)) in
    subst (RightRow (parts_of c)) (sym behind) (subst (λ z. RightRow (parts_of z) v) (sym one) h)
