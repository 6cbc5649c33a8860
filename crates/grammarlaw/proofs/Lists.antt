-- Lists of link strings and link numbers.
use Rattle.std.proofs.Common.{◌≡◌, ℕ, zero, suc, ◌+◌, ◌<◌, Bool, true, false, cond, eqb, List, [], ◌∷◌, ◌++◌, length, Ok, Err, Result, sym, refl, ap, ◌∙◌, arith, subst}
use Rattle.std.proofs.lemmas.Bool.{cond-true, cond-false, both_ways, eqb-true}
use Rattle.std.proofs.lemmas.List.{append-nil, append_assoc, length-append}
use mathlib.Core.Logic.{◌⊎◌, inl, inr}
use Rattle.jobparts.specs.Items.{element_at, list_at}
use Rattle.jobparts.specs.Kinds.{stands}
use Rattle.jobparts.specs.Parts.{then, wrong_byte, not_admitted}
use Rattle.jobparts.specs.declared.part.List.{List as Listed}
use Rattle.jobparts.specs.declared.part.List.TheVariants.{Strings, Numbers}
use Rattle.jobparts.specs.declared.part.Wrong.{Wrong}
use Rattle.joblaw.specs.Located.{moved}
use Rattle.grammarlaw.specs.Bodies.{GoesOnAs, Breaks}
use Rattle.grammarlaw.specs.Right.{Parted, RightElement, RightList}
use Rattle.grammarlaw.specs.Written.{IsElement, IsList}
use Rattle.grammarlaw.specs.Refused.{ended, comma, RefusedElement, RefusedFurther, RefusedList}
use Rattle.joblaw.proofs.Texts.{list_moves}
use Rattle.grammarlaw.proofs.Elements.{Ends, element_only, list_breaks, stop_next, goes_stops, stands_behind, ElementCase, fits, strange, off, element_case, element_written, element_refused}
use Rattle.grammarlaw.proofs.Plain.{stands_here}

pub right_element : (list : Listed) (w : List ℕ) → IsElement list w → RightElement list w
right_element Strings w h = h.kind
right_element Numbers w h = h.digits

comma_ends : (list : Listed) (z : List ℕ) → Ends list (44 ∷ z)
comma_ends Strings z = refl
comma_ends Numbers z = tt

goes_ends : (list : Listed) (tail x : List ℕ) → GoesOnAs tail x → Ends list tail → Ends list x
goes_ends Strings tail x same h = goes_stops tail x same h
goes_ends Numbers tail x same h = tt

not_ended : (tail x : List ℕ) → 0 < length tail → GoesOnAs tail x → x ≡ [] → ⊥
not_ended [] x lt same e = omega arith
not_ended (b ∷ tail) [] lt same e = same
not_ended (b ∷ tail) (c ∷ x) lt same e = cc

-- a list that may not go on, or does not
end_here_only : (list : Listed) (mine theirs x : List ℕ) → RightElement list mine → Ends list theirs →
    0 < length theirs → GoesOnAs theirs x → RightElement list (mine ++ x) → ⊥
end_here_only list mine theirs x h ends lt same w =
    not_ended theirs x lt same
    (element_only list mine x (mine ++ x) [] h (goes_ends list theirs x same ends) w (ended refl)
    (sym (append-nil (mine ++ x))))

full_ends : (list : Listed) (mine theirs : List ℕ) → RightElement list mine → Ends list theirs →
    0 < length theirs → Breaks (RightElement list) mine theirs
full_ends list mine theirs h ends lt =
    record {
      goes = ([], subst (RightElement list) (sym (append-nil mine)) h);
      ends = λ x same w. end_here_only list mine theirs x h ends lt same w;
    }

more_ends : (list : Listed) (further : ℕ) (mine theirs x : List ℕ) → RightElement list mine →
    Ends list theirs → 0 < length theirs → ((more : List ℕ) → theirs ≡ 44 ∷ more → ⊥) →
    GoesOnAs theirs x → RightElement list (mine ++ x) ⊎
    Parted (RightElement list) (RightList list further) (mine ++ x) → ⊥
more_ends list further mine theirs x h ends lt no_more same (inl w) =
    end_here_only list mine theirs x h ends lt same w
more_ends list further mine theirs x h ends lt no_more same (inr p) =
    stop_next mine theirs x p.mine (44 ∷ p.theirs) lt no_more same (comma p.theirs refl)
    (element_only list mine x p.mine (44 ∷ p.theirs) h (goes_ends list theirs x same ends) p.first
    (comma p.theirs refl) p.whole)

list_ended : (list : Listed) (further : ℕ) (mine theirs : List ℕ) → RightElement list mine → Ends list theirs →
    ((more : List ℕ) → theirs ≡ 44 ∷ more → ⊥) → 0 < length theirs →
    Breaks (RightList list (suc further)) mine theirs
list_ended list further mine theirs h ends no_more lt =
    record {
      goes = ([], inl (subst (RightElement list) (sym (append-nil mine)) h));
      ends = λ x same w. more_ends list further mine theirs x h ends lt no_more same w;
    }

lift_ends : (list : Listed) (further : ℕ) (mine front tail x : List ℕ) → RightElement list mine →
    Breaks (RightList list further) front tail → GoesOnAs tail x →
    RightElement list (mine ++ (44 ∷ (front ++ x))) ⊎
    Parted (RightElement list) (RightList list further) (mine ++ (44 ∷ (front ++ x))) → ⊥
lift_ends list further mine front tail x h b same (inl w) =
    let e = element_only list mine (44 ∷ (front ++ x)) (mine ++ (44 ∷ (front ++ x))) [] h
    (comma_ends list (front ++ x)) w (ended refl) (sym (append-nil (mine ++ (44 ∷ (front ++ x))))) in
    cc
lift_ends list further mine front tail x h b same (inr p) =
    let e = element_only list mine (44 ∷ (front ++ x)) p.mine (44 ∷ p.theirs) h (comma_ends list (front ++ x))
    p.first (comma p.theirs refl) p.whole in
    let rest : p.theirs ≡ front ++ x = cc in
    b.ends x same (subst (RightList list further) rest p.later)

list_lift : (list : Listed) (further : ℕ) (mine front tail : List ℕ) → RightElement list mine →
    Breaks (RightList list further) front tail →
    Breaks (RightList list (suc further)) (mine ++ (44 ∷ front)) tail
list_lift list further mine front tail h b =
    record {
      goes = (
        b.goes.0,
        inr
            (record {
              mine = mine;
              theirs = front ++ b.goes.0;
              whole = append_assoc mine (44 ∷ front) b.goes.0;
              first = h;
              later = b.goes.1;
            }),
      );
      ends = λ x same w. lift_ends list further mine front tail x h b same
          (subst (RightList list (suc further)) (append_assoc mine (44 ∷ front) x) w);
    }

pub data ListCase (list : Listed) (further : ℕ) (rest : List ℕ) (r : Result ℕ Wrong) : Type 0 where
  reads : (mine theirs : List ℕ) → rest ≡ mine ++ theirs → r ≡ Ok (length mine) → IsList list further mine →
      (0 < length theirs → Breaks (RightList list further) mine theirs) → ListCase list further rest r
  breaks : (front tail : List ℕ) → rest ≡ front ++ tail → r ≡ Err (wrong_byte (length front)) →
      Breaks (RightList list further) front tail → ListCase list further rest r
  refuses : (p : ℕ) → r ≡ Err (not_admitted p) → RefusedList list further rest p → ListCase list further rest r

-- the list behind a comma
pub list_on : (list : Listed) (further : ℕ) (mine t : List ℕ) →
    list_at list further (mine ++ (44 ∷ t)) (length mine + 1) ≡ moved (λ n. (length mine + 1) + n)
    (length mine + 1) (list_at list further t 0)
list_on list further mine t =
    let one_more : length (mine ++ (44 ∷ [])) ≡ length mine + 1 = length-append mine (44 ∷ []) in
    ap (λ bs. list_at list further bs (length mine + 1)) (sym (append_assoc mine (44 ∷ []) t))
    ∙ ap (list_at list further ((mine ++ (44 ∷ [])) ++ t))
    (let e : length mine + 1 ≡ length (mine ++ (44 ∷ [])) + 0 = omega arith in e)
    ∙ list_moves list further (mine ++ (44 ∷ [])) t 0
    ∙ ap (λ m. moved (λ n. m + n) m (list_at list further t 0)) one_more

abbrev pub list_next : Listed → ℕ → List ℕ → ℕ → Result ℕ Wrong
list_next list further rest next = cond (stands (eqb 44) rest next) (list_at list further rest (next + 1)) (Ok next)

pub list_goes : (list : Listed) (further : ℕ) (rest mine t : List ℕ) → rest ≡ mine ++ (44 ∷ t) →
    element_at list rest 0 ≡ Ok (length mine) →
    list_at list (suc further) rest 0 ≡ moved (λ n. (length mine + 1) + n) (length mine + 1)
    (list_at list further t 0)
list_goes list further rest mine t cut is =
    ap (λ r. then r (list_next list further rest)) is
    ∙ ap (λ bs. list_next list further bs (length mine)) cut
    ∙ cond-true _ _ _ (stands_behind mine (44 ∷ t) ∙ stands_here (eqb 44) 44 t)
    ∙ list_on list further mine t

list_stops : (list : Listed) (further : ℕ) (rest mine theirs : List ℕ) → rest ≡ mine ++ theirs →
    element_at list rest 0 ≡ Ok (length mine) → stands (eqb 44) theirs 0 ≡ false →
    list_at list (suc further) rest 0 ≡ Ok (length mine)
list_stops list further rest mine theirs cut is bare =
    ap (λ r. then r (list_next list further rest)) is
    ∙ ap (λ bs. list_next list further bs (length mine)) cut
    ∙ cond-false _ _ _ (stands_behind mine theirs ∙ bare)

further_on : (list : Listed) (further : ℕ) (rest mine t : List ℕ) → rest ≡ mine ++ (44 ∷ t) →
    IsElement list mine → (r : Result ℕ Wrong) → (q : Result ℕ Wrong) →
    q ≡ moved (λ n. (length mine + 1) + n) (length mine + 1) r → ListCase list further t r →
    ListCase list (suc further) rest q
further_on list further rest mine t cut h r q is (reads m u same got w b) =
    reads (mine ++ (44 ∷ m)) u (cut ∙ ap (λ (x : List ℕ). mine ++ (44 ∷ x)) same ∙ sym (append_assoc mine (44 ∷ m) u))
    (is ∙ ap (moved (λ n. (length mine + 1) + n) (length mine + 1)) got
    ∙ ap (λ n. Ok n)
    (let e : (length mine + 1) + length m ≡ length (mine ++ (44 ∷ m)) =
    omega (arith, length-append mine (44 ∷ m)) in e))
    (inr (record { mine = mine; theirs = m; whole = refl; first = h; later = w }))
    (λ lt. list_lift list further mine m u (right_element list mine h) (b lt))
further_on list further rest mine t cut h r q is (breaks front tail same got b) =
    breaks (mine ++ (44 ∷ front)) tail
    (cut ∙ ap (λ (x : List ℕ). mine ++ (44 ∷ x)) same ∙ sym (append_assoc mine (44 ∷ front) tail))
    (is ∙ ap (moved (λ n. (length mine + 1) + n) (length mine + 1)) got
    ∙ ap (λ n. Err (wrong_byte n))
    (let e : (length mine + 1) + length front ≡ length (mine ++ (44 ∷ front)) =
    omega (arith, length-append mine (44 ∷ front)) in e))
    (list_lift list further mine front tail (right_element list mine h) b)
further_on list further rest mine t cut h r q is (refuses p got f) =
    refuses ((length mine + 1) + p) (is ∙ ap (moved (λ n. (length mine + 1) + n) (length mine + 1)) got)
    (inr (record { mine = mine; theirs = t; q = p; whole = cut; first = h; later = f; place = refl }))

comma_by : (list : Listed) (further : ℕ) (rest mine : List ℕ) (b : ℕ) (t : List ℕ) → rest ≡ mine ++ (b ∷ t) →
    element_at list rest 0 ≡ Ok (length mine) → IsElement list mine → Ends list (b ∷ t) →
    ListCase list further t (list_at list further t 0) → (u : Bool) → eqb 44 b ≡ u →
    ListCase list (suc further) rest (list_at list (suc further) rest 0)
comma_by list further rest mine b t cut is h ends later true e =
    let same : rest ≡ mine ++ (44 ∷ t) = cut ∙ ap (λ z. mine ++ (z ∷ t)) (sym (eqb-true 44 b e)) in
    further_on list further rest mine t same h (list_at list further t 0) _
    (list_goes list further rest mine t same is) later
comma_by list further rest mine b t cut is h ends later false e =
    reads mine (b ∷ t) cut (list_stops list further rest mine (b ∷ t) cut is (stands_here (eqb 44) b t ∙ e)) (inl h)
    (list_ended list further mine (b ∷ t) (right_element list mine h) ends
    (λ more is. let z : b ≡ 44 = cc in both_ways (eqb 44 b) e (ap (eqb 44) z)))

list_suc : (list : Listed) (further : ℕ) (rest : List ℕ) →
    ((t : List ℕ) → ListCase list further t (list_at list further t 0)) →
    ElementCase list rest (element_at list rest 0) →
    ListCase list (suc further) rest (list_at list (suc further) rest 0)
list_suc list further rest later (fits mine [] cut is h ends) =
    reads mine [] cut (list_stops list further rest mine [] cut is refl) (inl h) (λ lt. absurd (omega arith))
list_suc list further rest later (fits mine (b ∷ t) cut is h ends) =
    comma_by list further rest mine b t cut is h ends (later t) (eqb 44 b) refl
list_suc list further rest later (strange front tail cut is b) =
    breaks front tail cut (ap (λ r. then r (list_next list further rest)) is)
    (list_breaks list (suc further) front tail b)
list_suc list further rest later (off p is f) = refuses p (ap (λ r. then r (list_next list further rest)) is) (inl f)

list_zero : (list : Listed) (rest : List ℕ) → ElementCase list rest (element_at list rest 0) →
    ListCase list zero rest (list_at list zero rest 0)
list_zero list rest (fits mine theirs cut is h ends) =
    reads mine theirs cut is h (full_ends list mine theirs (right_element list mine h) ends)
list_zero list rest (strange front tail cut is b) = breaks front tail cut is (list_breaks list zero front tail b)
list_zero list rest (off p is f) = refuses p is f

pub list_case : (list : Listed) (further : ℕ) (rest : List ℕ) →
    ListCase list further rest (list_at list further rest 0)
list_case list zero rest = list_zero list rest (element_case list rest)
list_case list (suc further) rest = list_suc list further rest (list_case list further) (element_case list rest)

written_by : (list : Listed) (further : ℕ) (w : List ℕ) →
    ((t : List ℕ) → IsList list further t → list_at list further t 0 ≡ Ok (length t)) →
    IsElement list w ⊎ Parted (IsElement list) (IsList list further) w →
    list_at list (suc further) w 0 ≡ Ok (length w)
written_by list further w later (inl h) =
    list_stops list further w w [] (sym (append-nil w))
    (ap (λ bs. element_at list bs 0) (sym (append-nil w)) ∙ element_written list w [] h (ended refl)) refl
written_by list further w later (inr p) =
    list_goes list further w p.mine p.theirs p.whole
    (ap (λ bs. element_at list bs 0) p.whole
    ∙ element_written list p.mine (44 ∷ p.theirs) p.first (comma p.theirs refl))
    ∙ ap (moved (λ n. (length p.mine + 1) + n) (length p.mine + 1)) (later p.theirs p.later)
    ∙ ap (λ n. Ok n)
    (let e : (length p.mine + 1) + length p.theirs ≡ length w =
    omega (arith, ap length p.whole, length-append p.mine (44 ∷ p.theirs)) in e)

pub list_written : (list : Listed) (further : ℕ) (w : List ℕ) → IsList list further w →
    list_at list further w 0 ≡ Ok (length w)
list_written list zero w h = ap (λ bs. element_at list bs 0) (sym (append-nil w))
    ∙ element_written list w [] h (ended refl)
list_written list (suc further) w h = written_by list further w (list_written list further) h

refused_by : (list : Listed) (further : ℕ) (rest : List ℕ) (p : ℕ) →
    ((t : List ℕ) (q : ℕ) → RefusedList list further t q → list_at list further t 0 ≡ Err (not_admitted q)) →
    RefusedElement list rest p ⊎ RefusedFurther (IsElement list) (RefusedList list further) rest p →
    list_at list (suc further) rest 0 ≡ Err (not_admitted p)
refused_by list further rest p later (inl f) =
    ap (λ r. then r (list_next list further rest)) (element_refused list rest p f)
refused_by list further rest p later (inr f) =
    list_goes list further rest f.mine f.theirs f.whole
    (ap (λ bs. element_at list bs 0) f.whole
    ∙ element_written list f.mine (44 ∷ f.theirs) f.first (comma f.theirs refl))
    ∙ ap (moved (λ n. (length f.mine + 1) + n) (length f.mine + 1)) (later f.theirs f.q f.later)
    ∙ ap (λ n. Err (not_admitted n)) (sym f.place)

pub list_refused : (list : Listed) (further : ℕ) (rest : List ℕ) (p : ℕ) → RefusedList list further rest p →
    list_at list further rest 0 ≡ Err (not_admitted p)
list_refused list zero rest p f = element_refused list rest p f
list_refused list (suc further) rest p f = refused_by list further rest p (list_refused list further) f
