-- Link strings and link numbers: where one ends, and where one breaks.
use Rattle.std.proofs.Common.{◌≡◌, ℕ, zero, suc, ◌+◌, ◌-◌, ◌<◌, Bool, true, false, cond, eqb, leb, List, [], ◌∷◌, ◌++◌, length, replicate, Ok, Err, Result, sym, refl, ap, ◌∙◌, arith, subst, add-zero}
use Rattle.std.proofs.lemmas.Bool.{leb-true, leb-false, le-leb, lt-leb, cond-true, cond-false, both_ways, eqb-true, cases_order}
use Rattle.std.proofs.lemmas.List.{append-nil, length-append, length-replicate}
use mathlib.Core.Logic.{◌⊎◌, inl, inr}
use Rattle.limits.specs.Bytes.{between}
use Rattle.limits.specs.Limits.{longest_text, last_link}
use Rattle.jobparts.specs.Items.{admitted_at, part_at, own, number_at, stopped_at, string_at, link_at, element_at}
use Rattle.jobparts.specs.Kinds.{of_kind, run, stands}
use Rattle.jobparts.specs.Parts.{given, Got, then, wrong_byte, not_admitted}
use Rattle.jobparts.specs.Values.{number_of}
use Rattle.jobparts.specs.declared.part.ByteKind.TheVariants.{Digit, Text}
use Rattle.jobparts.specs.declared.part.List.{List as Listed}
use Rattle.jobparts.specs.declared.part.List.TheVariants.{Strings, Numbers}
use Rattle.jobparts.specs.declared.part.Wrong.{Wrong}
use Rattle.grammarlaw.specs.Bodies.{GoesOnAs, Breaks}
use Rattle.grammarlaw.specs.Right.{AllOf, Sized, RightElement, RightList}
use Rattle.grammarlaw.specs.Written.{IsElement}
use Rattle.grammarlaw.specs.Refused.{Stopped, ended, comma, RefusedElement}
use Rattle.joblaw.proofs.Leaves.{stands_moved}
use Rattle.grammarlaw.proofs.Parts.{runs, Stops, run_exact, PartCase, whole, short, part_case, part_written}
use Rattle.grammarlaw.proofs.Breaking.{same_front, kind_ends, all_append, samples, sample}
use Rattle.grammarlaw.proofs.Plain.{stands_here, zero_on}
use Rattle.grammarlaw.proofs.Whole.{end_here, end_not}

-- what ends an element
abbrev pub Ends : Listed → List ℕ → Type 0
Ends Strings z = Stops Text z
Ends Numbers z = Unit {0}

stopped_ends : (t : List ℕ) → Stopped t → Stops Text t
stopped_ends t (ended e) = subst (Stops Text) (sym e) tt
stopped_ends t (comma more e) = subst (Stops Text) (sym e) refl

pub goes_as_itself : (z : List ℕ) → GoesOnAs z z
goes_as_itself [] = tt
goes_as_itself (b ∷ z) = refl

-- of one list of bytes, one element alone is the front
string_only_by : (mine z m t : List ℕ) → AllOf Text mine → Stops Text z → AllOf Text m → Stops Text t →
    mine ++ z ≡ m ++ t →
    ((length mine ≡ length m) ⊎ ((length mine < length m) ⊎ (length m < length mine))) → z ≡ t
string_only_by mine z m t h s h' s' e (inl same) = (same_front mine z m t same e).1
string_only_by mine z m t h s h' s' e (inr (inl lt)) =
    absurd (kind_ends Text mine z z m t (goes_as_itself z) s h' lt e)
string_only_by mine z m t h s h' s' e (inr (inr lt)) =
    absurd (kind_ends Text m t t mine z (goes_as_itself t) s' h lt (sym e))

pub element_only : (list : Listed) (mine z m t : List ℕ) → RightElement list mine → Ends list z →
    RightElement list m → Stopped t → mine ++ z ≡ m ++ t → z ≡ t
element_only Strings mine z m t h s h' s' e =
    string_only_by mine z m t h s h' (stopped_ends t s') e (cases_order (length mine) (length m))
element_only Numbers mine z m t h s h' s' e = (same_front mine z m t (h.count ∙ sym h'.count) e).1

-- no element, nor one with a comma behind it, goes on as the bytes do
pub record ElementBreaks (list : Listed) (front tail : List ℕ) : Type 0 where
  pub goes : (w : List ℕ) × RightElement list (front ++ w)
  pub ends : (x m t : List ℕ) → GoesOnAs tail x → RightElement list m → Stopped t → front ++ x ≡ m ++ t → ⊥

list_ends : (list : Listed) (further : ℕ) (front tail x : List ℕ) → ElementBreaks list front tail →
    GoesOnAs tail x → RightList list further (front ++ x) → ⊥
list_ends list zero front tail x b same w =
    b.ends x (front ++ x) [] same w (ended refl) (sym (append-nil (front ++ x)))
list_ends list (suc further) front tail x b same (inl w) =
    b.ends x (front ++ x) [] same w (ended refl) (sym (append-nil (front ++ x)))
list_ends list (suc further) front tail x b same (inr p) =
    b.ends x p.mine (44 ∷ p.theirs) same p.first (comma p.theirs refl) p.whole

pub as_list : (list : Listed) (further : ℕ) (w : List ℕ) → RightElement list w → RightList list further w
as_list list zero w h = h
as_list list (suc further) w h = inl h

pub list_breaks : (list : Listed) (further : ℕ) (front tail : List ℕ) → ElementBreaks list front tail →
    Breaks (RightList list further) front tail
list_breaks list further front tail b =
    record {
      goes = (b.goes.0, as_list list further (front ++ b.goes.0) b.goes.1);
      ends = λ x same w. list_ends list further front tail x b same w;
    }

-- strings that break: a byte stands there that is no text byte and no comma
pub stop_next : (front tail x m t : List ℕ) → 0 < length tail → ((more : List ℕ) → tail ≡ 44 ∷ more → ⊥) →
    GoesOnAs tail x → Stopped t → x ≡ t → ⊥
stop_next front [] x m t lt no_more same s e = omega arith
stop_next front (b ∷ tail) [] m t lt no_more same s e = same
stop_next front (b ∷ tail) (c ∷ x) m t lt no_more same (ended is) e = let h : c ∷ x ≡ [] = e ∙ is in cc
stop_next front (b ∷ tail) (c ∷ x) m t lt no_more same (comma more is) e =
    let h : c ∷ x ≡ 44 ∷ more = e ∙ is in
    let first : c ≡ 44 = cc in
    no_more tail (ap (λ z. z ∷ tail) (sym same ∙ first))

pub goes_stops : (tail x : List ℕ) → GoesOnAs tail x → Stops Text tail → Stops Text x
goes_stops [] [] same s = tt
goes_stops [] (c ∷ x) same s = absurd same
goes_stops (b ∷ tail) [] same s = absurd same
goes_stops (b ∷ tail) (c ∷ x) same s = ap (of_kind Text) same ∙ s

string_breaks : (front tail : List ℕ) → AllOf Text front → Stops Text tail → 0 < length tail →
    ((more : List ℕ) → tail ≡ 44 ∷ more → ⊥) → ElementBreaks Strings front tail
string_breaks front tail h s lt no_more =
    record {
      goes = ([], subst (AllOf Text) (sym (append-nil front)) h);
      ends = λ x m t same h' st e. stop_next front tail x m t lt no_more same st
          (element_only Strings front x m t h (goes_stops tail x same s) h' st e);
    }

number_breaks : (front tail : List ℕ) → AllOf Digit front → length front < 2 → Stops Digit tail →
    ElementBreaks Numbers front tail
number_breaks front tail h lt s =
    record {
      goes = (
        replicate (2 - length front) (sample Digit),
        record {
          count = length-append front _
              ∙ ap (λ n. length front + n) (length-replicate (2 - length front) (sample Digit))
              ∙ (let e : length front + (2 - length front) ≡ 2 = omega arith in e);
          kind = all_append Digit front _ h (samples Digit (2 - length front)).kind;
        },
      );
      ends = λ x m t same h' st e. kind_ends Digit front tail x m t same s h'.kind (omega (arith, h'.count)) e;
    }

pub data ElementCase (list : Listed) (rest : List ℕ) (r : Result ℕ Wrong) : Type 0 where
  fits : (mine theirs : List ℕ) → rest ≡ mine ++ theirs → r ≡ Ok (length mine) → IsElement list mine →
      Ends list theirs → ElementCase list rest r
  strange : (front tail : List ℕ) → rest ≡ front ++ tail → r ≡ Err (wrong_byte (length front)) →
      ElementBreaks list front tail → ElementCase list rest r
  off : (p : ℕ) → r ≡ Err (not_admitted p) → RefusedElement list rest p → ElementCase list rest r

-- a comma behind other bytes
pub stands_behind : (front tail : List ℕ) → stands (eqb 44) (front ++ tail) (length front) ≡ stands (eqb 44) tail 0
stands_behind front tail = ap (stands (eqb 44) (front ++ tail)) (sym (add-zero (length front)))
    ∙ stands_moved (eqb 44) front tail 0

abbrev string_to : List ℕ → ℕ → Result ℕ Wrong
string_to rest stop =
    then (stopped_at rest stop) (λ _. then (admitted_at (leb (stop - 0) longest_text) 0) (λ _. Ok stop))

string_is : (rest : List ℕ) (stop : ℕ) → run Text rest ≡ stop → string_at rest 0 ≡ string_to rest stop
unfolding string_at
string_is rest stop e = ap (string_to rest) (zero_on (run Text rest) ∙ e)

stopped_if : (front tail : List ℕ) → Stopped tail → stopped_at (front ++ tail) (length front) ≡ Ok tt
stopped_if front tail (ended e) =
    cond-false _ _ _ (stands_behind front tail ∙ ap (λ bs. stands (eqb 44) bs 0) e)
    ∙ end_here (front ++ tail) (length front) (omega (arith, length-append front tail, ap length e))
stopped_if front tail (comma more e) =
    cond-true _ _ _ (stands_behind front tail ∙ ap (λ bs. stands (eqb 44) bs 0) e ∙ stands_here (eqb 44) 44 more)

string_long : (front tail : List ℕ) → AllOf Text front → Stops Text tail → Stopped tail → (u : Bool) →
    leb (length front) longest_text ≡ u →
    string_at (front ++ tail) 0 ≡ string_to (front ++ tail) (length front) →
    ElementCase Strings (front ++ tail) (string_at (front ++ tail) 0)
string_long front tail h s st true e is =
    fits front tail refl
    (is ∙ ap (λ (r : Result (Unit {0}) Wrong). then r
    (λ _. then (admitted_at (leb (length front - 0) longest_text) 0) (λ _. Ok (length front))))
    (stopped_if front tail st)
    ∙ ap (λ n. then (admitted_at (leb n longest_text) 0) (λ _. Ok (length front)))
    (let z : length front - 0 ≡ length front = omega arith in z)
    ∙ ap (λ u. then (admitted_at u 0) (λ _. Ok (length front))) e)
    (record { kind = h; short = leb-true _ _ e })
    s
string_long front tail h s st false e is =
    off 0
    (is ∙ ap (λ (r : Result (Unit {0}) Wrong). then r
    (λ _. then (admitted_at (leb (length front - 0) longest_text) 0) (λ _. Ok (length front))))
    (stopped_if front tail st)
    ∙ ap (λ n. then (admitted_at (leb n longest_text) 0) (λ _. Ok (length front)))
    (let z : length front - 0 ≡ length front = omega arith in z)
    ∙ ap (λ u. then (admitted_at u 0) (λ _. Ok (length front))) e)
    (record {
      own = front;
      behind = tail;
      whole = refl;
      text = record { kind = h; long = leb-false _ _ e; place = refl };
      stopped = st;
    })

string_reads : (front tail : List ℕ) → AllOf Text front → Stops Text tail →
    string_at (front ++ tail) 0 ≡ string_to (front ++ tail) (length front)
string_reads front tail h s = string_is (front ++ tail) (length front) (run_exact Text front tail h s)

string_next : (front : List ℕ) (b : ℕ) (tail : List ℕ) → AllOf Text front → Stops Text (b ∷ tail) →
    (u : Bool) → eqb 44 b ≡ u →
    ElementCase Strings (front ++ (b ∷ tail)) (string_at (front ++ (b ∷ tail)) 0)
string_next front b tail h s true e =
    string_long front (b ∷ tail) h s (comma tail (ap (λ z. z ∷ tail) (sym (eqb-true 44 b e))))
    (leb (length front) longest_text) refl (string_reads front (b ∷ tail) h s)
string_next front b tail h s false e =
    strange front (b ∷ tail) refl
    (string_reads front (b ∷ tail) h s
    ∙ ap (λ (r : Result (Unit {0}) Wrong). then r
    (λ _. then (admitted_at (leb (length front - 0) longest_text) 0) (λ _. Ok (length front))))
    (cond-false _ _ _ (stands_behind front (b ∷ tail) ∙ stands_here (eqb 44) b tail ∙ e)
    ∙ end_not (front ++ (b ∷ tail)) (length front) (omega (arith, length-append front (b ∷ tail)))))
    (string_breaks front (b ∷ tail) h s (omega arith)
    (λ more is. let z : b ≡ 44 = cc in both_ways (eqb 44 b) e (ap (eqb 44) z)))

string_by : (front tail : List ℕ) → AllOf Text front → Stops Text tail →
    ElementCase Strings (front ++ tail) (string_at (front ++ tail) 0)
string_by front [] h s = string_long front [] h s (ended refl) (leb (length front) longest_text) refl
    (string_reads front [] h s)
string_by front (b ∷ tail) h s = string_next front b tail h s (eqb 44 b) refl

link_long : (rest mine theirs : List ℕ) → rest ≡ mine ++ theirs → Sized Digit 2 mine → (u : Bool) →
    between 1 last_link (number_of mine) ≡ u →
    link_at rest 0
    ≡ then {X = Got}
    (cond (between 1 last_link (number_of mine)) (Ok (given 0 mine ∷ [], 2)) (Err (not_admitted 0)))
    (λ o. Ok o.1) → ElementCase Numbers rest (link_at rest 0)
link_long rest mine theirs cut sized true e is =
    fits mine theirs cut
    (is ∙ ap (λ u. then {X = Got} (cond u (Ok (given 0 mine ∷ [], 2)) (Err (not_admitted 0)))
    (λ o. Ok o.1)) e ∙ ap (λ n. Ok n) (sym sized.count))
    (record { digits = sized; admitted = e }) tt
link_long rest mine theirs cut sized false e is =
    off 0 (is ∙ ap (λ u. then {X = Got} (cond u (Ok (given 0 mine ∷ [], 2)) (Err (not_admitted 0))) (λ o. Ok o.1)) e)
    (record { own = mine; behind = theirs; whole = cut; sized = sized; refused = e; place = refl })

link_is : (rest : List ℕ) (r : Result Got Wrong) → part_at Digit 2 rest 0 ≡ r →
    link_at rest 0
    ≡ then (then r (λ o. cond (between 1 last_link (number_of (own o))) (Ok o) (Err (not_admitted 0))))
    (λ o. Ok o.1)
unfolding link_at number_at
link_is rest r e =
    ap (λ q. then (then q (λ o. cond (between 1 last_link (number_of (own o))) (Ok o) (Err (not_admitted 0))))
    (λ o. Ok o.1)) e

link_by : (rest : List ℕ) → PartCase Digit 2 rest 0 (part_at Digit 2 rest 0) →
    ElementCase Numbers rest (link_at rest 0)
link_by rest (whole mine theirs cut sized is) =
    link_long rest mine theirs cut sized (between 1 last_link (number_of mine)) refl (link_is rest _ is)
link_by rest (short front tail cut kind lt stops is) =
    strange front tail cut (link_is rest _ is ∙ ap (λ n. Err (wrong_byte n)) (zero_on (length front)))
    (number_breaks front tail kind lt stops)

element_is : (rest : List ℕ) →
    (element_at Strings rest 0 ≡ string_at rest 0) × (element_at Numbers rest 0 ≡ link_at rest 0)
unfolding element_at
element_is rest = (refl, refl)

pub element_case : (list : Listed) (rest : List ℕ) → ElementCase list rest (element_at list rest 0)
element_case Strings rest =
    let r = runs Text rest in
    subst (λ (q : Result ℕ Wrong). ElementCase Strings rest q) (sym (element_is rest).0)
    (subst (λ bs. ElementCase Strings bs (string_at bs 0)) (sym r.whole) (string_by r.front r.tail r.kind r.stops))
element_case Numbers rest =
    subst (λ (q : Result ℕ Wrong). ElementCase Numbers rest q) (sym (element_is rest).1)
    (link_by rest (part_case Digit 2 rest 0))

pub element_written : (list : Listed) (mine theirs : List ℕ) → IsElement list mine → Stopped theirs →
    element_at list (mine ++ theirs) 0 ≡ Ok (length mine)
element_written Strings mine theirs w st =
    (element_is (mine ++ theirs)).0 ∙ string_reads mine theirs w.kind (stopped_ends theirs st)
    ∙ ap (λ (r : Result (Unit {0}) Wrong). then r
    (λ _. then (admitted_at (leb (length mine - 0) longest_text) 0) (λ _. Ok (length mine))))
    (stopped_if mine theirs st)
    ∙ ap (λ n. then (admitted_at (leb n longest_text) 0) (λ _. Ok (length mine)))
    (let z : length mine - 0 ≡ length mine = omega arith in z)
    ∙ ap (λ u. then (admitted_at u 0) (λ _. Ok (length mine))) (le-leb (length mine) longest_text w.short)
element_written Numbers mine theirs w st =
    (element_is (mine ++ theirs)).1
    ∙ link_is (mine ++ theirs) _ (part_written Digit 2 (mine ++ theirs) 0 mine theirs refl w.digits)
    ∙ ap (λ u. then {X = Got} (cond u (Ok (given 0 mine ∷ [], 2)) (Err (not_admitted 0))) (λ o. Ok o.1)) w.admitted
    ∙ ap (λ n. Ok n) (sym w.digits.count)

pub element_refused : (list : Listed) (rest : List ℕ) (p : ℕ) → RefusedElement list rest p →
    element_at list rest 0 ≡ Err (not_admitted p)
element_refused Strings rest p f =
    (element_is rest).0 ∙ ap (λ bs. string_at bs 0) f.whole
    ∙ string_reads f.own f.behind f.text.kind (stopped_ends f.behind f.stopped)
    ∙ ap (λ (r : Result (Unit {0}) Wrong). then r
    (λ _. then (admitted_at (leb (length f.own - 0) longest_text) 0) (λ _. Ok (length f.own))))
    (stopped_if f.own f.behind f.stopped)
    ∙ ap (λ n. then (admitted_at (leb n longest_text) 0) (λ _. Ok (length f.own)))
    (let z : length f.own - 0 ≡ length f.own = omega arith in z)
    ∙ ap (λ u. then (admitted_at u 0) (λ _. Ok (length f.own))) (lt-leb (length f.own) longest_text f.text.long)
    ∙ ap (λ n. Err (not_admitted n)) (sym f.text.place)
element_refused Numbers rest p f =
    (element_is rest).1 ∙ link_is rest _ (part_written Digit 2 rest 0 f.own f.behind f.whole f.sized)
    ∙ ap (λ u. then {X = Got} (cond u (Ok (given 0 f.own ∷ [], 2)) (Err (not_admitted 0))) (λ o. Ok o.1)) f.refused
    ∙ ap (λ n. Err (not_admitted n)) (sym f.place)
