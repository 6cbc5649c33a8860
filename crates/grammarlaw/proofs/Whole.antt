-- Texts, and what stands last in a command.
use Rattle.std.proofs.Common.{◌≡◌, ℕ, ◌+◌, ◌-◌, ◌<◌, ◌≤◌, Bool, true, false, leb, List, [], ◌∷◌, ◌++◌, map, length, take, drop, Ok, Err, Result, sym, refl, ap, ◌∙◌, arith, subst}
use Rattle.std.proofs.lemmas.Bool.{leb-true, leb-false, lt-ltb, le-ltb, cond-true, cond-false}
use Rattle.std.proofs.lemmas.List.{append-nil, length-append, take_all}
use Rattle.limits.specs.Limits.{longest_text}
use Rattle.jobparts.specs.Grammar.{text}
use Rattle.jobparts.specs.Items.{end_at, admitted_at, text_stop, span, text_at}
use Rattle.jobparts.specs.Kinds.{run}
use Rattle.jobparts.specs.Parts.{PartSeen, given, Got, bytes_of, then, wrong_byte, not_admitted}
use Rattle.jobparts.specs.declared.part.ByteKind.TheVariants.{Text}
use Rattle.jobparts.specs.declared.part.Wrong.{Wrong}
use Rattle.grammarlaw.specs.Bodies.{GoesOnAs, Breaks}
use Rattle.grammarlaw.specs.Right.{AllOf, Split}
use Rattle.grammarlaw.specs.Rows.{item, onward, steps_at}
use Rattle.grammarlaw.specs.Written.{IsText, WritesLast}
use Rattle.grammarlaw.specs.Refused.{RefusedText}
use Rattle.grammarlaw.proofs.Parts.{runs, Stops}
use Rattle.grammarlaw.proofs.Breaking.{kind_ends}
use Rattle.grammarlaw.proofs.Coming.{reads, breaks, FirstComes, reads_on, pass_on, byte_on, value_on}
use Rattle.grammarlaw.proofs.Plain.{Later}

pub end_here : (body : List ℕ) (p : ℕ) → length body ≤ p → end_at body p ≡ Ok tt
unfolding end_at
end_here body p le = cond-false _ _ _ (le-ltb p (length body) le)

pub end_not : (body : List ℕ) (p : ℕ) → p < length body → end_at body p ≡ Err (wrong_byte p)
unfolding end_at
end_not body p lt = cond-true _ _ _ (lt-ltb p (length body) lt)

-- nothing stands behind the last item
abbrev pub Ended : List ℕ → Type 0
Ended w = w ≡ []

breaks_empty : (rest : List ℕ) → 0 < length rest → Breaks Ended [] rest
breaks_empty [] lt = absurd (omega arith)
breaks_empty (b ∷ rest) lt = record { goes = ([], refl); ends = λ x same e. subst (GoesOnAs (b ∷ rest)) e same }

pub ended_comes : Later []
ended_comes e [] =
    reads [] (ap (λ (r : Result (Unit {0}) Wrong). then r (λ _. Ok [])) (end_here [] 0 (omega arith))) (refl, refl)
ended_comes e (b ∷ rest) =
    breaks [] (b ∷ rest) refl
    (ap (λ (r : Result (Unit {0}) Wrong). then r (λ _. Ok [])) (end_not (b ∷ rest) 0 (omega arith)))
    (breaks_empty (b ∷ rest) (omega arith))

-- with nothing behind it, an item breaks where its own bytes do
alone_is : (S : List ℕ → Type 0) (w : List ℕ) → Split S Ended w → S w
alone_is S w s = subst S (sym (s.whole ∙ ap (λ (t : List ℕ). s.mine ++ t) s.later ∙ append-nil s.mine)) s.first

pub breaks_alone : (S : List ℕ → Type 0) (front tail : List ℕ) → Breaks S front tail →
    Breaks (Split S Ended) front tail
breaks_alone S front tail b =
    record {
      goes = (
        b.goes.0,
        record {
          mine = front ++ b.goes.0;
          theirs = [];
          whole = sym (append-nil (front ++ b.goes.0));
          first = b.goes.1;
          later = refl;
        },
      );
      ends = λ x same w. b.ends x same (alone_is S (front ++ x) w);
    }

-- what reading the last item comes to
pub data LastCase (S : List ℕ → Type 0) (W : List PartSeen → List ℕ → Type 0) (Off : ℕ → Type 0) (rest : List ℕ)
    (r : Result Got Wrong) : Type 0 where
  all : (own : List PartSeen) → r ≡ Ok (own, length rest) → W own rest → LastCase S W Off rest r
  over : (own : List PartSeen) (front tail : List ℕ) → rest ≡ front ++ tail → r ≡ Ok (own, length front) →
      0 < length tail → Breaks S front tail → LastCase S W Off rest r
  foreign : (front tail : List ℕ) → rest ≡ front ++ tail → r ≡ Err (wrong_byte (length front)) →
      Breaks S front tail → LastCase S W Off rest r
  off : (p : ℕ) → r ≡ Err (not_admitted p) → Off p → LastCase S W Off rest r

no_break : {X : Type 0} (front tail : List ℕ) → [] ≡ front ++ tail → Breaks Ended front tail → X
no_break [] [] e b = absurd (b.ends [] tt refl)
no_break [] (c ∷ tail) e b = absurd (cc)
no_break (c ∷ front) tail e b = absurd (cc)

past_end : (tail : List ℕ) (e : List (List ℕ)) → 0 < length tail → steps_at [] e tail ≡ Err (wrong_byte 0)
past_end tail e lt = ap (λ (r : Result (Unit {0}) Wrong). then r (λ _. Ok [])) (end_not tail 0 lt)

pub last_comes : (S : List ℕ → Type 0) (First : List (List ℕ) → List PartSeen → List ℕ → List ℕ → Type 0)
    (W : List PartSeen → List ℕ → Type 0) (Off : ℕ → Type 0) (e : List (List ℕ)) (rest : List ℕ)
    (r : Result Got Wrong) →
    ((own : List PartSeen) (mine : List ℕ) → W own mine → First e own mine []) → LastCase S W Off rest r →
    FirstComes S First Off [] e rest r
last_comes S First W Off e rest r given_so (all own is w) =
    pass_on S First Off [] e own rest [] rest r (sym (append-nil rest)) is (given_so own rest w)
    (λ front tail cut b. no_break front tail cut b)
    (ended_comes (e ++ map bytes_of own) [])
last_comes S First W Off e rest r given_so (over own front tail cut is lt b) =
    breaks front tail cut
    (reads_on [] e own front tail rest r cut is
    ∙ ap (onward (own, length front)) (past_end tail (e ++ map bytes_of own) lt)
    ∙ ap (λ p. Err (wrong_byte p)) (let z : length front + 0 ≡ length front = omega arith in z))
    (breaks_alone S front tail b)
last_comes S First W Off e rest r given_so (foreign front tail cut is b) =
    byte_on S First Off [] e rest front tail r cut is (breaks_alone S front tail b)
last_comes S First W Off e rest r given_so (off p is f) = value_on S First Off [] e rest p r is f

-- texts, at a place
pub data TextCase (t : List ℕ) (at : ℕ) (r : Result Got Wrong) : Type 0 where
  fits : AllOf Text t → length t ≤ longest_text → r ≡ Ok (given at t ∷ [], at + length t) → TextCase t at r
  long : AllOf Text t → longest_text < length t → r ≡ Err (not_admitted at) → TextCase t at r
  strange :
      (front tail : List ℕ) → t ≡ front ++ tail → AllOf Text front → Stops Text tail → 0 < length tail →
      r ≡ Err (wrong_byte (at + length front)) →
      TextCase t at r

-- a text that stops at a place
abbrev text_to : List ℕ → ℕ → ℕ → Result Got Wrong
text_to body at stop =
    then (end_at body stop)
    (λ _. then (admitted_at (leb (stop - at) longest_text) at) (λ _. Ok (given at (span body at stop) ∷ [], stop)))

text_is : (body : List ℕ) (at stop : ℕ) → text_stop body at ≡ stop → text_at body at ≡ text_to body at stop
unfolding text_at
text_is body at stop e = ap (text_to body at) e

whole_span : (body t : List ℕ) (at : ℕ) → drop at body ≡ t → span body at (at + length t) ≡ t
whole_span body t at e =
    ap (λ n. take n (drop at body)) (let g : (at + length t) - at ≡ length t = omega arith in g)
    ∙ ap (take (length t)) e ∙ take_all (length t) t (omega arith)

text_long : (body t : List ℕ) (at : ℕ) → drop at body ≡ t → length body ≡ at + length t → AllOf Text t →
    (u : Bool) → leb (length t) longest_text ≡ u →
    text_at body at ≡ text_to body at (at + length t) → TextCase t at (text_at body at)
text_long body t at e l kind true short is =
    fits kind (leb-true _ _ short)
    (is ∙ ap (λ (r : Result (Unit {0}) Wrong). then r
    (λ _. then (admitted_at (leb ((at + length t) - at) longest_text) at)
    (λ _. Ok (given at (span body at (at + length t)) ∷ [], at + length t))))
    (end_here body (at + length t) (omega arith))
    ∙ ap (λ n. then (admitted_at (leb n longest_text) at)
    (λ _. Ok (given at (span body at (at + length t)) ∷ [], at + length t)))
    (let g : (at + length t) - at ≡ length t = omega arith in g)
    ∙ ap (λ u. then (admitted_at u at) (λ _. Ok (given at (span body at (at + length t)) ∷ [], at + length t))) short
    ∙ ap (λ bs. Ok (given at bs ∷ [], at + length t)) (whole_span body t at e))
text_long body t at e l kind false short is =
    long kind (leb-false _ _ short)
    (is ∙ ap (λ (r : Result (Unit {0}) Wrong). then r
    (λ _. then (admitted_at (leb ((at + length t) - at) longest_text) at)
    (λ _. Ok (given at (span body at (at + length t)) ∷ [], at + length t))))
    (end_here body (at + length t) (omega arith))
    ∙ ap (λ n. then (admitted_at (leb n longest_text) at)
    (λ _. Ok (given at (span body at (at + length t)) ∷ [], at + length t)))
    (let g : (at + length t) - at ≡ length t = omega arith in g)
    ∙ ap (λ u. then (admitted_at u at) (λ _. Ok (given at (span body at (at + length t)) ∷ [], at + length t))) short)

text_by : (body t : List ℕ) (at : ℕ) → drop at body ≡ t → length body ≡ at + length t → (front tail : List ℕ) →
    t ≡ front ++ tail → AllOf Text front → Stops Text tail →
    run Text t ≡ length front → TextCase t at (text_at body at)
text_by body t at e l front [] cut kind stops count =
    let same : front ≡ t = sym (cut ∙ append-nil front) in
    text_long body t at e l (subst (AllOf Text) same kind) (leb (length t) longest_text) refl
    (text_is body at (at + length t) (ap (λ bs. at + run Text bs) e ∙ ap (λ n. at + n) (count ∙ ap length same)))
text_by body t at e l front (b ∷ tail) cut kind stops count =
    strange front (b ∷ tail) cut kind stops (omega arith)
    (text_is body at (at + length front) (ap (λ bs. at + run Text bs) e ∙ ap (λ n. at + n) count)
    ∙ ap (λ (r : Result (Unit {0}) Wrong). then r
    (λ _. then (admitted_at (leb ((at + length front) - at) longest_text) at)
    (λ _. Ok (given at (span body at (at + length front)) ∷ [], at + length front))))
    (end_not body (at + length front) (omega (arith, ap length cut, length-append front (b ∷ tail)))))

pub text_case : (body t : List ℕ) (at : ℕ) → drop at body ≡ t → length body ≡ at + length t →
    TextCase t at (text_at body at)
text_case body t at e l = let r = runs Text t in text_by body t at e l r.front r.tail r.whole r.kind r.stops r.count

pub text_ends : (front tail x : List ℕ) → Stops Text tail → 0 < length tail → GoesOnAs tail x →
    AllOf Text (front ++ x) → ⊥
text_ends front [] x stops lt same w = omega arith
text_ends front (b ∷ tail) [] stops lt same w = same
text_ends front (b ∷ tail) (c ∷ x) stops lt same w =
    kind_ends Text front (b ∷ tail) (c ∷ x) (front ++ (c ∷ x)) [] same stops w
    (omega (arith, length-append front (c ∷ x))) (sym (append-nil (front ++ (c ∷ x))))

pub text_breaks : (front tail : List ℕ) → AllOf Text front → Stops Text tail → 0 < length tail →
    Breaks (AllOf Text) front tail
text_breaks front tail kind stops lt =
    record {
      goes = ([], subst (AllOf Text) (sym (append-nil front)) kind);
      ends = λ x same w. text_ends front tail x stops lt same w;
    }

pub text_last : (rest : List ℕ) → TextCase rest 0 (text_at rest 0) →
    LastCase (AllOf Text) (λ own mine. (own ≡ given 0 mine ∷ []) × IsText mine) (RefusedText rest) rest
    (text_at rest 0)
text_last rest (fits kind short is) =
    all (given 0 rest ∷ [])
    (is ∙ ap (λ n. Ok (given 0 rest ∷ [], n)) (let z : 0 + length rest ≡ length rest = omega arith in z))
    (refl, record { kind = kind; short = short })
text_last rest (long kind lt is) = off 0 is (record { kind = kind; long = lt; place = refl })
text_last rest (strange front tail cut kind stops lt is) =
    foreign front tail cut
    (is ∙ ap (λ n. Err (wrong_byte n)) (let z : 0 + length front ≡ length front = omega arith in z))
    (text_breaks front tail kind stops lt)

pub text_comes : Later (item text ∷ [])
text_comes e rest =
    last_comes (AllOf Text) (λ e own mine theirs. WritesLast IsText own mine theirs)
    (λ own mine. (own ≡ given 0 mine ∷ []) × IsText mine) (RefusedText rest) e rest (text_at rest 0)
    (λ own mine w. record { parts = w.0; meant = w.1; ends = refl })
    (text_last rest (text_case rest rest 0 refl (let z : length rest ≡ 0 + length rest = omega arith in z)))
