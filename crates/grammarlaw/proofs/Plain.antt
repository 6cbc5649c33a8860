-- Fixed bytes and parts of a known number of bytes.
use Rattle.std.proofs.Common.{◌≡◌, ℕ, ◌+◌, Bool, true, false, cond, eqb, List, [], ◌∷◌, ◌++◌, map, length, drop, Ok, Err, Result, sym, refl, ap, ◌∙◌, arith, subst}
use Rattle.std.proofs.Math.Seq.{drop-append_seam}
use Rattle.std.proofs.lemmas.Bool.{eqb-true, eqb-false, lt-ltb, cond-true}
use Rattle.jobparts.specs.Grammar.{fixed, part, number, chosen, item_at}
use Rattle.jobparts.specs.Items.{Admits, byte_at, part_at, number_at, chosen_at, own}
use Rattle.jobparts.specs.Kinds.{stands}
use Rattle.jobparts.specs.Parts.{given, Got, bytes_of, then, wrong_byte, not_admitted}
use Rattle.jobparts.specs.declared.part.ByteKind.{ByteKind}
use Rattle.jobparts.specs.declared.part.ByteKind.TheVariants.{Digit}
use Rattle.jobparts.specs.declared.part.Wrong.{Wrong}
use Rattle.grammarlaw.specs.Bodies.{GoesOnAs, Breaks}
use Rattle.grammarlaw.specs.Right.{Sized, Split, AllRight}
use Rattle.grammarlaw.specs.Rows.{Step, item}
use Rattle.grammarlaw.specs.Written.{lies_between, any, WritesAll}
use Rattle.grammarlaw.specs.Refused.{Refused}
use Rattle.grammarlaw.proofs.Parts.{PartCase, whole, short, part_case}
use Rattle.grammarlaw.proofs.Breaking.{breaks_behind, sized_only, breaks_short}
use Rattle.grammarlaw.proofs.Coming.{Comes, StepsCome, by_reading, pass, stop_byte, stop_value}

pub stands_here : (f : ℕ → Bool) (b : ℕ) (bs : List ℕ) → stands f (b ∷ bs) 0 ≡ f b
stands_here f b bs = cond-true _ _ _ (lt-ltb 0 (length (b ∷ bs)) (omega arith))

pub zero_on : (n : ℕ) → 0 + n ≡ n
zero_on n = omega arith

abbrev pub Later : List Step → Type 0
Later s = (e : List (List ℕ)) (rest : List ℕ) → StepsCome s e rest

pub chosen_whole : (k : ByteKind) (n : ℕ) (admits : Admits) (e : List (List ℕ)) (rest mine theirs : List ℕ) →
    rest ≡ mine ++ theirs → Sized k n mine →
    part_at k n rest 0 ≡ Ok (given 0 mine ∷ [], n) →
    chosen_at k n admits e rest 0 ≡ cond (admits e mine theirs) (Ok (given 0 mine ∷ [], length mine))
    (Err (not_admitted 0))
chosen_whole k n admits e rest mine theirs split sized is =
    ap (λ (r : Result Got Wrong). then r
    (λ o. cond (admits e (own o) (drop o.1 rest)) (Ok o) (Err (not_admitted 0)))) is
    ∙ ap (λ bs. cond (admits e mine bs) (Ok (given 0 mine ∷ [], n)) (Err (not_admitted 0)))
    (ap (drop n) split ∙ ap (λ m. drop m (mine ++ theirs)) (sym sized.count) ∙ drop-append_seam mine theirs)
    ∙ ap (λ m. cond (admits e mine theirs) (Ok (given 0 mine ∷ [], m)) (Err (not_admitted 0))) (sym sized.count)

whole_by : (k : ByteKind) (n : ℕ) (admits : Admits) (s : List Step) (e : List (List ℕ)) (rest mine theirs : List ℕ)
    → rest ≡ mine ++ theirs → Sized k n mine →
    (t : Bool) → admits e mine theirs ≡ t →
    chosen_at k n admits e rest 0 ≡ cond t (Ok (given 0 mine ∷ [], length mine)) (Err (not_admitted 0)) →
    Later s → StepsCome (item (chosen k n admits) ∷ s) e rest
whole_by k n admits s e rest mine theirs split sized true ok got later =
    pass (chosen k n admits) s e (given 0 mine ∷ []) mine theirs rest split got
    (record { parts = refl; sized = sized; admitted = ok })
    (λ front tail cut b. breaks_behind mine front tail sized (sized_only (AllRight s) k n mine sized) b)
    (later (e ++ map bytes_of (given 0 mine ∷ [])) theirs)
whole_by k n admits s e rest mine theirs split sized false ok got later =
    stop_value (chosen k n admits) s e rest 0 got
    (record { own = mine; behind = theirs; whole = split; sized = sized; refused = ok; place = refl })

chosen_by : (k : ByteKind) (n : ℕ) (admits : Admits) (s : List Step) (e : List (List ℕ)) (rest : List ℕ) →
    ((w : List ℕ) × AllRight s w) → Later s →
    PartCase k n rest 0 (part_at k n rest 0) → StepsCome (item (chosen k n admits) ∷ s) e rest
chosen_by k n admits s e rest some later (whole mine theirs split sized is) =
    whole_by k n admits s e rest mine theirs split sized (admits e mine theirs) refl
    (chosen_whole k n admits e rest mine theirs split sized
    (is ∙ ap (λ m. Ok (given 0 mine ∷ [], m)) (zero_on n))) later
chosen_by k n admits s e rest some later (short front tail split kind lt stops is) =
    stop_byte (chosen k n admits) s e rest front tail split
    (ap (λ (r : Result Got Wrong). then r
    (λ o. cond (admits e (own o) (drop o.1 rest)) (Ok o) (Err (not_admitted 0)))) is
    ∙ ap (λ m. Err (wrong_byte m)) (zero_on (length front)))
    (breaks_short k n front tail some kind lt stops)

pub chosen_comes : (k : ByteKind) (n : ℕ) (admits : Admits) (s : List Step) → ((w : List ℕ) × AllRight s w) →
    Later s → Later (item (chosen k n admits) ∷ s)
chosen_comes k n admits s some later e rest = chosen_by k n admits s e rest some later (part_case k n rest 0)

pub number_is : (n low high : ℕ) (e : List (List ℕ)) (rest : List ℕ) →
    chosen_at Digit n (λ e. lies_between low high) e rest 0 ≡ number_at n low high rest 0
unfolding number_at
number_is n low high e rest = refl

then_same : (r : Result Got Wrong) → then r (λ o. Ok o) ≡ r
then_same (Ok x) = refl
then_same (Err w) = refl

pub part_is : (k : ByteKind) (n : ℕ) (e : List (List ℕ)) (rest : List ℕ) →
    chosen_at k n (λ e. any) e rest 0 ≡ part_at k n rest 0
part_is k n e rest = then_same (part_at k n rest 0)

pub number_comes : (n low high : ℕ) (s : List Step) → ((w : List ℕ) × AllRight s w) → Later s →
    Later (item (number n low high) ∷ s)
number_comes n low high s some later e rest =
    subst (λ r. Comes (AllRight (item (number n low high) ∷ s))
    (λ ss. WritesAll (item (number n low high) ∷ s) e ss rest)
    (Refused (item (number n low high) ∷ s) e rest) rest (by_reading s e rest r))
    (number_is n low high e rest)
    (chosen_comes Digit n (λ e. lies_between low high) s some later e rest)

pub part_comes : (k : ByteKind) (n : ℕ) (s : List Step) → ((w : List ℕ) × AllRight s w) → Later s →
    Later (item (part k n) ∷ s)
part_comes k n s some later e rest =
    subst (λ r. Comes (AllRight (item (part k n) ∷ s)) (λ ss. WritesAll (item (part k n) ∷ s) e ss rest)
    (Refused (item (part k n) ∷ s) e rest) rest (by_reading s e rest r))
    (part_is k n e rest)
    (chosen_comes k n (λ e. any) s some later e rest)

-- a fixed byte
byte_here : (b : ℕ) (rest : List ℕ) (t : Bool) → stands (eqb b) rest 0 ≡ t →
    byte_at b rest 0 ≡ cond t (Ok 1) (Err (wrong_byte 0))
unfolding byte_at
byte_here b rest t e = ap (λ u. cond u (Ok 1) (Err (wrong_byte 0))) e

pub fixed_is : (b : ℕ) (e : List (List ℕ)) (rest : List ℕ) (t : Bool) → stands (eqb b) rest 0 ≡ t →
    item_at (fixed b) e rest 0 ≡ then (cond t (Ok 1) (Err (wrong_byte 0))) (λ next. Ok ([], next))
fixed_is b e rest t is = ap (λ (r : Result ℕ Wrong). then r (λ next. Ok ([], next))) (byte_here b rest t is)

other_byte : (b : ℕ) (rest x t : List ℕ) → stands (eqb b) rest 0 ≡ false → GoesOnAs rest x → x ≡ (b ∷ []) ++ t → ⊥
other_byte b [] [] t is same e = cc
other_byte b [] (c ∷ x) t is same e = same
other_byte b (d ∷ rest) [] t is same e = same
other_byte b (d ∷ rest) (c ∷ x) t is same e =
    let head : c ≡ b = cc in
    eqb-false b d (sym (stands_here (eqb b) d rest) ∙ is) (sym head ∙ same)

fixed_only : (A : List ℕ → Type 0) (b : ℕ) (m t y : List ℕ) → m ≡ b ∷ [] → A t → (b ∷ []) ++ y ≡ m ++ t → y ≡ t
fixed_only A b m t y is a e =
    let both : b ∷ y ≡ b ∷ t = e ∙ ap (λ x. x ++ t) is in
    cc

fixed_breaks : {A : List ℕ → Type 0} (b : ℕ) (rest : List ℕ) → ((w : List ℕ) × A w) →
    stands (eqb b) rest 0 ≡ false → Breaks (Split (λ w. w ≡ b ∷ []) A) [] rest
fixed_breaks b rest some no_byte =
    record {
      goes = (b ∷ some.0, record { mine = b ∷ []; theirs = some.0; whole = refl; first = refl; later = some.1 });
      ends = λ x same w. other_byte b rest x w.theirs no_byte same (w.whole ∙ ap (λ m. m ++ w.theirs) w.first);
    }

fixed_by : (b : ℕ) (s : List Step) (e : List (List ℕ)) (rest : List ℕ) → ((w : List ℕ) × AllRight s w) →
    Later s → (t : Bool) → stands (eqb b) rest 0 ≡ t →
    StepsCome (item (fixed b) ∷ s) e rest
fixed_by b s e rest some later false is =
    stop_byte (fixed b) s e rest [] rest refl (fixed_is b e rest false is) (fixed_breaks b rest some is)
fixed_by b s e [] some later true is = absurd (cc)
fixed_by b s e (c ∷ rest) some later true is =
    let same : b ≡ c = eqb-true b c (sym (stands_here (eqb b) c rest) ∙ is) in
    pass (fixed b) s e [] (b ∷ []) rest (c ∷ rest) (ap (λ x. x ∷ rest) (sym same))
    (fixed_is b e (c ∷ rest) true is) (refl, refl)
    (λ front tail cut br. breaks_behind (b ∷ []) front tail refl (fixed_only (AllRight s) b) br)
    (later (e ++ []) rest)

pub fixed_comes : (b : ℕ) (s : List Step) → ((w : List ℕ) × AllRight s w) → Later s → Later (item (fixed b) ∷ s)
fixed_comes b s some later e rest = fixed_by b s e rest some later (stands (eqb b) rest 0) refl
