-- What reading comes to, and how an item adds to what comes behind it.
use Rattle.std.proofs.Common.{◌≡◌, ℕ, ◌+◌, List, ◌∷◌, ◌++◌, map, length, drop, Ok, Err, Result, sym, refl, ap, ◌∙◌}
use Rattle.std.proofs.Math.Seq.{drop-append_seam}
use Rattle.std.proofs.lemmas.List.{append_assoc, length-append}
use Rattle.jobparts.specs.Grammar.{Item, item_at}
use Rattle.jobparts.specs.Parts.{PartSeen, Got, bytes_of, then, wrong_byte, not_admitted}
use Rattle.jobparts.specs.declared.part.Wrong.{Wrong}
use Rattle.joblaw.specs.Located.{shift_part}
use Rattle.grammarlaw.specs.Bodies.{Breaks}
use Rattle.grammarlaw.specs.Right.{Right, Split, AllRight}
use Rattle.grammarlaw.specs.Rows.{Step, item, onward, steps_at}
use Rattle.grammarlaw.specs.Written.{Writes, WritesOn, WritesAll}
use Rattle.grammarlaw.specs.Refused.{RefusedOne, RefusedLater, Refused}
use mathlib.Core.Logic.{◌⊎◌, inl, inr}

pub data Comes {X : Type 0} (A : List ℕ → Type 0) (W : X → Type 0) (F : ℕ → Type 0) (rest : List ℕ)
    (r : Result X Wrong) : Type 0 where
  reads : (x : X) → r ≡ Ok x → W x → Comes A W F rest r
  breaks : (front tail : List ℕ) → rest ≡ front ++ tail → r ≡ Err (wrong_byte (length front)) →
      Breaks A front tail → Comes A W F rest r
  refuses : (p : ℕ) → r ≡ Err (not_admitted p) → F p → Comes A W F rest r

abbrev pub StepsCome : List Step → List (List ℕ) → List ℕ → Type 0
StepsCome s e rest = Comes (AllRight s) (λ ss. WritesAll s e ss rest) (Refused s e rest) rest (steps_at s e rest)

-- the same with what is said of the first item, and its reading, given apart from the item
abbrev pub by_reading : List Step → List (List ℕ) → List ℕ → Result Got Wrong → Result (List PartSeen) Wrong
by_reading s e rest r = then r (λ o. onward o (steps_at s (e ++ map bytes_of o.0) (drop o.1 rest)))

abbrev pub FirstComes : (List ℕ → Type 0) → (List (List ℕ) → List PartSeen → List ℕ → List ℕ → Type 0) →
    (ℕ → Type 0) → List Step → List (List ℕ) → List ℕ → Result Got Wrong → Type 0
FirstComes S First Off s e rest r =
    Comes (Split S (AllRight s)) (λ ss. WritesOn First (WritesAll s) e ss rest)
    (λ p. Off p ⊎ RefusedLater First (Refused s) e rest p) rest (by_reading s e rest r)

pub reads_on : (s : List Step) (e : List (List ℕ)) (own : List PartSeen) (mine theirs rest : List ℕ)
    (r : Result Got Wrong) → rest ≡ mine ++ theirs →
    r ≡ Ok (own, length mine) →
    by_reading s e rest r ≡ onward (own, length mine) (steps_at s (e ++ map bytes_of own) theirs)
reads_on s e own mine theirs rest r whole is =
    ap (by_reading s e rest) is
    ∙ ap (λ bs. onward (own, length mine) (steps_at s (e ++ map bytes_of own) bs))
    (ap (drop (length mine)) whole ∙ drop-append_seam mine theirs)

pass_by : (S : List ℕ → Type 0) (First : List (List ℕ) → List PartSeen → List ℕ → List ℕ → Type 0)
    (Off : ℕ → Type 0) (s : List Step) (e : List (List ℕ)) (own : List PartSeen) (mine theirs rest : List ℕ) →
    rest ≡ mine ++ theirs →
    First e own mine theirs →
    ((front tail : List ℕ) → theirs ≡ front ++ tail → Breaks (AllRight s) front tail →
    Breaks (Split S (AllRight s)) (mine ++ front) tail) →
    (r r' : Result (List PartSeen) Wrong) → r' ≡ onward (own, length mine) r →
    Comes (AllRight s) (λ ss. WritesAll s (e ++ map bytes_of own) ss theirs)
    (Refused s (e ++ map bytes_of own) theirs) theirs r →
    Comes (Split S (AllRight s)) (λ ss. WritesOn First (WritesAll s) e ss rest)
    (λ p. Off p ⊎ RefusedLater First (Refused s) e rest p) rest r'
pass_by S First Off s e own mine theirs rest whole written further r r' is (reads ss got w) =
    reads (own ++ map (shift_part (length mine)) ss) (is ∙ ap (onward (own, length mine)) got)
    (record {
      own = own;
      others = ss;
      mine = mine;
      theirs = theirs;
      parts = refl;
      bytes = whole;
      first = written;
      later = w;
    })
pass_by S First Off s e own mine theirs rest whole written further r r' is (breaks front tail cut got b) =
    breaks (mine ++ front) tail (whole ∙ ap (λ (x : List ℕ). mine ++ x) cut ∙ sym (append_assoc mine front tail))
    (is ∙ ap (onward (own, length mine)) got ∙ ap (λ p. Err (wrong_byte p)) (sym (length-append mine front)))
    (further front tail cut b)
pass_by S First Off s e own mine theirs rest whole written further r r' is (refuses p got f) =
    refuses (length mine + p) (is ∙ ap (onward (own, length mine)) got)
    (inr (record
    { own = own; mine = mine; theirs = theirs; q = p; whole = whole; first = written; later = f; place = refl }))

pub pass_on : (S : List ℕ → Type 0) (First : List (List ℕ) → List PartSeen → List ℕ → List ℕ → Type 0)
    (Off : ℕ → Type 0) (s : List Step) (e : List (List ℕ)) (own : List PartSeen) (mine theirs rest : List ℕ)
    (r : Result Got Wrong) → rest ≡ mine ++ theirs →
    r ≡ Ok (own, length mine) → First e own mine theirs →
    ((front tail : List ℕ) → theirs ≡ front ++ tail → Breaks (AllRight s) front tail →
    Breaks (Split S (AllRight s)) (mine ++ front) tail) →
    StepsCome s (e ++ map bytes_of own) theirs → FirstComes S First Off s e rest r
pass_on S First Off s e own mine theirs rest r whole is written further later =
    pass_by S First Off s e own mine theirs rest whole written further
    (steps_at s (e ++ map bytes_of own) theirs) (by_reading s e rest r)
    (reads_on s e own mine theirs rest r whole is) later

pub pass : (i : Item) (s : List Step) (e : List (List ℕ)) (own : List PartSeen) (mine theirs rest : List ℕ) →
    rest ≡ mine ++ theirs →
    item_at i e rest 0 ≡ Ok (own, length mine) → Writes i e own mine theirs →
    ((front tail : List ℕ) → theirs ≡ front ++ tail → Breaks (AllRight s) front tail →
    Breaks (AllRight (item i ∷ s)) (mine ++ front) tail) →
    StepsCome s (e ++ map bytes_of own) theirs → StepsCome (item i ∷ s) e rest
pass i s e own mine theirs rest whole is written further later =
    pass_on (Right i) (Writes i) (RefusedOne i e rest) s e own mine theirs rest (item_at i e rest 0) whole is
    written further later

pub byte_on : (S : List ℕ → Type 0) (First : List (List ℕ) → List PartSeen → List ℕ → List ℕ → Type 0)
    (Off : ℕ → Type 0) (s : List Step) (e : List (List ℕ)) (rest front tail : List ℕ) (r : Result Got Wrong) →
    rest ≡ front ++ tail →
    r ≡ Err (wrong_byte (length front)) → Breaks (Split S (AllRight s)) front tail → FirstComes S First Off s e rest r
byte_on S First Off s e rest front tail r cut is b = breaks front tail cut (ap (by_reading s e rest) is) b

pub stop_byte : (i : Item) (s : List Step) (e : List (List ℕ)) (rest front tail : List ℕ) → rest ≡ front ++ tail →
    item_at i e rest 0 ≡ Err (wrong_byte (length front)) → Breaks (AllRight (item i ∷ s)) front tail →
    StepsCome (item i ∷ s) e rest
stop_byte i s e rest front tail cut is b = breaks front tail cut (ap (by_reading s e rest) is) b

pub value_on : (S : List ℕ → Type 0) (First : List (List ℕ) → List PartSeen → List ℕ → List ℕ → Type 0)
    (Off : ℕ → Type 0) (s : List Step) (e : List (List ℕ)) (rest : List ℕ) (p : ℕ) (r : Result Got Wrong) →
    r ≡ Err (not_admitted p) → Off p → FirstComes S First Off s e rest r
value_on S First Off s e rest p r is f = refuses p (ap (by_reading s e rest) is) (inl f)

pub stop_value : (i : Item) (s : List Step) (e : List (List ℕ)) (rest : List ℕ) (p : ℕ) →
    item_at i e rest 0 ≡ Err (not_admitted p) → RefusedOne i e rest p → StepsCome (item i ∷ s) e rest
stop_value i s e rest p is f = refuses p (ap (by_reading s e rest) is) (inl f)
