-- Parts that fit mean their bytes.
use Rattle.std.proofs.Common.{◌≡◌, ◌≤◌, ◌<◌, ℕ, zero, suc, ◌+◌, ◌-◌, ◌*◌, min, Bool, true, false, cond, eqb, leb, ltb, List, [], ◌∷◌, ◌++◌, map, length, drop, replicate, pos, neg_ℤ, Ok, Err, Result, IfOk, sym, refl, ap, ap₂, ◌∙◌, arith, subst}
use Rattle.std.specs.List.{All}
use Rattle.std.proofs.lemmas.List.{append_assoc, append-nil, length-append, map-append, take_all}
use Rattle.std.proofs.lemmas.List.Splits.{slice_split_none, slice_split_at}
use Rattle.std.proofs.lemmas.Bool.{le-leb, lt-ltb, leb-true, cond-true, both_ways, eqb-true}
use mathlib.Core.Logic.{◌⊎◌, inl, inr}
use Rattle.limits.specs.Bytes.{in_text}
use Rattle.limits.specs.Limits.{longest_text}
use Rattle.fields.specs.Records.{link_taken}
use Rattle.jobparts.specs.Grammar.{Item, fixed, part, number, chosen, lettered, signed, text, strings, source}
use Rattle.jobparts.specs.Kinds.{of_kind, stands}
use Rattle.jobparts.specs.Parts.{PartSeen, missing, given, linked}
use Rattle.jobparts.specs.Values.{value_after, value, number_of}
use Rattle.jobparts.specs.declared.part.ByteKind.{ByteKind}
use Rattle.jobparts.specs.declared.part.ByteKind.TheVariants.{Digit, Capital, CapitalOrDigit, Text}
use Rattle.jobparts.specs.declared.part.List.{List as Listed}
use Rattle.jobparts.specs.declared.part.List.TheVariants.{Strings, Numbers}
use Rattle.jobgroups.specs.Commands.{CommandSeen}
use Rattle.jobgroups.specs.Table.{parts_of}
use Rattle.job.specs.declared.fault.ReadFault.{ReadFault}
use Rattle.jobvalues.specs.Meaning.{up_to, two_digit_number, all_in_text, text_of, parted, with_link, with_links, links_of, strings_of}
use Rattle.grammarlaw.specs.Fits.{IsNumber, IsSigned, IsGiven, IsOption, IsSource, PartFits, FirstFits, AllFit, CommandFits}
use Rattle.grammarlaw.specs.Meant.{Each, MeansNumber, MeansStep, MeansStrings, MeansLinks, MeansKind, OfBytes, MeansSource, PartMeant, FirstMeant, AllMeant, CommandMeant}
use Rattle.grammarlaw.specs.Right.{AllOf, Sized, Parted}
use Rattle.grammarlaw.specs.Rows.{Step, anew, item, steps_of}
use Rattle.grammarlaw.specs.Written.{IsText, IsLink, IsElement, IsList}
use Rattle.grammarlaw.proofs.Laying.{no_comma_kind}

-- digits write a number below ten to the power of how many they are
tens : ℕ → ℕ → ℕ
tens m zero = m
tens m (suc n) = tens (m * 10) n

tens_grow : (n a b : ℕ) → a ≤ b → tens a n ≤ tens b n
unfolding tens
tens_grow zero a b le = le
tens_grow (suc n) a b le = tens_grow n (a * 10) (b * 10) (omega arith)

digit_by : (t : Bool) (b : ℕ) → leb 48 b ≡ t → cond t (leb b 57) false ≡ true → b - 48 < 10
digit_by true b low e = omega (arith, leb-true b 57 e)
digit_by false b low e = absurd (cc)

digit_low : (b : ℕ) → of_kind Digit b ≡ true → b - 48 < 10
digit_low b e = digit_by (leb 48 b) b refl e

value_below : (bs : List ℕ) (n : ℕ) → AllOf Digit bs → value_after n bs < tens (n + 1) (length bs)
unfolding tens
value_below [] n h = omega arith
value_below (b ∷ bs) n h =
    let low = digit_low b h.0 in
    let more = value_below bs (n * 10 + (b - 48)) h.1 in
    let grown = tens_grow (length bs) (n * 10 + (b - 48) + 1) ((n + 1) * 10) (omega arith) in
    omega arith

one_ten : (n a : ℕ) → a ≤ tens a n
unfolding tens
one_ten zero a = omega arith
one_ten (suc n) a = let more = one_ten n (a * 10) in omega arith

tens_by : (n m a : ℕ) → n ≤ m → 1 ≤ a → tens a n ≤ tens a m
unfolding tens
tens_by zero m a le some = one_ten m a
tens_by (suc n) zero a le some = absurd (omega arith)
tens_by (suc n) (suc m) a le some = tens_by n m (a * 10) (omega arith) (omega arith)

below_4 : (n : ℕ) → n ≤ 4 → tens 1 n ≤ 10000
unfolding tens
below_4 zero le = omega arith
below_4 (suc zero) le = omega arith
below_4 (suc (suc zero)) le = omega arith
below_4 (suc (suc (suc zero))) le = omega arith
below_4 (suc (suc (suc (suc zero)))) le = omega arith
below_4 (suc (suc (suc (suc (suc n))))) le = absurd (omega arith)

below_2 : (n : ℕ) → n ≤ 2 → tens 1 n ≤ 100
unfolding tens
below_2 zero le = omega arith
below_2 (suc zero) le = omega arith
below_2 (suc (suc zero)) le = omega arith
below_2 (suc (suc (suc n))) le = absurd (omega arith)

number_is : (bs : List ℕ) → length bs ≤ 10 → number_of bs ≡ value bs
unfolding number_of
number_is bs le = ap value (take_all 10 bs le)

min_is : (a high : ℕ) → a ≤ high → min a high ≡ a
min_is a high le = omega arith

sized_value : (n : ℕ) (bs : List ℕ) → Sized Digit n bs → value bs < tens 1 n
sized_value n bs s = subst (λ m. value bs < tens 1 m) s.count (value_below bs 0 s.kind)

means_number : (n : ℕ) (bs : List ℕ) → Sized Digit n bs → MeansNumber n bs
means_number n bs s =
    record {
      whole = λ le. number_is bs (omega (arith, s.count));
      four_digit_number = λ le. ap (λ m. min m 9999) (number_is bs (omega (arith, s.count)))
          ∙ min_is (value bs) 9999 (omega (arith, sized_value n bs s, below_4 n le));
      two_digit_number = λ le. ap (λ m. min m 99) (number_is bs (omega (arith, s.count)))
          ∙ min_is (value bs) 99 (omega (arith, sized_value n bs s, below_2 n le));
    }

means_kind : (k : ByteKind) (n : ℕ) (bs : List ℕ) → Sized k n bs → MeansKind k n bs
means_kind Digit n bs s = means_number n bs s
means_kind Capital n bs s = tt
means_kind CapitalOrDigit n bs s = tt
means_kind Text n bs s = tt

-- texts
all_text : (bs : List ℕ) → AllOf Text bs → all_in_text bs ≡ true
all_text [] h = refl
all_text (b ∷ bs) h =
    let first : in_text b ≡ true = h.0 in
    let rest = all_text bs h.1 in
    simp (first, rest)

means_text : (bs : List ℕ) → IsText bs → text_of bs ≡ bs
unfolding text_of
means_text bs t =
    let all = all_text bs t.kind in
    let short : leb (length bs) longest_text ≡ true = le-leb (length bs) longest_text t.short in
    simp (all, short)

-- an element has no comma, so a list falls into its elements
no_comma_by : (k : ByteKind) (b : ℕ) (t : Bool) → eqb b 44 ≡ t → of_kind k b ≡ true → t ≡ false
no_comma_by k b false e h = refl
no_comma_by k b true e h =
    absurd (both_ways (of_kind k 44) (no_comma_kind k) (ap (of_kind k) (sym (eqb-true b 44 e)) ∙ h))

kind_free : (k : ByteKind) (bs : List ℕ) → AllOf k bs → All (λ x. eqb x 44 ≡ false) bs
kind_free k [] h i d lt = absurd (omega arith)
kind_free k (b ∷ bs) h zero d lt = no_comma_by k b (eqb b 44) refl h.0
kind_free k (b ∷ bs) h (suc i) d lt = kind_free k bs h.1 i d (omega arith)

element_free : (list : Listed) (bs : List ℕ) → IsElement list bs → All (λ x. eqb x 44 ≡ false) bs
element_free Strings bs h = kind_free Text bs h.kind
element_free Numbers bs h = kind_free Digit bs h.digits.kind

record Pieces (list : Listed) (most : ℕ) (xs : List (List ℕ)) : Type 0 where
  few : length xs ≤ most
  each : Each (IsElement list) xs

one_piece : (list : Listed) (further : ℕ) (bs : List ℕ) → IsElement list bs → Pieces list (suc further) (parted bs)
one_piece list further bs h =
    subst (Pieces list (suc further)) (sym (slice_split_none (λ b. eqb b 44) bs (element_free list bs h)))
    (record { few = omega arith; each = (h, tt) })

more_pieces : (list : Listed) (further : ℕ) (bs : List ℕ) →
    ((t : List ℕ) → IsList list further t → Pieces list (suc further) (parted t)) →
    IsElement list bs ⊎ Parted (IsElement list) (IsList list further) bs →
    Pieces list (suc (suc further)) (parted bs)
more_pieces list further bs later (inl h) = one_piece list (suc further) bs h
more_pieces list further bs later (inr p) =
    let rest = later p.theirs p.later in
    subst (Pieces list (suc (suc further)))
    (sym (ap parted p.whole
    ∙ slice_split_at (λ b. eqb b 44) p.mine 44 p.theirs (element_free list p.mine p.first) refl))
    (record { few = omega (arith, rest.few); each = (p.first, rest.each) })

list_pieces : (list : Listed) (further : ℕ) (bs : List ℕ) → IsList list further bs →
    Pieces list (suc further) (parted bs)
list_pieces list zero bs h = one_piece list zero bs h
list_pieces list (suc further) bs h = more_pieces list further bs (list_pieces list further) h

texts_meant : (xs : List (List ℕ)) → Each IsText xs → map text_of xs ≡ xs
texts_meant [] h = refl
texts_meant (x ∷ xs) h = ap₂ (λ y ys. y ∷ ys) (means_text x h.0) (texts_meant xs h.1)

no_text : text_of [] ≡ []
unfolding text_of
no_text = refl

empties : (n : ℕ) → map text_of (replicate n []) ≡ replicate n []
empties zero = refl
empties (suc n) = ap₂ (λ y ys. y ∷ ys) no_text (empties n)

strings_are : (bs : List ℕ) → length (parted bs) ≤ 8 → Each IsText (parted bs) →
    strings_of bs ≡ parted bs ++ replicate (8 - length (parted bs)) []
unfolding strings_of
strings_are bs few each =
    ap (λ xs. map text_of (xs ++ replicate (8 - length (parted bs)) [])) (take_all 8 (parted bs) few)
    ∙ map-append text_of (parted bs) (replicate (8 - length (parted bs)) [])
    ∙ ap₂ (λ xs ys. xs ++ ys) (texts_meant (parted bs) each) (empties (8 - length (parted bs)))

means_strings : (further : ℕ) (bs : List ℕ) → IsList Strings further bs → MeansStrings (suc further) bs
means_strings further bs h =
    let p = list_pieces Strings further bs h in
    record { few = p.few; each = p.each; strings = λ le. strings_are bs (omega (arith, p.few)) p.each }

link_joins : (ns : List ℕ) (b : List ℕ) → length ns < 4 → IsLink b
    → with_link ns (two_digit_number b) ≡ ns ++ number_of b ∷ []
unfolding with_link
link_joins ns b room h =
    let n = means_number 2 b h.digits in
    let is : two_digit_number b ≡ number_of b = n.two_digit_number (omega arith) ∙ sym (n.whole (omega arith)) in
    let few : ltb (length ns) 4 ≡ true = lt-ltb (length ns) 4 room in
    let taken : link_taken ns (number_of b) ≡ true = cond-true _ _ _ few ∙ h.admitted in
    ap (λ m. cond (link_taken ns m) (ns ++ m ∷ []) ns) is ∙ cond-true _ _ _ taken

length_push_is : (ns : List ℕ) (n : ℕ) → length (ns ++ n ∷ []) ≡ length ns + 1
length_push_is ns n = length-append ns (n ∷ [])

links_join : (xs : List (List ℕ)) (ns : List ℕ) → Each IsLink xs → length ns + length xs ≤ 4 →
    with_links ns xs ≡ ns ++ map number_of xs
links_join [] ns h le = sym (append-nil ns)
links_join (x ∷ xs) ns h le =
    ap (λ ms. with_links ms xs) (link_joins ns x (omega arith) h.0)
    ∙ links_join xs (ns ++ number_of x ∷ []) h.1 (omega (arith, length_push_is ns (number_of x)))
    ∙ append_assoc ns (number_of x ∷ []) (map number_of xs)

links_are : (bs : List ℕ) → length (parted bs) ≤ 4 → Each IsLink (parted bs) → links_of bs ≡ map number_of (parted bs)
unfolding links_of
links_are bs few each = ap (with_links []) (take_all 4 (parted bs) few) ∙ links_join (parted bs) [] each (omega arith)

means_links : (further : ℕ) (bs : List ℕ) → IsList Numbers further bs → MeansLinks (suc further) bs
means_links further bs h =
    let p = list_pieces Numbers further bs h in
    record { few = p.few; each = p.each; links = λ le. links_are bs (omega (arith, p.few)) p.each }

tens_more : (n m : ℕ) → n ≤ m → tens 1 n ≤ tens 1 m
tens_more n m le = tens_by n m 1 le (omega arith)

below_10 : (n : ℕ) → n ≤ 10 → tens 1 n ≤ 10000000000
unfolding tens
below_10 n le = tens_more n 10 le

means_step : (n : ℕ) (bs : List ℕ) → IsSigned n bs → n ≤ 10 → MeansStep bs
means_step n bs s le =
    let ds = s.digits in
    let behind : drop 1 bs ≡ s.digits = ap (drop 1) s.whole in
    let v = number_is s.digits (omega (arith, s.sized.count)) in
    let below : value s.digits ≤ 9999999999 = omega (arith, sized_value n s.digits s.sized, below_10 n le) in
    let is : up_to 9999999999 (drop 1 bs) ≡ value (drop 1 bs) =
    ap (up_to 9999999999) behind ∙ ap (λ m. min m 9999999999) v ∙ min_is (value s.digits) 9999999999 below
    ∙ ap value (sym behind) in
    record { step = ap (λ m. cond (stands (eqb 45) bs 0) (neg_ℤ (pos m)) (pos m)) is }

-- parts
given_means : (P Q : List ℕ → Type 0) → ((bs : List ℕ) → P bs → Q bs) → (s : PartSeen) → IsGiven P s → OfBytes Q s
given_means P Q h missing f = tt
given_means P Q h (given p bs) f = h bs f
given_means P Q h (linked p bs) f = absurd f

option_means : (P Q : List ℕ → Type 0) → ((bs : List ℕ) → P bs → Q bs) → (s : PartSeen) → IsOption P s → OfBytes Q s
option_means P Q h missing f = tt
option_means P Q h (given p bs) f = h bs f
option_means P Q h (linked p bs) f = absurd f

source_means : (further : ℕ) (s : PartSeen) → IsSource further s → MeansSource (suc further) s
source_means further missing f = tt
source_means further (given p bs) f = means_text bs f
source_means further (linked p bs) f = means_links further bs f

part_means : (i : Item) (s : PartSeen) → PartFits i s → PartMeant i s
part_means (fixed b) s f = tt
part_means (part k n) s f = given_means (Sized k n) (MeansKind k n) (means_kind k n) s f
part_means (number n low high) s f =
    given_means (IsNumber n low high) (MeansNumber n) (λ bs h. means_number n bs h.digits) s f
part_means (chosen k n admits) s f = given_means (Sized k n) (MeansKind k n) (means_kind k n) s f
part_means (lettered letter n high last) s f =
    option_means (IsNumber n 0 high) (MeansNumber n) (λ bs h. means_number n bs h.digits) s f
part_means (signed n last) s f = option_means (IsSigned n) (λ bs. n ≤ 10 → MeansStep bs) (means_step n) s f
part_means text s f = given_means IsText (λ bs. text_of bs ≡ bs) means_text s f
part_means (strings most) s f = given_means (IsList Strings (most - 1)) (MeansStrings (suc (most - 1)))
    (means_strings (most - 1)) s f
part_means (source most) s f = source_means (most - 1) s f

first_means : (i : Item) (steps : List Step) (ss : List PartSeen) →
    ((ss : List PartSeen) → AllFit steps ss → AllMeant steps ss) → FirstFits i (AllFit steps) ss →
    FirstMeant i (AllMeant steps) ss
first_means i steps [] later f = f
first_means i steps (s ∷ ss) later f = (part_means i s f.0, later ss f.1)

pub all_mean : (steps : List Step) (ss : List PartSeen) → AllFit steps ss → AllMeant steps ss
all_mean [] ss f = f
all_mean (anew ∷ steps) ss f = all_mean steps ss f
all_mean (item (fixed b) ∷ steps) ss f = all_mean steps ss f
all_mean (item (part k n) ∷ steps) ss f = first_means (part k n) steps ss (all_mean steps) f
all_mean (item (number n low high) ∷ steps) ss f = first_means (number n low high) steps ss (all_mean steps) f
all_mean (item (chosen k n admits) ∷ steps) ss f = first_means (chosen k n admits) steps ss (all_mean steps) f
all_mean (item (lettered letter n high last) ∷ steps) ss f =
    first_means (lettered letter n high last) steps ss (all_mean steps) f
all_mean (item (signed n last) ∷ steps) ss f = first_means (signed n last) steps ss (all_mean steps) f
all_mean (item text ∷ steps) ss f = first_means text steps ss (all_mean steps) f
all_mean (item (strings most) ∷ steps) ss f = first_means (strings most) steps ss (all_mean steps) f
all_mean (item (source most) ∷ steps) ss f = first_means (source most) steps ss (all_mean steps) f

pub meant_if : (r : Result CommandSeen ReadFault) → IfOk r CommandFits → IfOk r CommandMeant
meant_if (Ok p) f = all_mean (steps_of (parts_of p.letters)) p.parts f
meant_if (Err e) f = tt
