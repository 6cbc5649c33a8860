-- An item takes no more bytes than there are.
use Rattle.std.proofs.Common.{◌≡◌, ℕ, ◌+◌, ◌-◌, ◌≤◌, Bool, true, false, cond, eqb, List, [], ◌∷◌, length, Ok, Err, Result, sym, refl, ap, ◌∙◌, arith, subst}
use Rattle.std.proofs.lemmas.Bool.{cond_both}
use Rattle.std.proofs.lemmas.List.{length-append}
use Rattle.jobparts.specs.Grammar.{Item, fixed, part, number, chosen, lettered, signed, text, strings, source, item_at}
use Rattle.jobparts.specs.Items.{Admits, part_at, chosen_at, own, left_out as passed_over}
use Rattle.jobparts.specs.Kinds.{stands, is_sign}
use Rattle.jobparts.specs.Parts.{PartSeen, given, Got, then, not_admitted}
use Rattle.jobparts.specs.declared.part.ByteKind.{ByteKind}
use Rattle.jobparts.specs.declared.part.ByteKind.TheVariants.{Digit}
use Rattle.jobparts.specs.declared.part.List.TheVariants.{Strings}
use Rattle.jobparts.specs.declared.part.Wrong.{Wrong}
use Rattle.grammarlaw.specs.Written.{Rule, lies_between, any, digits_slot, sign_slot}
use Rattle.grammarlaw.proofs.Parts.{PartCase, whole, short, part_case}
use Rattle.grammarlaw.proofs.Plain.{number_is, fixed_is}
use Rattle.grammarlaw.proofs.Options.{option_at, OptionCase, none, unlike, given_as, option_case, option_absent, option_other, option_led, Becomes}
use Rattle.grammarlaw.proofs.Whole.{LastCase, all, over, foreign, off, TextCase, fits, long, strange, text_case}
use Rattle.grammarlaw.proofs.Lists.{list_case}
use Rattle.grammarlaw.proofs.Sources.{strings_last, source_case}
use Rattle.grammarlaw.proofs.Reading.{lettered_digits, signed_digits, lettered_is, signed_is, lettered_becomes, signed_becomes}

abbrev pub Within : Result Got Wrong → ℕ → Type 0
Within (Ok o) n = o.1 ≤ n
Within (Err w) n = Unit {0}

within : (r q : Result Got Wrong) (n : ℕ) → r ≡ q → Within q n → Within r n
within r q n e h = subst (λ r. Within r n) (sym e) h

part_within : (k : ByteKind) (m : ℕ) (rest : List ℕ) (r : Result Got Wrong) → PartCase k m rest 0 r →
    Within r (length rest)
part_within k m rest r (whole mine theirs cut sized is) =
    within r _ _ is (omega (arith, ap length cut, length-append mine theirs, sized.count))
part_within k m rest r (short front tail cut kind lt stops is) = within r _ _ is tt

ruled_within : (t : Got → Bool) (n : ℕ) (r : Result Got Wrong) → Within r n →
    Within (then r (λ o. cond (t o) (Ok o) (Err (not_admitted 0)))) n
ruled_within t n (Ok o) h = cond_both (t o) (Ok o) (Err (not_admitted 0)) (λ r. Within r n) (λ e. h) (λ e. tt)
ruled_within t n (Err w) h = tt

chosen_within : (k : ByteKind) (n : ℕ) (admits : Admits) (e : List (List ℕ)) (rest : List ℕ) →
    Within (chosen_at k n admits e rest 0) (length rest)
chosen_within k n admits e rest =
    ruled_within _ (length rest) (part_at k n rest 0) (part_within k n rest _ (part_case k n rest 0))

fixed_within : (b : ℕ) (e : List (List ℕ)) (rest : List ℕ) (t : Bool) → stands (eqb b) rest 0 ≡ t →
    Within (item_at (fixed b) e rest 0) (length rest)
fixed_within b e [] true is = absurd (cc)
fixed_within b e (c ∷ rest) true is = within _ _ _ (fixed_is b e (c ∷ rest) true is) (omega arith)
fixed_within b e rest false is = within _ _ _ (fixed_is b e rest false is) tt

passed_within : (last : Bool) (n : ℕ) → Within (passed_over last 0 1) n
passed_within true n = tt
passed_within false n = omega arith

digits_within : (f : ℕ → Bool) (n : ℕ) (g : List ℕ → Got → Result Got Wrong) (rule : Rule)
    (as_part : ℕ → List ℕ → PartSeen) → Becomes f n g rule as_part → (c : ℕ) (t : List ℕ) (r : Result Got Wrong) →
    PartCase Digit n t 2 r → Within (then r (g (44 ∷ c ∷ t))) (length (44 ∷ c ∷ t))
digits_within f n g rule as_part becomes c t r (whole mine theirs cut sized is) =
    within _ _ _
    (ap (λ q. then q (g (44 ∷ c ∷ t))) is ∙ ap (λ bs. g (44 ∷ c ∷ bs) (given 2 mine ∷ [], 2 + n)) cut
    ∙ becomes c mine theirs sized.count)
    (cond_both (rule mine theirs) (Ok (as_part c mine ∷ [], 2 + n)) (Err (not_admitted 2))
    (λ r. Within r (length (44 ∷ c ∷ t)))
    (λ e. omega (arith, ap length cut, length-append mine theirs, sized.count)) (λ e. tt))
digits_within f n g rule as_part becomes c t r (short front tail cut kind lt stops is) =
    within _ _ _ (ap (λ q. then q (g (44 ∷ c ∷ t))) is) tt

option_within : (f : ℕ → Bool) (n : ℕ) (g : List ℕ → Got → Result Got Wrong) (rule : Rule)
    (as_part : ℕ → List ℕ → PartSeen) (last : Bool) → Becomes f n g rule as_part → (rest : List ℕ) → OptionCase f rest →
    Within (option_at f n g last rest) (length rest)
option_within f n g rule as_part last becomes rest (none bare free) =
    within _ _ _ (option_absent f n g last rest bare) (omega arith)
option_within f n g rule as_part last becomes rest (unlike t is bare other) =
    subst (λ bs. Within (option_at f n g last bs) (length bs)) (sym is)
    (within _ _ _ (option_other f n g last t (ap (λ bs. stands f bs 1) (sym is) ∙ bare))
    (passed_within last (length (44 ∷ t))))
option_within f n g rule as_part last becomes rest (given_as c t is led) =
    subst (λ bs. Within (option_at f n g last bs) (length bs)) (sym is)
    (within _ _ _ (option_led f n g last c t led)
    (digits_within f n g rule as_part becomes c t _ (part_case Digit n (44 ∷ c ∷ t) 2)))

text_within : (rest : List ℕ) (r : Result Got Wrong) → TextCase rest 0 r → Within r (length rest)
text_within rest r (fits kind few is) = within r _ _ is (omega arith)
text_within rest r (long kind lt is) = within r _ _ is tt
text_within rest r (strange front tail cut kind stops lt is) = within r _ _ is tt

last_within : {S : List ℕ → Type 0} {W : List PartSeen → List ℕ → Type 0} {Off : ℕ → Type 0} (rest : List ℕ)
    (r : Result Got Wrong) → LastCase S W Off rest r → Within r (length rest)
last_within rest r (all own is w) = within r _ _ is (omega arith)
last_within rest r (over own front tail cut is lt b) =
    within r _ _ is (omega (arith, ap length cut, length-append front tail))
last_within rest r (foreign front tail cut is b) = within r _ _ is tt
last_within rest r (off p is f) = within r _ _ is tt

pub item_within : (i : Item) (e : List (List ℕ)) (rest : List ℕ) → Within (item_at i e rest 0) (length rest)
item_within (fixed b) e rest = fixed_within b e rest (stands (eqb b) rest 0) refl
item_within (part k n) e rest = part_within k n rest _ (part_case k n rest 0)
item_within (number n low high) e rest =
    within _ _ _ (sym (number_is n low high e rest)) (chosen_within Digit n (λ e. lies_between low high) e rest)
item_within (chosen k n admits) e rest = chosen_within k n admits e rest
item_within (lettered letter n high last) e rest =
    within _ _ _ (sym (lettered_is letter n high last rest))
    (option_within (eqb letter) n (lettered_digits high) (lies_between 0 high) digits_slot last
    (lettered_becomes letter n high) rest (option_case (eqb letter) rest))
item_within (signed n last) e rest =
    within _ _ _ (sym (signed_is n last rest))
    (option_within is_sign n signed_digits any sign_slot last (signed_becomes n) rest (option_case is_sign rest))
item_within text e rest =
    text_within rest _ (text_case rest rest 0 refl (let l : length rest ≡ 0 + length rest = omega arith in l))
item_within (strings most) e rest =
    last_within rest _ (strings_last Strings (most - 1) rest (list_case Strings (most - 1) rest))
item_within (source most) e rest = last_within rest _ (source_case (most - 1) rest)
