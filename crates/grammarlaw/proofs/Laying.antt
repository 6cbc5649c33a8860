-- What the test of a table's row says, and the law of rows that pass it.
use Rattle.std.proofs.Common.{◌≡◌, ℕ, ◌-◌, Bool, true, false, not, eqb, List, [], ◌∷◌, ◌++◌, replicate, sym, refl, ap, ◌∙◌, subst}
use Rattle.std.proofs.lemmas.Bool.{and_parts, both_ways, not-true, eqb-false, eq-eqb}
use Rattle.jobparts.specs.Grammar.{Item, fixed, part, number, chosen, lettered, signed, text, strings, source}
use Rattle.jobparts.specs.Kinds.{of_kind, is_sign}
use Rattle.jobparts.specs.declared.part.ByteKind.{ByteKind}
use Rattle.jobparts.specs.declared.part.ByteKind.TheVariants.{Digit, Capital, CapitalOrDigit, Text}
use Rattle.jobparts.specs.declared.part.List.TheVariants.{Strings}
use Rattle.grammarlaw.specs.Laid.{no_comma, no_option, option_next}
use Rattle.grammarlaw.specs.Right.{AllOf, Split, RightOption, absent, sent, RightSource, nothing, of_text, of_links, Right, AllRight}
use Rattle.grammarlaw.specs.Rows.{Step, anew, item}
use Rattle.grammarlaw.proofs.Breaking.{same_head, samples, sample}
use Rattle.grammarlaw.proofs.Elements.{as_list}

-- each list of steps has a body that is right
one : (i : Item) → (w : List ℕ) × Right i w
one (fixed b) = (b ∷ [], refl)
one (part k n) = (replicate n (sample k), samples k n)
one (number n low high) = (replicate n (sample Digit), samples Digit n)
one (chosen k n admits) = (replicate n (sample k), samples k n)
one (lettered letter n high last) = ([], absent refl)
one (signed n last) = ([], absent refl)
one text = ([], tt)
one (strings most) = ([], as_list Strings (most - 1) [] tt)
one (source most) = ([], nothing refl)

pub some : (s : List Step) → (w : List ℕ) × AllRight s w
some [] = ([], refl)
some (anew ∷ s) = some s
some (item i ∷ s) = (
  (one i).0 ++ (some s).0,
  record
      { mine = (one i).0; theirs = (some s).0; whole = refl; first = (one i).1; later = (some s).1 },
)

pub no_comma_kind : (k : ByteKind) → of_kind k 44 ≡ false
no_comma_kind Digit = refl
no_comma_kind Capital = refl
no_comma_kind CapitalOrDigit = refl
no_comma_kind Text = refl

-- bytes of a kind are none, or begin with no comma
kind_front : {X : Type 0} (k : ByteKind) (m t w : List ℕ) → AllOf k m → 44 ∷ w ≡ m ++ t → (44 ∷ w ≡ t → X) → X
kind_front k [] t w all e next = next e
kind_front k (b ∷ m) t w all e next =
    let first : 44 ≡ b = cc in
    absurd (both_ways (of_kind k b) (ap (of_kind k) (sym first) ∙ no_comma_kind k) all.0)

source_front : {X : Type 0} (further : ℕ) (m t w : List ℕ) → RightSource further m → 44 ∷ w ≡ m ++ t →
    (44 ∷ w ≡ t → X) → X
source_front further m t w (nothing s) e next = next (e ∙ ap (λ x. x ++ t) s)
source_front further m t w (of_text u s h) e next =
    absurd (eqb-false 44 61 refl (same_head 44 61 w (u ++ t) (e ∙ ap (λ x. x ++ t) s)))
source_front further m t w (of_links u s h) e next =
    absurd (eqb-false 44 59 refl (same_head 44 59 w (u ++ t) (e ∙ ap (λ x. x ++ t) s)))

fixed_front : (b : ℕ) (m t w : List ℕ) → not (eqb b 44) ≡ true → m ≡ b ∷ [] → 44 ∷ w ≡ m ++ t → ⊥
fixed_front b m t w laid s e =
    let first : 44 ∷ w ≡ b ∷ t = e ∙ ap (λ x. x ++ t) s in
    let same : 44 ≡ b = cc in
    eqb-false b 44 (not-true _ laid) (sym same)

-- an option is left out, or begins with a comma and its own byte
option_front : {X : Type 0} (f : ℕ → Bool) (n : ℕ) (c : ℕ) (m t w : List ℕ) → f c ≡ false → RightOption f n m →
    44 ∷ c ∷ w ≡ m ++ t → (44 ∷ c ∷ w ≡ t → X) → X
option_front f n c m t w off (absent s) e next = next (e ∙ ap (λ x. x ++ t) s)
option_front f n c m t w off (sent d ds s led sized) e next =
    let first : 44 ∷ c ∷ w ≡ 44 ∷ d ∷ (ds ++ t) = e ∙ ap (λ x. x ++ t) s in
    let same : c ≡ d = cc in
    absurd (both_ways (f d) (ap f (sym same) ∙ off) led)

pub commas : (s : List Step) → no_comma s ≡ true → (w : List ℕ) → AllRight s (44 ∷ w) → ⊥
commas [] laid w e = cc
commas (anew ∷ s) laid w a = commas s laid w a
commas (item (fixed b) ∷ s) laid w a = fixed_front b a.mine a.theirs w laid a.first a.whole
commas (item (part k n) ∷ s) laid w a =
    kind_front k a.mine a.theirs w a.first.kind a.whole (λ e. commas s laid w (subst (AllRight s) (sym e) a.later))
commas (item (number n low high) ∷ s) laid w a = kind_front Digit a.mine a.theirs w a.first.kind a.whole
    (λ e. commas s laid w (subst (AllRight s) (sym e) a.later))
commas (item (chosen k n admits) ∷ s) laid w a =
    kind_front k a.mine a.theirs w a.first.kind a.whole (λ e. commas s laid w (subst (AllRight s) (sym e) a.later))
commas (item (lettered letter n high last) ∷ s) laid w a = absurd (cc)
commas (item (signed n last) ∷ s) laid w a = absurd (cc)
commas (item text ∷ s) laid w a =
    kind_front Text a.mine a.theirs w a.first a.whole (λ e. commas s laid w (subst (AllRight s) (sym e) a.later))
commas (item (strings most) ∷ s) laid w a = absurd (cc)
commas (item (source most) ∷ s) laid w a = source_front (most - 1) a.mine a.theirs w a.first a.whole
    (λ e. commas s laid w (subst (AllRight s) (sym e) a.later))

pub options : (c : ℕ) (s : List Step) → no_option c s ≡ true → (w : List ℕ) → AllRight s (44 ∷ c ∷ w) → ⊥
options c [] laid w e = cc
options c (anew ∷ s) laid w a = options c s laid w a
options c (item (fixed b) ∷ s) laid w a = fixed_front b a.mine a.theirs (c ∷ w) laid a.first a.whole
options c (item (part k n) ∷ s) laid w a = kind_front k a.mine a.theirs (c ∷ w) a.first.kind a.whole
    (λ e. options c s laid w (subst (AllRight s) (sym e) a.later))
options c (item (number n low high) ∷ s) laid w a =
    kind_front Digit a.mine a.theirs (c ∷ w) a.first.kind a.whole
    (λ e. options c s laid w (subst (AllRight s) (sym e) a.later))
options c (item (chosen k n admits) ∷ s) laid w a = kind_front k a.mine a.theirs (c ∷ w) a.first.kind a.whole
    (λ e. options c s laid w (subst (AllRight s) (sym e) a.later))
options c (item (lettered letter n high last) ∷ s) laid w a =
    let both = and_parts (not (eqb letter c)) (no_option c s) laid in
    option_front (eqb letter) n c a.mine a.theirs w (not-true _ both.0) a.first a.whole
    (λ e. options c s both.1 w (subst (AllRight s) (sym e) a.later))
options c (item (signed n last) ∷ s) laid w a =
    let both = and_parts (not (is_sign c)) (no_option c s) laid in
    option_front is_sign n c a.mine a.theirs w (not-true _ both.0) a.first a.whole
    (λ e. options c s both.1 w (subst (AllRight s) (sym e) a.later))
options c (item text ∷ s) laid w a =
    kind_front Text a.mine a.theirs (c ∷ w) a.first a.whole
    (λ e. options c s laid w (subst (AllRight s) (sym e) a.later))
options c (item (strings most) ∷ s) laid w a = absurd (cc)
options c (item (source most) ∷ s) laid w a = source_front (most - 1) a.mine a.theirs (c ∷ w) a.first a.whole
    (λ e. options c s laid w (subst (AllRight s) (sym e) a.later))

with_comma : (f : ℕ → Bool) (n c : ℕ) (s : List Step) → f c ≡ true →
    (w : List ℕ) × Split (RightOption f n) (AllRight s) (44 ∷ w)
with_comma f n c s led = (
  c ∷ (replicate n (sample Digit) ++ (some s).0),
  record {
    mine = 44 ∷ c ∷ replicate n (sample Digit);
    theirs = (some s).0;
    whole = refl;
    first = sent c (replicate n (sample Digit)) refl led (samples Digit n);
    later = (some s).1;
  },
)

pub next_option : (s : List Step) → option_next s ≡ true → (w : List ℕ) × AllRight s (44 ∷ w)
next_option [] laid = absurd (cc)
next_option (anew ∷ s) laid = next_option s laid
next_option (item (fixed b) ∷ s) laid = absurd (cc)
next_option (item (part k n) ∷ s) laid = absurd (cc)
next_option (item (number n low high) ∷ s) laid = absurd (cc)
next_option (item (chosen k n admits) ∷ s) laid = absurd (cc)
next_option (item (lettered letter n high last) ∷ s) laid =
    with_comma (eqb letter) n letter s (eq-eqb letter letter refl)
next_option (item (signed n last) ∷ s) laid = with_comma is_sign n 43 s refl
next_option (item text ∷ s) laid = absurd (cc)
next_option (item (strings most) ∷ s) laid = absurd (cc)
next_option (item (source most) ∷ s) laid = absurd (cc)
