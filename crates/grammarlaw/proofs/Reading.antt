-- The law of a row of the table that is laid as it must be: what reading comes to.
use Rattle.std.proofs.Common.{◌≡◌, ℕ, suc, ◌+◌, ◌-◌, Bool, true, false, cond, ◌&&◌, eqb, List, [], ◌∷◌, ◌++◌, take, Ok, Err, Result, sym, refl, ap, ◌∙◌, arith, subst}
use Rattle.std.proofs.lemmas.Bool.{and_parts, eq-eqb, eqb-true}
use mathlib.Core.Logic.{◌⊎◌, inl, inr}
use Rattle.jobparts.specs.Grammar.{Item, fixed, part, number, chosen, lettered, signed, text, strings, source}
use Rattle.jobparts.specs.Items.{span, own, number_at, lettered_at, signed_at}
use Rattle.jobparts.specs.Kinds.{is_sign}
use Rattle.jobparts.specs.Parts.{given, Got, not_admitted}
use Rattle.jobparts.specs.declared.part.Wrong.{Wrong}
use Rattle.grammarlaw.specs.Laid.{no_option, follows, is_end, is_laid}
use Rattle.grammarlaw.specs.Right.{RightOption, AllRight}
use Rattle.grammarlaw.specs.Rows.{Step, anew, item}
use Rattle.grammarlaw.specs.Written.{lies_between, any, digits_slot, sign_slot, WritesOption}
use Rattle.grammarlaw.specs.Refused.{RefusedOption}
use Rattle.grammarlaw.proofs.Parts.{take_own}
use Rattle.grammarlaw.proofs.Coming.{FirstComes}
use Rattle.grammarlaw.proofs.Plain.{Later, fixed_comes, part_comes, number_comes, chosen_comes}
use Rattle.grammarlaw.proofs.Options.{Apart, option_at, Becomes, Behind, option_comes}
use Rattle.grammarlaw.proofs.Whole.{ended_comes, text_comes}
use Rattle.grammarlaw.proofs.Sources.{strings_comes, source_comes}
use Rattle.grammarlaw.proofs.Laying.{some, commas, options, next_option}

-- how the two kinds of options take their digits
abbrev pub lettered_digits : ℕ → List ℕ → Got → Result Got Wrong
lettered_digits high rest o = cond (lies_between 0 high (own o) []) (Ok o) (Err (not_admitted 2))

abbrev pub signed_digits : List ℕ → Got → Result Got Wrong
signed_digits rest o = Ok (given 1 (span rest 1 o.1) ∷ [], o.1)

pub lettered_is : (letter n high : ℕ) (last : Bool) (rest : List ℕ) →
    option_at (eqb letter) n (lettered_digits high) last rest ≡ lettered_at letter n high last rest 0
unfolding lettered_at number_at
lettered_is letter n high last rest = refl

pub signed_is : (n : ℕ) (last : Bool) (rest : List ℕ) →
    option_at is_sign n signed_digits last rest ≡ signed_at n last rest 0
unfolding signed_at
signed_is n last rest = refl

pub lettered_becomes : (letter n high : ℕ) →
    Becomes (eqb letter) n (lettered_digits high) (lies_between 0 high) digits_slot
lettered_becomes letter n high c ds theirs l = refl

pub signed_becomes : (n : ℕ) → Becomes is_sign n signed_digits any sign_slot
signed_becomes n c ds theirs l =
    ap (λ bs. Ok (given 1 bs ∷ [], 2 + n))
    (ap (λ m. take m (c ∷ (ds ++ theirs))) (let e : (2 + n) - 1 ≡ suc n = omega arith in e)
    ∙ ap (λ (x : List ℕ). c ∷ x) (take_own ds theirs n l))

-- what stands behind an option
behind_by : (f : ℕ → Bool) (last : Bool) (s : List Step) → ((c : ℕ) × (f c ≡ true)) → Apart f (AllRight s) →
    follows last s ≡ true → Later s → Behind f last s
behind_by f true s letter apart laid later =
    record {
      letter = letter;
      some = some s;
      apart = apart;
      none = λ e. commas s laid;
      next = λ e. absurd (cc);
      later = later;
    }
behind_by f false s letter apart laid later =
    record {
      letter = letter;
      some = some s;
      apart = apart;
      none = λ e. absurd (cc);
      next = λ e. next_option s laid;
      later = later;
    }

letter_apart : (letter : ℕ) (s : List Step) → no_option letter s ≡ true → Apart (eqb letter) (AllRight s)
letter_apart letter s laid c w led a =
    options letter s laid w (subst (λ z. AllRight s (44 ∷ z ∷ w)) (sym (eqb-true letter c led)) a)

sign_by : (t : Bool) (c : ℕ) → eqb c 43 ≡ t → is_sign c ≡ true → (c ≡ 43) ⊎ (c ≡ 45)
sign_by true c e led = inl (eqb-true c 43 e)
sign_by false c e led = inr (eqb-true c 45 (sym (ap (λ u. cond u true (eqb c 45)) e) ∙ led))

signs_apart_by : (s : List Step) → no_option 43 s ≡ true → no_option 45 s ≡ true → (c : ℕ) (w : List ℕ) →
    (c ≡ 43) ⊎ (c ≡ 45) → AllRight s (44 ∷ c ∷ w) → ⊥
signs_apart_by s plus minus c w (inl e) a = options 43 s plus w (subst (λ z. AllRight s (44 ∷ z ∷ w)) e a)
signs_apart_by s plus minus c w (inr e) a = options 45 s minus w (subst (λ z. AllRight s (44 ∷ z ∷ w)) e a)

signs_apart : (s : List Step) → no_option 43 s ≡ true → no_option 45 s ≡ true → Apart is_sign (AllRight s)
signs_apart s plus minus c w led a = signs_apart_by s plus minus c w (sign_by (eqb c 43) c refl led) a

lettered_comes : (letter n high : ℕ) (last : Bool) (s : List Step) → no_option letter s ≡ true →
    follows last s ≡ true → Later s → Later (item (lettered letter n high last) ∷ s)
lettered_comes letter n high last s apart laid later e rest =
    subst (FirstComes (RightOption (eqb letter) n)
    (λ e. WritesOption (eqb letter) n (lies_between 0 high) digits_slot last)
    (RefusedOption (eqb letter) n (lies_between 0 high) rest) s e rest)
    (lettered_is letter n high last rest)
    (option_comes (eqb letter) n (lettered_digits high) (lies_between 0 high) digits_slot last s e rest
    (lettered_becomes letter n high)
    (behind_by (eqb letter) last s (letter, eq-eqb letter letter refl) (letter_apart letter s apart) laid later))

signed_comes : (n : ℕ) (last : Bool) (s : List Step) → no_option 43 s ≡ true → no_option 45 s ≡ true →
    follows last s ≡ true → Later s → Later (item (signed n last) ∷ s)
signed_comes n last s plus minus laid later e rest =
    subst (FirstComes (RightOption is_sign n) (λ e. WritesOption is_sign n any sign_slot last)
    (RefusedOption is_sign n any rest) s e rest)
    (signed_is n last rest)
    (option_comes is_sign n signed_digits any sign_slot last s e rest (signed_becomes n)
    (behind_by is_sign last s (43, refl) (signs_apart s plus minus) laid later))

only_last : (i : Item) (s : List Step) → is_end s ≡ true → Later (item i ∷ []) → Later (item i ∷ s)
only_last i [] laid h = h
only_last i (x ∷ s) laid h = absurd (cc)

pub steps_come : (s : List Step) → is_laid s ≡ true → Later s
steps_come [] laid = ended_comes
steps_come (anew ∷ s) laid = λ e rest. steps_come s laid [] rest
steps_come (item (fixed b) ∷ s) laid = fixed_comes b s (some s) (steps_come s laid)
steps_come (item (part k n) ∷ s) laid = part_comes k n s (some s) (steps_come s laid)
steps_come (item (number n low high) ∷ s) laid = number_comes n low high s (some s) (steps_come s laid)
steps_come (item (chosen k n admits) ∷ s) laid = chosen_comes k n admits s (some s) (steps_come s laid)
steps_come (item (lettered letter n high last) ∷ s) laid =
    let first = and_parts (no_option letter s) (follows last s && is_laid s) laid in
    let then_laid = and_parts (follows last s) (is_laid s) first.1 in
    lettered_comes letter n high last s first.0 then_laid.0 (steps_come s then_laid.1)
steps_come (item (signed n last) ∷ s) laid =
    let first = and_parts (no_option 43 s && no_option 45 s) (follows last s && is_laid s) laid in
    let signs = and_parts (no_option 43 s) (no_option 45 s) first.0 in
    let then_laid = and_parts (follows last s) (is_laid s) first.1 in
    signed_comes n last s signs.0 signs.1 then_laid.0 (steps_come s then_laid.1)
steps_come (item text ∷ s) laid = only_last text s laid text_comes
steps_come (item (strings most) ∷ s) laid = only_last (strings most) s laid (strings_comes most)
steps_come (item (source most) ∷ s) laid = only_last (source most) s laid (source_comes most)
