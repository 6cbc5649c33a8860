-- Bytes are a text when there are not too many, and each of them is one that a text may hold.
use Rattle.std.proofs.Common.{◌≡◌, ℕ, suc, ◌≤◌, true, false, leb, List, [], ◌∷◌, length, Err, refl, arith}
use Rattle.std.proofs.lemmas.List.Folds.{list_all_at}
use Rattle.std.proofs.lemmas.Bool.Decides.{nat_tests}
use Rattle.limits.specs.Bytes.{in_text}
use Rattle.limits.specs.Limits.{longest_text}
use Rattle.texts.specs.Plain.{InTextBelow}
use Rattle.texts.specs.Contents.{Made}
use Rattle.texts.specs.declared.text.TextFault.{TextFault}
use Rattle.texts.specs.declared.text.TextFault.TheVariants.{BadByte, TooLong}
use Rattle.jobvalues.specs.Meaning.{all_in_text, text_of}

all_in : (s : List ℕ) → InTextBelow s (length s) → all_in_text s ≡ true
all_in [] h = refl
all_in (b ∷ bs) h =
    let first : in_text b ≡ true = h 0 (omega arith) in
    let rest = all_in bs (λ k lt. h (suc k) (omega arith)) in
    simp (first, rest)

pub a_text : (s : List ℕ) → length s ≤ longest_text → InTextBelow s (length s) → text_of s ≡ s
unfolding text_of
a_text s short plain =
    let all = all_in s plain in
    let fits : leb (length s) longest_text ≡ true = grind (arith, nat_tests) in
    simp (all, fits)

pub no_text : (s : List ℕ) (e : TextFault) → Made s (Err e) → text_of s ≡ []
unfolding text_of
no_text s (BadByte k) h = let no : all_in_text s ≡ false = list_all_at in_text s k 0 h.there h.bad in simp no
no_text s TooLong h =
    let all = all_in s h.1 in
    let long : leb (length s) longest_text ≡ false = grind (arith, nat_tests) in
    simp (all, long)
