-- The strings that stand between commas, as a split gives them, and as link numbers and link strings are made of them.
use Rattle.std.proofs.Common.{◌≡◌, ℕ, suc, ◌+◌, ◌-◌, ◌<◌, List, [], ◌∷◌, ◌++◌, map, length, take, replicate, get_or, set, sym, refl, ap, ap₂, ◌∙◌, append_assoc, inl, inr, arith}
use Rattle.std.specs.List.{enumerate_from}
use Rattle.std.proofs.lemmas.Bool.{cases_lt}
use Rattle.std.proofs.lemmas.List.FromFn.{length-enumerate_from, get_or-enumerate_from}
use Rattle.std.proofs.lemmas.List.{take_all, take_more, length-take, get_or-take, map-set, set-append_right}
use Rattle.texts.specs.Contents.{contents}
use Rattle.texts.specs.declared.text.Text.{Text}
use Rattle.jobvalues.specs.Meaning.{two_digit_number, parted, with_link, with_links, strings_of, text_of}

pub with_links_push : (ns : List ℕ) (bs : List (List ℕ)) (b : List ℕ)
    → with_links ns (bs ++ b ∷ []) ≡ with_link (with_links ns bs) (two_digit_number b)
with_links_push ns [] b = refl
with_links_push ns (x ∷ bs) b = with_links_push (with_link ns (two_digit_number x)) bs b

-- eight empty strings
pub no_strings : (bs empty : List ℕ) → empty ≡ []
    → replicate 8 empty ≡ map text_of (take 0 (parted bs) ++ replicate 8 [])
unfolding text_of
no_strings bs empty h = rw h

-- a turn over the strings with their places
pub record Turn (bs : List ℕ) (n k : ℕ) (x : List ℕ) : Type 0 where
  pub few : n < 8
  pub there : n < length (parted bs)
  pub place : k ≡ n
  pub string : x ≡ get_or (parted bs) n x

pub string_turn :
    (n k : ℕ) (x bs : List ℕ) → n < length (enumerate_from 0 (take 8 (parted bs)))
    → (k, x) ≡ get_or (enumerate_from 0 (take 8 (parted bs))) n (k, x) → Turn bs n k x
string_turn n k x bs lt at =
    let count = length-take 8 (parted bs) in
    let here : n < length (take 8 (parted bs)) = omega (arith, length-enumerate_from 0 (take 8 (parted bs))) in
    let few : n < 8 = omega arith in
    let both = at ∙ get_or-enumerate_from 0 (take 8 (parted bs)) n (k, x) here in
    let place : k ≡ 0 + n = ap (λ (p : ℕ × List ℕ). p.0) both in
    record {
      few = few;
      there = omega arith;
      place = omega arith;
      string = ap (λ (p : ℕ × List ℕ). p.1) both ∙ get_or-take 8 (parted bs) n x few;
    }

one_more :
    (n : ℕ) (xs : List (List ℕ)) (x : List ℕ) → n < 8 → n < length xs → x ≡ get_or xs n x
    → set (take n xs ++ replicate (8 - n) []) n x ≡ take (n + 1) xs ++ replicate (8 - (n + 1)) []
one_more n xs x small lt at =
    let long : length (take n xs) ≡ n = omega (arith, length-take n xs) in
    let none : n - n ≡ 0 = omega arith in
    let left : 8 - n ≡ suc (8 - (n + 1)) = omega arith in
    set-append_right (take n xs) (replicate (8 - n) []) n n x long (omega arith)
    ∙ ap₂ (λ ys i. take n xs ++ set ys i x) (ap (λ j. replicate j []) left) none
    ∙ sym (append_assoc (take n xs) (x ∷ []) (replicate (8 - (n + 1)) []))
    ∙ ap (λ y. (take n xs ++ y ∷ []) ++ replicate (8 - (n + 1)) []) at
    ∙ ap (λ ys. ys ++ replicate (8 - (n + 1)) []) (sym (take_more xs n x lt))

-- one string more
pub string_more :
    (ts : List Text) (t : Text) (bs x : List ℕ) (n m k : ℕ)
    → map contents ts ≡ map text_of (take n (parted bs) ++ replicate (8 - n) [])
    → contents t ≡ text_of x → Turn bs n k x → m ≡ n + 1
    → map contents (set ts k t) ≡ map text_of (take m (parted bs) ++ replicate (8 - m) [])
string_more ts t bs x n m k so_far reads turn next =
    map-set contents ts k t
    ∙ ap₂ (λ ys v. set ys k v) so_far reads
    ∙ ap (λ i. set (map text_of (take n (parted bs) ++ replicate (8 - n) [])) i (text_of x)) turn.place
    ∙ sym (map-set text_of (take n (parted bs) ++ replicate (8 - n) []) n x)
    ∙ ap (map text_of) (one_more n (parted bs) x turn.few turn.there turn.string)
    ∙ ap (λ i. map text_of (take i (parted bs) ++ replicate (8 - i) [])) (sym next)

pub strings_of_split : (bs : List ℕ) (n : ℕ) → n ≡ length (take 8 (parted bs))
    → map text_of (take n (parted bs) ++ replicate (8 - n) []) ≡ strings_of bs
unfolding strings_of
strings_of_split bs n e =
    let count = length-take 8 (parted bs) in
    let left : 8 - n ≡ 8 - length (parted bs) = omega arith in
    let same : take n (parted bs) ≡ take 8 (parted bs) =
    elim (cases_lt (length (parted bs)) 8) [
      | inl lt ↦ take_all n (parted bs) (omega arith) ∙ sym (take_all 8 (parted bs) (omega arith))
      | inr ge ↦ let all : n ≡ 8 = omega arith in ap (λ i. take i (parted bs)) all
    ] in
    ap₂ (λ ys i. map text_of (ys ++ replicate i [])) same left
