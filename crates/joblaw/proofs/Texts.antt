-- Texts, lists, options and sources, moved like the smaller things that they are made of.
use Rattle.std.proofs.Common.{◌≡◌, ℕ, zero, suc, ◌+◌, ◌-◌, Bool, cond, eqb, ltb, leb, List, [], ◌∷◌, ◌++◌, map, length, take, drop, Ok, Err, Result, sym, refl, ap, ◌∙◌, add_assoc, arith}
use Rattle.std.proofs.Math.Seq.{drop-append-add}
use Rattle.limits.specs.Limits.{longest_text}
use Rattle.jobparts.specs.Items.{end_at, admitted_at, part_at, own, number_at, chosen_at, Admits, text_stop, span, text_at, stopped_at, string_at, link_at, element_at, list_at, list_part_at, left_out, lettered_at, signed_at, as_links, source_at}
use Rattle.jobparts.specs.Kinds.{run, stands, is_sign}
use Rattle.jobparts.specs.Parts.{PartSeen, missing, given, linked, then, wrong_byte, not_admitted}
use Rattle.jobparts.specs.declared.part.ByteKind.{ByteKind}
use Rattle.jobparts.specs.declared.part.ByteKind.TheVariants.{Digit, Text}
use Rattle.jobparts.specs.declared.part.List.{List as Listed}
use Rattle.jobparts.specs.declared.part.List.TheVariants.{Strings, Numbers}
use Rattle.jobparts.specs.declared.part.Wrong.{Wrong}
use Rattle.joblaw.specs.Located.{shift_part, shift_got, moved}
use Rattle.joblaw.proofs.Leaves.{moved_cond, then_moved, stands_moved, order_moved, own_same, part_moves, number_moves}

pub cond_moved : {X : Type 0} (f : X → X) (s : ℕ) (t t' : Bool) (x x' y y' : Result X Wrong) → t' ≡ t
    → x' ≡ moved f s x → y' ≡ moved f s y → cond t' x' y' ≡ moved f s (cond t x y)
cond_moved f s t t' x x' y y' et ex ey =
    ap (λ b. cond b x' y') et ∙ ap (λ q. cond t q y') ex ∙ ap (λ q. cond t (moved f s x) q) ey
    ∙ sym (moved_cond f s t x y)

pub end_moves : (pre body : List ℕ) (at : ℕ)
    → end_at (pre ++ body) (length pre + at) ≡ moved (λ u. u) (length pre) (end_at body at)
unfolding end_at
end_moves pre body at = cond_moved (λ u. u) (length pre) (ltb at (length body)) _ (Err (wrong_byte at)) _ (Ok tt) _
    (order_moved pre body at) refl refl

admitted_moves : (s at : ℕ) (t : Bool) → admitted_at t (s + at) ≡ moved (λ u. u) s (admitted_at t at)
admitted_moves s at t = cond_moved (λ u. u) s t t (Ok tt) (Ok tt) (Err (not_admitted at)) _ refl refl refl

stop_moved : (pre body : List ℕ) (at : ℕ) → text_stop (pre ++ body) (length pre + at) ≡ length pre + text_stop body at
stop_moved pre body at =
    ap (λ rest. length pre + at + run Text rest) (drop-append-add pre body at)
    ∙ add_assoc (length pre) at (run Text (drop at body))

same_gap : (s a b : ℕ) → (s + b) - (s + a) ≡ b - a
same_gap s a b = omega arith

pub span_moved : (pre body : List ℕ) (a b : ℕ) → span (pre ++ body) (length pre + a) (length pre + b) ≡ span body a b
span_moved pre body a b =
    ap (λ n. take n (drop (length pre + a) (pre ++ body))) (same_gap (length pre) a b)
    ∙ ap (take (b - a)) (drop-append-add pre body a)

pub text_moves : (pre body : List ℕ) (at : ℕ)
    → text_at (pre ++ body) (length pre + at) ≡ moved (shift_got (length pre)) (length pre) (text_at body at)
unfolding text_at
text_moves pre body at =
    ap (λ s. then (end_at (pre ++ body) s)
    (λ _. then (admitted_at (leb (s - (length pre + at)) longest_text) (length pre + at))
    (λ _. Ok (given (length pre + at) (span (pre ++ body) (length pre + at) s) ∷ [], s))))
    (stop_moved pre body at)
    ∙ then_moved (λ u. u) (shift_got (length pre)) (length pre) _ _ _ _ (end_moves pre body (text_stop body at))
    (λ _. then_moved (λ u. u) (shift_got (length pre)) (length pre) _ _ _ _
    (ap (λ n. admitted_at (leb n longest_text) (length pre + at)) (same_gap (length pre) at (text_stop body at))
    ∙ admitted_moves (length pre) at (leb (text_stop body at - at) longest_text))
    (λ _. ap (λ bs. Ok (given (length pre + at) bs ∷ [], length pre + text_stop body at))
    (span_moved pre body at (text_stop body at))))

stopped_moves : (pre body : List ℕ) (at : ℕ)
    → stopped_at (pre ++ body) (length pre + at) ≡ moved (λ u. u) (length pre) (stopped_at body at)
stopped_moves pre body at =
    cond_moved (λ u. u) (length pre) (stands (eqb 44) body at) _ (Ok tt) _ (end_at body at) _
    (stands_moved (eqb 44) pre body at) refl (end_moves pre body at)

string_moves : (pre body : List ℕ) (at : ℕ)
    → string_at (pre ++ body) (length pre + at) ≡ moved (λ n. length pre + n) (length pre) (string_at body at)
unfolding string_at
string_moves pre body at =
    ap (λ s. then (stopped_at (pre ++ body) s)
    (λ _. then (admitted_at (leb (s - (length pre + at)) longest_text) (length pre + at)) (λ _. Ok s)))
    (stop_moved pre body at)
    ∙ then_moved (λ u. u) (λ n. length pre + n) (length pre) _ _ _ _ (stopped_moves pre body (text_stop body at))
    (λ _. then_moved (λ u. u) (λ n. length pre + n) (length pre) _ _ _ _
    (ap (λ n. admitted_at (leb n longest_text) (length pre + at)) (same_gap (length pre) at (text_stop body at))
    ∙ admitted_moves (length pre) at (leb (text_stop body at - at) longest_text))
    (λ _. refl))

link_moves : (pre body : List ℕ) (at : ℕ)
    → link_at (pre ++ body) (length pre + at) ≡ moved (λ n. length pre + n) (length pre) (link_at body at)
unfolding link_at
link_moves pre body at =
    then_moved (shift_got (length pre)) (λ n. length pre + n) (length pre) _ _ _ _ (number_moves 2 1 8 pre body at)
    (λ _. refl)

element_moves : (list : Listed) (pre body : List ℕ) (at : ℕ)
    → element_at list (pre ++ body) (length pre + at)
    ≡ moved (λ n. length pre + n) (length pre) (element_at list body at)
unfolding element_at
element_moves Strings pre body at = string_moves pre body at
element_moves Numbers pre body at = link_moves pre body at

pub list_moves : (list : Listed) (further : ℕ) (pre body : List ℕ) (at : ℕ)
    → list_at list further (pre ++ body) (length pre + at)
    ≡ moved (λ n. length pre + n) (length pre) (list_at list further body at)
list_moves list zero pre body at = element_moves list pre body at
list_moves list (suc further) pre body at =
    then_moved (λ n. length pre + n) (λ n. length pre + n) (length pre) _ _ _ _ (element_moves list pre body at)
    (λ next. cond_moved (λ n. length pre + n) (length pre) (stands (eqb 44) body next) _
    (list_at list further body (next + 1)) _ (Ok next) _
    (stands_moved (eqb 44) pre body next)
    (ap (list_at list further (pre ++ body)) (add_assoc (length pre) next 1)
    ∙ list_moves list further pre body (next + 1))
    refl)

pub list_part_moves : (list : Listed) (further : ℕ) (pre body : List ℕ) (at : ℕ)
    → list_part_at list further (pre ++ body) (length pre + at)
    ≡ moved (shift_got (length pre)) (length pre) (list_part_at list further body at)
unfolding list_part_at
list_part_moves list further pre body at =
    then_moved (λ n. length pre + n) (shift_got (length pre)) (length pre) _ _ _ _ (list_moves list further pre body at)
    (λ next. ap (λ bs. Ok (given (length pre + at) bs ∷ [], length pre + next)) (span_moved pre body at next))

left_out_moves : (last : Bool) (s at : ℕ)
    → left_out last (s + at) (s + at + 1) ≡ moved (shift_got s) s (left_out last at (at + 1))
left_out_moves last s at =
    cond_moved (shift_got s) s last last (Err (wrong_byte (at + 1))) _ (Ok (missing ∷ [], at)) _ refl
    (ap (λ p. Err (wrong_byte p)) (add_assoc s at 1)) refl

two_on : (s at : ℕ) → s + at + 1 + 1 ≡ s + (at + 1 + 1)
two_on s at = omega arith

pub lettered_moves : (letter n high : ℕ) (last : Bool) (pre body : List ℕ) (at : ℕ) →
    lettered_at letter n high last (pre ++ body) (length pre + at)
    ≡ moved (shift_got (length pre)) (length pre) (lettered_at letter n high last body at)
unfolding lettered_at
lettered_moves letter n high last pre body at =
    cond_moved (shift_got (length pre)) (length pre) (stands (eqb 44) body at) _
    (cond (stands (eqb letter) body (at + 1)) (number_at n 0 high body (at + 1 + 1)) (left_out last at (at + 1))) _
    (Ok (missing ∷ [], at)) _
    (stands_moved (eqb 44) pre body at)
    (cond_moved (shift_got (length pre)) (length pre) (stands (eqb letter) body (at + 1)) _
    (number_at n 0 high body (at + 1 + 1)) _ (left_out last at (at + 1)) _
    (ap (stands (eqb letter) (pre ++ body)) (add_assoc (length pre) at 1) ∙ stands_moved (eqb letter) pre body (at + 1))
    (ap (number_at n 0 high (pre ++ body)) (two_on (length pre) at) ∙ number_moves n 0 high pre body (at + 1 + 1))
    (left_out_moves last (length pre) at))
    refl

pub signed_moves : (n : ℕ) (last : Bool) (pre body : List ℕ) (at : ℕ) →
    signed_at n last (pre ++ body) (length pre + at)
    ≡ moved (shift_got (length pre)) (length pre) (signed_at n last body at)
unfolding signed_at
signed_moves n last pre body at =
    cond_moved (shift_got (length pre)) (length pre) (stands (eqb 44) body at) _
    (cond (stands is_sign body (at + 1))
    (then (part_at Digit n body (at + 1 + 1)) (λ o. Ok (given (at + 1) (span body (at + 1) o.1) ∷ [], o.1)))
    (left_out last at (at + 1))) _
    (Ok (missing ∷ [], at)) _
    (stands_moved (eqb 44) pre body at)
    (cond_moved (shift_got (length pre)) (length pre) (stands is_sign body (at + 1)) _
    (then (part_at Digit n body (at + 1 + 1)) (λ o. Ok (given (at + 1) (span body (at + 1) o.1) ∷ [], o.1))) _
    (left_out last at (at + 1)) _
    (ap (stands is_sign (pre ++ body)) (add_assoc (length pre) at 1) ∙ stands_moved is_sign pre body (at + 1))
    (ap (λ i. then (part_at Digit n (pre ++ body) (length pre + at + 1 + 1))
    (λ o. Ok (given i (span (pre ++ body) i o.1) ∷ [], o.1))) (add_assoc (length pre) at 1)
    ∙ ap (λ i. then (part_at Digit n (pre ++ body) i)
    (λ o. Ok (given (length pre + (at + 1)) (span (pre ++ body) (length pre + (at + 1)) o.1) ∷ [], o.1)))
    (two_on (length pre) at)
    ∙ then_moved (shift_got (length pre)) (shift_got (length pre)) (length pre) _ _ _ _
    (part_moves Digit n pre body (at + 1 + 1))
    (λ o. ap (λ bs. Ok (given (length pre + (at + 1)) bs ∷ [], length pre + o.1)) (span_moved pre body (at + 1) o.1)))
    (left_out_moves last (length pre) at))
    refl

as_links_same : (s : ℕ) (x : PartSeen) → as_links (shift_part s x) ≡ shift_part s (as_links x)
as_links_same s missing = refl
as_links_same s (given p bs) = refl
as_links_same s (linked p bs) = refl

all_links_same : (s : ℕ) (xs : List PartSeen)
    → map as_links (map (shift_part s) xs) ≡ map (shift_part s) (map as_links xs)
all_links_same s [] = refl
all_links_same s (x ∷ xs) =
    ap (λ y. y ∷ map as_links (map (shift_part s) xs)) (as_links_same s x)
    ∙ ap (λ ys. shift_part s (as_links x) ∷ ys) (all_links_same s xs)

pub source_moves : (further : ℕ) (pre body : List ℕ) (at : ℕ)
    → source_at further (pre ++ body) (length pre + at)
    ≡ moved (shift_got (length pre)) (length pre) (source_at further body at)
unfolding source_at
source_moves further pre body at =
    cond_moved (shift_got (length pre)) (length pre) (stands (eqb 61) body at) _ (text_at body (at + 1)) _
    (cond (stands (eqb 59) body at)
    (then (list_part_at Numbers further body (at + 1)) (λ o. Ok (map as_links o.0, o.1)))
    (Ok (missing ∷ [], at))) _
    (stands_moved (eqb 61) pre body at)
    (ap (text_at (pre ++ body)) (add_assoc (length pre) at 1) ∙ text_moves pre body (at + 1))
    (cond_moved (shift_got (length pre)) (length pre) (stands (eqb 59) body at) _
    (then (list_part_at Numbers further body (at + 1)) (λ o. Ok (map as_links o.0, o.1))) _ (Ok (missing ∷ [], at)) _
    (stands_moved (eqb 59) pre body at)
    (ap (λ i. then (list_part_at Numbers further (pre ++ body) i) (λ o. Ok (map as_links o.0, o.1)))
    (add_assoc (length pre) at 1)
    ∙ then_moved (shift_got (length pre)) (shift_got (length pre)) (length pre) _ _ _ _
    (list_part_moves Numbers further pre body (at + 1))
    (λ o. ap (λ xs. Ok (xs, length pre + o.1)) (all_links_same (length pre) o.0)))
    refl)

pub chosen_moves : (k : ByteKind) (n : ℕ) (admits : Admits) (earlier : List (List ℕ)) (pre body : List ℕ) (at : ℕ) →
    chosen_at k n admits earlier (pre ++ body) (length pre + at)
    ≡ moved (shift_got (length pre)) (length pre) (chosen_at k n admits earlier body at)
chosen_moves k n admits earlier pre body at =
    then_moved (shift_got (length pre)) (shift_got (length pre)) (length pre) _ _ _ _ (part_moves k n pre body at)
    (λ o. cond_moved (shift_got (length pre)) (length pre) (admits earlier (own o) (drop o.1 body)) _ (Ok o) _
    (Err (not_admitted at)) _
    (ap (λ bs. admits earlier bs (drop (length pre + o.1) (pre ++ body))) (own_same (length pre) o.0)
    ∙ ap (admits earlier (own o)) (drop-append-add pre body o.1))
    refl
    refl)
