-- What is taken at a place, behind other bytes, is taken as well at that place moved by as many.
use Rattle.std.proofs.Common.{◌≡◌, ℕ, ◌+◌, Bool, true, false, cond, eqb, ltb, leb, List, [], ◌∷◌, ◌++◌, map, length, get_or, take, drop, Ok, Err, Result, sym, refl, ap, ◌∙◌, add_assoc, arith}
use Rattle.std.proofs.Math.Seq.{drop-append-add}
use Rattle.std.proofs.lemmas.List.{get_or-append-add, length-append}
use Rattle.std.proofs.lemmas.Bool.Decides.{nat_tests}
use Rattle.limits.specs.Bytes.{between}
use Rattle.jobparts.specs.Items.{byte_at, part_at, own, number_at}
use Rattle.jobparts.specs.Kinds.{run, stands}
use Rattle.jobparts.specs.Parts.{PartSeen, missing, given, linked, bytes_of, then, wrong_byte, not_admitted}
use Rattle.jobparts.specs.Values.{number_of}
use Rattle.jobparts.specs.declared.part.ByteKind.{ByteKind}
use Rattle.jobparts.specs.declared.part.Wrong.{Wrong}
use Rattle.joblaw.specs.Located.{shift_part, shift_got, moved}

pub moved_cond : {X : Type 0} (f : X → X) (s : ℕ) (t : Bool) (x y : Result X Wrong)
    → moved f s (cond t x y) ≡ cond t (moved f s x) (moved f s y)
moved_cond f s true x y = refl
moved_cond f s false x y = refl

then_over : {X Y : Type 0} (f : X → X) (g : Y → Y) (s : ℕ) (k k' : X → Result Y Wrong)
    → ((x : X) → k' (f x) ≡ moved g s (k x)) →
    (r : Result X Wrong) → then (moved f s r) k' ≡ moved g s (then r k)
then_over f g s k k' h (Ok x) = h x
then_over f g s k k' h (Err w) = refl

pub then_moved : {X Y : Type 0} (f : X → X) (g : Y → Y) (s : ℕ) (r r' : Result X Wrong) (k k' : X → Result Y Wrong) →
    r' ≡ moved f s r → ((x : X) → k' (f x) ≡ moved g s (k x)) → then r' k' ≡ moved g s (then r k)
then_moved f g s r r' k k' e h = ap (λ q. then q k') e ∙ then_over f g s k k' h r

same_order : (s a b : ℕ) → ltb (s + a) (s + b) ≡ ltb a b
same_order s a b = grind (arith, nat_tests)

pub order_moved : (pre body : List ℕ) (at : ℕ) → ltb (length pre + at) (length (pre ++ body)) ≡ ltb at (length body)
order_moved pre body at = ap (ltb (length pre + at)) (length-append pre body) ∙ same_order (length pre) at (length body)

pub stands_moved : (f : ℕ → Bool) (pre body : List ℕ) (at : ℕ)
    → stands f (pre ++ body) (length pre + at) ≡ stands f body at
stands_moved f pre body at =
    let order = order_moved pre body at in
    let byte = get_or-append-add pre body at 0 in
    ap (λ t. cond t (f (get_or (pre ++ body) (length pre + at) 0)) false) order
    ∙ ap (λ b. cond (ltb at (length body)) (f b) false) byte

pub byte_moves : (b : ℕ) (pre body : List ℕ) (at : ℕ)
    → byte_at b (pre ++ body) (length pre + at) ≡ moved (λ n. length pre + n) (length pre) (byte_at b body at)
unfolding byte_at
byte_moves b pre body at =
    ap (λ t. cond t (Ok (length pre + at + 1)) (Err (wrong_byte (length pre + at)))) (stands_moved (eqb b) pre body at)
    ∙ ap (λ n. cond (stands (eqb b) body at) (Ok n) (Err (wrong_byte (length pre + at)))) (add_assoc (length pre) at 1)
    ∙ sym (moved_cond (λ n. length pre + n) (length pre) (stands (eqb b) body at) (Ok (at + 1)) (Err (wrong_byte at)))

pub part_moves : (k : ByteKind) (n : ℕ) (pre body : List ℕ) (at : ℕ)
    → part_at k n (pre ++ body) (length pre + at) ≡ moved (shift_got (length pre)) (length pre) (part_at k n body at)
unfolding part_at
part_moves k n pre body at =
    let P = length pre in
    let t = leb n (run k (drop at body)) in
    ap (λ rest. cond (leb n (run k rest)) (Ok (given (P + at) (take n rest) ∷ [], P + at + n))
    (Err (wrong_byte (P + at + run k rest)))) (drop-append-add pre body at)
    ∙ ap (λ m. cond t (Ok (given (P + at) (take n (drop at body)) ∷ [], m))
    (Err (wrong_byte (P + at + run k (drop at body))))) (add_assoc P at n)
    ∙ ap (λ m. cond t (Ok (given (P + at) (take n (drop at body)) ∷ [], P + (at + n))) (Err (wrong_byte m)))
    (add_assoc P at (run k (drop at body)))
    ∙ sym (moved_cond (shift_got P) P t (Ok (given at (take n (drop at body)) ∷ [], at + n))
    (Err (wrong_byte (at + run k (drop at body)))))

pub bytes_same : (s : ℕ) (x : PartSeen) → bytes_of (shift_part s x) ≡ bytes_of x
bytes_same s missing = refl
bytes_same s (given p bs) = refl
bytes_same s (linked p bs) = refl

pub own_same : (s : ℕ) (xs : List PartSeen)
    → bytes_of (get_or (map (shift_part s) xs) 0 missing) ≡ bytes_of (get_or xs 0 missing)
own_same s [] = refl
own_same s (x ∷ xs) = bytes_same s x

pub number_moves : (n low high : ℕ) (pre body : List ℕ) (at : ℕ)
    → number_at n low high (pre ++ body) (length pre + at)
    ≡ moved (shift_got (length pre)) (length pre) (number_at n low high body at)
unfolding number_at
number_moves n low high pre body at =
    then_moved (shift_got (length pre)) (shift_got (length pre)) (length pre) _ _ _ _ (part_moves _ n pre body at)
    (λ o.
    ap (λ own. cond (between low high (number_of own)) (Ok (shift_got (length pre) o))
    (Err (not_admitted (length pre + at)))) (own_same (length pre) o.0)
    ∙ sym (moved_cond (shift_got (length pre)) (length pre) (between low high (number_of (own o))) (Ok o)
    (Err (not_admitted at))))
