-- A row of the table reads as its steps do.
use Rattle.std.proofs.Common.{◌≡◌, ℕ, ◌+◌, ◌≤◌, List, [], ◌∷◌, ◌++◌, map, length, take, drop, Ok, Err, Result, sym, refl, ap, ◌∙◌, add_assoc, add-zero}
use Rattle.std.proofs.lemmas.List.{append-nil, append_assoc, length-append, length-take-le, take-append-drop, map-append}
use Rattle.jobparts.specs.Grammar.{Item, item_at, group_at, row_at}
use Rattle.jobparts.specs.Items.{end_at}
use Rattle.jobparts.specs.Parts.{PartSeen, missing, given, linked, Got, bytes_of, then}
use Rattle.jobparts.specs.declared.part.Wrong.{Wrong}
use Rattle.joblaw.specs.Located.{shift_part, shift_got, moved}
use Rattle.grammarlaw.specs.Rows.{group_then, steps_of, onward, steps_at}
use Rattle.joblaw.proofs.Texts.{end_moves}
use Rattle.joblaw.proofs.Bodies.{item_moves, all_bytes_same}
use Rattle.grammarlaw.proofs.Within.{Within, item_within}

shift_twice : (s t : ℕ) (x : PartSeen) → shift_part s (shift_part t x) ≡ shift_part (s + t) x
shift_twice s t missing = refl
shift_twice s t (given p bs) = ap (λ n. given n bs) (sym (add_assoc s t p))
shift_twice s t (linked p bs) = ap (λ n. linked n bs) (sym (add_assoc s t p))

pub all_twice : (s t : ℕ) (xs : List PartSeen)
    → map (shift_part s) (map (shift_part t) xs) ≡ map (shift_part (s + t)) xs
all_twice s t [] = refl
all_twice s t (x ∷ xs) = ap (λ y. y ∷ map (shift_part s) (map (shift_part t) xs)) (shift_twice s t x)
    ∙ ap (λ ys. shift_part (s + t) x ∷ ys) (all_twice s t xs)

moved_same : {X : Type 0} (f g : X → X) (s : ℕ) → ((x : X) → f x ≡ g x) → (r : Result X Wrong) →
    moved f s r ≡ moved g s r
moved_same f g s h (Ok x) = ap (λ y. Ok y) (h x)
moved_same f g s h (Err w) = refl

then_assoc : {X Y Z : Type 0} (r : Result X Wrong) (f : X → Result Y Wrong) (k : Y → Result Z Wrong) →
    then (then r f) k ≡ then r (λ x. then (f x) k)
then_assoc (Ok x) f k = refl
then_assoc (Err w) f k = refl

then_within : {Y : Type 0} (g : Y → Y) (s n : ℕ) (k k' : Got → Result Y Wrong) →
    ((o : Got) → o.1 ≤ n → k' (shift_got s o) ≡ moved g s (k o)) →
    (r : Result Got Wrong) → Within r n → then (moved (shift_got s) s r) k' ≡ moved g s (then r k)
then_within g s n k k' h (Ok o) le = h o le
then_within g s n k k' h (Err w) le = refl

then_unit : {Y : Type 0} (g : Y → Y) (s : ℕ) (k k' : Unit {0} → Result Y Wrong) →
    ((u : Unit {0}) → k' u ≡ moved g s (k u)) →
    (r : Result (Unit {0}) Wrong) → then (moved (λ u. u) s r) k' ≡ moved g s (then r k)
then_unit g s k k' h (Ok u) = h u
then_unit g s k k' h (Err w) = refl

abbrev pub RowIs : List (List Item) → Type 0
RowIs groups =
    (seen : List PartSeen) (pre rest : List ℕ) →
    row_at groups seen (pre ++ rest) (length pre) ≡ moved (λ ss. seen ++ map (shift_part (length pre)) ss)
    (length pre) (steps_at (steps_of groups) [] rest)

any_start : (groups : List (List Item)) (e : List (List ℕ)) (rest : List ℕ) →
    steps_at (steps_of groups) [] rest ≡ steps_at (steps_of groups) e rest
any_start [] e rest = refl
any_start (group ∷ groups) e rest = refl

row_end : RowIs []
row_end seen pre rest =
    ap (λ n. then (end_at (pre ++ rest) n) (λ _. Ok seen)) (sym (add-zero (length pre)))
    ∙ ap (λ (r : Result (Unit {0}) Wrong). then r (λ _. Ok seen)) (end_moves pre rest 0)
    ∙ then_unit (λ ss. seen ++ map (shift_part (length pre)) ss) (length pre) (λ _. Ok []) (λ _. Ok seen)
    (λ u. ap (λ x. Ok x) (sym (append-nil seen))) (end_at rest 0)

-- the parts so far, and those behind an item
abbrev Whole : List PartSeen → List PartSeen → ℕ → List PartSeen → List PartSeen
Whole before seen s ss = before ++ (seen ++ map (shift_part s) ss)

slots_on : (before seen : List PartSeen) (s : ℕ) (o : Got) (ss : List PartSeen) →
    before ++ ((seen ++ map (shift_part s) o.0) ++ map (shift_part (s + o.1)) ss)
    ≡ before ++ (seen ++ map (shift_part s) (o.0 ++ map (shift_part o.1) ss))
slots_on before seen s o ss =
    ap (λ x. before ++ x)
    (append_assoc seen (map (shift_part s) o.0) (map (shift_part (s + o.1)) ss)
    ∙ ap (λ x. seen ++ x)
    (ap (λ x. map (shift_part s) o.0 ++ x) (sym (all_twice s o.1 ss))
    ∙ sym (map-append (shift_part s) o.0 (map (shift_part o.1) ss))))

moved_on : (before seen : List PartSeen) (s : ℕ) (o : Got) (r : Result (List PartSeen) Wrong) →
    moved (λ ss. before ++ ((seen ++ map (shift_part s) o.0) ++ map (shift_part (s + o.1)) ss)) (s + o.1) r
    ≡ moved (λ ss. before ++ (seen ++ map (shift_part s) ss)) s (onward o r)
moved_on before seen s o (Ok ss) = ap (λ x. Ok x) (slots_on before seen s o ss)
moved_on before seen s o (Err w) = ap (λ n. Err (record w { place = n })) (add_assoc s o.1 w.place)

abbrev GroupIs : List Item → List (List Item) → Type 0
GroupIs items groups =
    (before seen : List PartSeen) (pre rest : List ℕ) →
    then (group_at items seen (pre ++ rest) (length pre)) (λ o. row_at groups (before ++ o.0) (pre ++ rest) o.1)
    ≡ moved (λ ss. before ++ (seen ++ map (shift_part (length pre)) ss)) (length pre)
    (steps_at (group_then items (steps_of groups)) (map bytes_of seen) rest)

group_end : (groups : List (List Item)) → RowIs groups → GroupIs [] groups
group_end groups row before seen pre rest =
    row (before ++ seen) pre rest
    ∙ moved_same _ _ (length pre) (λ ss. append_assoc before seen (map (shift_part (length pre)) ss))
    (steps_at (steps_of groups) [] rest)
    ∙ ap (moved (λ ss. before ++ (seen ++ map (shift_part (length pre)) ss)) (length pre))
    (any_start groups (map bytes_of seen) rest)

item_step : (items : List Item) (groups : List (List Item)) → GroupIs items groups →
    (before seen : List PartSeen) (pre rest : List ℕ) (o : Got) → o.1 ≤ length rest →
    then (group_at items (seen ++ map (shift_part (length pre)) o.0) (pre ++ rest) (length pre + o.1))
    (λ p. row_at groups (before ++ p.0) (pre ++ rest) p.1)
    ≡ moved (λ ss. before ++ (seen ++ map (shift_part (length pre)) ss)) (length pre)
    (onward o (steps_at (group_then items (steps_of groups)) (map bytes_of seen ++ map bytes_of o.0)
    (drop o.1 rest)))
item_step items groups later before seen pre rest o le =
    let s = length pre in
    let now = seen ++ map (shift_part s) o.0 in
    let mine = take o.1 rest in
    let theirs = drop o.1 rest in
    let whole : pre ++ rest ≡ (pre ++ mine) ++ theirs =
    ap (λ (x : List ℕ). pre ++ x) (sym (take-append-drop o.1 rest)) ∙ sym (append_assoc pre mine theirs) in
    let place : s + o.1 ≡ length (pre ++ mine) = ap (λ n. s + n) (sym (length-take-le o.1 rest le))
    ∙ sym (length-append pre mine) in
    ap (λ bs. then (group_at items now bs (s + o.1)) (λ p. row_at groups (before ++ p.0) bs p.1)) whole
    ∙ ap (λ n. then (group_at items now ((pre ++ mine) ++ theirs) n)
    (λ p. row_at groups (before ++ p.0) ((pre ++ mine) ++ theirs) p.1)) place
    ∙ later before now (pre ++ mine) theirs
    ∙ ap (λ n. moved (λ ss. before ++ (now ++ map (shift_part n) ss)) n
    (steps_at (group_then items (steps_of groups)) (map bytes_of now) theirs)) (sym place)
    ∙ ap (λ e. moved (λ ss. before ++ (now ++ map (shift_part (s + o.1)) ss)) (s + o.1)
    (steps_at (group_then items (steps_of groups)) e theirs))
    (map-append bytes_of seen (map (shift_part s) o.0) ∙ ap (λ x. map bytes_of seen ++ x) (all_bytes_same s o.0))
    ∙ moved_on before seen s o
    (steps_at (group_then items (steps_of groups)) (map bytes_of seen ++ map bytes_of o.0) theirs)

group_more : (i : Item) (items : List Item) (groups : List (List Item)) → GroupIs items groups →
    GroupIs (i ∷ items) groups
group_more i items groups later before seen pre rest =
    let e = map bytes_of seen in
    then_assoc (item_at i e (pre ++ rest) (length pre)) (λ o. group_at items (seen ++ o.0) (pre ++ rest) o.1)
    (λ o. row_at groups (before ++ o.0) (pre ++ rest) o.1)
    ∙ ap (λ r. then r
    (λ o. then (group_at items (seen ++ o.0) (pre ++ rest) o.1)
    (λ o. row_at groups (before ++ o.0) (pre ++ rest) o.1)))
    (ap (item_at i e (pre ++ rest)) (sym (add-zero (length pre))) ∙ item_moves i e pre rest 0)
    ∙ then_within (λ ss. before ++ (seen ++ map (shift_part (length pre)) ss)) (length pre) (length rest)
    (λ o. onward o (steps_at (group_then items (steps_of groups)) (e ++ map bytes_of o.0) (drop o.1 rest)))
    (λ o. then (group_at items (seen ++ o.0) (pre ++ rest) o.1)
    (λ o. row_at groups (before ++ o.0) (pre ++ rest) o.1))
    (item_step items groups later before seen pre rest)
    (item_at i e rest 0) (item_within i e rest)

group_is : (items : List Item) (groups : List (List Item)) → RowIs groups → GroupIs items groups
group_is [] groups row = group_end groups row
group_is (i ∷ items) groups row = group_more i items groups (group_is items groups row)

pub row_is : (groups : List (List Item)) → RowIs groups
row_is [] seen pre rest = row_end seen pre rest
row_is (group ∷ groups) seen pre rest = group_is group groups (row_is groups) seen [] pre rest
