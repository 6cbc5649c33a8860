-- The parts of a command stand at their places.
use Rattle.std.proofs.Common.{◌≡◌, ℕ, suc, ◌+◌, ◌-◌, Bool, true, false, cond, eqb, List, [], ◌∷◌, ◌++◌, map, length, Ok, Err, Result, IfOk, sym, refl, ap, ◌∙◌, arith, subst, add_assoc}
use Rattle.std.specs.List.{onto_first}
use Rattle.std.proofs.lemmas.List.{append_assoc, append-nil, length-append}
use Rattle.jobparts.specs.Grammar.{Item, fixed, part, number, chosen, lettered, signed, text, strings, source}
use Rattle.jobparts.specs.Kinds.{is_sign}
use Rattle.jobparts.specs.Parts.{PartSeen, missing, given, linked, bytes_of}
use Rattle.jobgroups.specs.Commands.{CommandSeen}
use Rattle.jobgroups.specs.Table.{letters_of, parts_of}
use Rattle.job.specs.declared.fault.ReadFault.{ReadFault}
use Rattle.jobvalues.specs.Meaning.{parted}
use Rattle.joblaw.specs.Located.{shift_part}
use Rattle.grammarlaw.specs.Commands.{WritesCommand}
use Rattle.grammarlaw.specs.Frames.{Framed, ReadSays}
use Rattle.grammarlaw.specs.Placed.{Stands, PartStands, EachStands, pieces_from, ElementsStand, CommandStands}
use Rattle.grammarlaw.specs.Rows.{Step, anew, item, steps_of}
use Rattle.grammarlaw.specs.Written.{lies_between, any, digits_slot, sign_slot, WritesOption, left_out, sent, WritesSource, nothing, of_text, of_links, Writes, WritesAll}

stands_later : (m t : List ℕ) (p : ℕ) (w : List ℕ) → Stands t p w → Stands (m ++ t) (length m + p) w
stands_later m t p w s =
    record {
      before = m ++ s.before;
      after = s.after;
      whole = ap (λ (x : List ℕ). m ++ x) s.whole ∙ sym (append_assoc m s.before (w ++ s.after));
      place = ap (λ n. length m + n) s.place ∙ sym (length-append m s.before);
    }

stands_front : (m t : List ℕ) (p : ℕ) (w : List ℕ) → Stands m p w → Stands (m ++ t) p w
stands_front m t p w s =
    record {
      before = s.before;
      after = s.after ++ t;
      whole = ap (λ x. x ++ t) s.whole ∙ append_assoc s.before (w ++ s.after) t
          ∙ ap (λ (x : List ℕ). s.before ++ x) (append_assoc w s.after t);
      place = s.place;
    }

part_later : (m t : List ℕ) (s : PartSeen) → PartStands t s → PartStands (m ++ t) (shift_part (length m) s)
part_later m t missing h = tt
part_later m t (given p w) h = stands_later m t p w h
part_later m t (linked p w) h = stands_later m t p w h

part_front : (m t : List ℕ) (s : PartSeen) → PartStands m s → PartStands (m ++ t) s
part_front m t missing h = tt
part_front m t (given p w) h = stands_front m t p w h
part_front m t (linked p w) h = stands_front m t p w h

each_later : (m t : List ℕ) (ss : List PartSeen) → EachStands t ss
    → EachStands (m ++ t) (map (shift_part (length m)) ss)
each_later m t [] h = tt
each_later m t (s ∷ ss) h = (part_later m t s h.0, each_later m t ss h.1)

each_front : (m t : List ℕ) (ss : List PartSeen) → EachStands m ss → EachStands (m ++ t) ss
each_front m t [] h = tt
each_front m t (s ∷ ss) h = (part_front m t s h.0, each_front m t ss h.1)

each_append : (bs : List ℕ) (xs ys : List PartSeen) → EachStands bs xs → EachStands bs ys → EachStands bs (xs ++ ys)
each_append bs [] ys h k = k
each_append bs (x ∷ xs) ys h k = (h.0, each_append bs xs ys h.1 k)

-- bytes behind others, to the end
behind : (m w : List ℕ) → Stands (m ++ w) (length m) w
behind m w = record { before = m; after = []; whole = ap (λ (x : List ℕ). m ++ x) (sym (append-nil w)); place = refl }

one_stands : (own : List PartSeen) (mine : List ℕ) (s : PartSeen) → own ≡ s ∷ [] → PartStands mine s
    → EachStands mine own
one_stands own mine s is h = subst (EachStands mine) (sym is) (h, tt)

given_stands : (own : List PartSeen) (mine : List ℕ) → own ≡ given 0 mine ∷ [] → EachStands mine own
given_stands own mine is = one_stands own mine (given 0 mine) is (behind [] mine)

lettered_stands : (letter n high : ℕ) (last : Bool) (own : List PartSeen) (mine theirs : List ℕ) →
    WritesOption (eqb letter) n (lies_between 0 high) digits_slot last own mine theirs → EachStands mine own
lettered_stands letter n high last own mine theirs (left_out s m over) = one_stands own mine missing s tt
lettered_stands letter n high last own mine theirs (sent c ds s m led sized ok) =
    one_stands own mine (given 2 ds) s (subst (λ bs. Stands bs 2 ds) (sym m) (behind (44 ∷ c ∷ []) ds))

signed_stands : (n : ℕ) (last : Bool) (own : List PartSeen) (mine theirs : List ℕ) →
    WritesOption is_sign n any sign_slot last own mine theirs → EachStands mine own
signed_stands n last own mine theirs (left_out s m over) = one_stands own mine missing s tt
signed_stands n last own mine theirs (sent c ds s m led sized ok) =
    one_stands own mine (given 1 (c ∷ ds)) s (subst (λ bs. Stands bs 1 (c ∷ ds)) (sym m) (behind (44 ∷ []) (c ∷ ds)))

source_stands : (further : ℕ) (own : List PartSeen) (mine theirs : List ℕ) → WritesSource further own mine theirs →
    EachStands mine own
source_stands further own mine theirs (nothing s m e) = one_stands own mine missing s tt
source_stands further own mine theirs (of_text t s m w e) =
    one_stands own mine (given 1 t) s (subst (λ bs. Stands bs 1 t) (sym m) (behind (61 ∷ []) t))
source_stands further own mine theirs (of_links t s m w e) =
    one_stands own mine (linked 1 t) s (subst (λ bs. Stands bs 1 t) (sym m) (behind (59 ∷ []) t))

item_stands : (i : Item) (e : List (List ℕ)) (own : List PartSeen) (mine theirs : List ℕ) →
    Writes i e own mine theirs → EachStands mine own
item_stands (fixed b) e own mine theirs w = subst (EachStands mine) (sym w.0) tt
item_stands (part k n) e own mine theirs w = given_stands own mine w.parts
item_stands (number n low high) e own mine theirs w = given_stands own mine w.parts
item_stands (chosen k n admits) e own mine theirs w = given_stands own mine w.parts
item_stands (lettered letter n high last) e own mine theirs w = lettered_stands letter n high last own mine theirs w
item_stands (signed n last) e own mine theirs w = signed_stands n last own mine theirs w
item_stands text e own mine theirs w = given_stands own mine w.parts
item_stands (strings most) e own mine theirs w = given_stands own mine w.parts
item_stands (source most) e own mine theirs w = source_stands (most - 1) own mine theirs w

all_stand : (steps : List Step) (e : List (List ℕ)) (ss : List PartSeen) (bs : List ℕ) → WritesAll steps e ss bs →
    EachStands bs ss
all_stand [] e ss bs w = subst (EachStands bs) (sym w.0) tt
all_stand (anew ∷ steps) e ss bs w = all_stand steps [] ss bs w
all_stand (item i ∷ steps) e ss bs w =
    subst (λ x. EachStands x ss) (sym w.bytes)
    (subst (EachStands (w.mine ++ w.theirs)) (sym w.parts)
    (each_append (w.mine ++ w.theirs) w.own (map (shift_part (length w.mine)) w.others)
    (each_front w.mine w.theirs w.own (item_stands i e w.own w.mine w.theirs w.first))
    (each_later w.mine w.theirs w.others (all_stand steps (e ++ map bytes_of w.own) w.others w.theirs w.later))))

-- the elements of a list of strings or of numbers
pieces_moved : (n p : ℕ) (xs : List (List ℕ)) → map (shift_part n) (pieces_from p xs) ≡ pieces_from (n + p) xs
pieces_moved n p [] = refl
pieces_moved n p (x ∷ xs) =
    ap (λ ss. given (n + p) x ∷ ss)
    (pieces_moved n (p + (length x + 1)) xs ∙ ap (λ m. pieces_from m xs) (sym (add_assoc n p (length x + 1))))

no_before : (before : List ℕ) → 0 ≡ length before → before ≡ []
no_before [] e = refl
no_before (b ∷ before) e = absurd (omega arith)

grown : (b : ℕ) (bs w : List ℕ) → Stands bs 0 w → Stands (b ∷ bs) 0 (b ∷ w)
grown b bs w s =
    record {
      before = [];
      after = s.after;
      whole = ap (λ (x : List ℕ). b ∷ x)
          (s.whole ∙ ap (λ x. x ++ (w ++ s.after)) (no_before s.before s.place));
      place = refl;
    }

onto_stands : (b : ℕ) (bs : List ℕ) (xs : List (List ℕ)) → EachStands bs (pieces_from 0 xs) →
    EachStands (b ∷ bs) (pieces_from 0 (onto_first b xs))
onto_stands b bs [] h = (record { before = []; after = bs; whole = refl; place = refl }, tt)
onto_stands b bs (x ∷ xs) h = (
  grown b bs x h.0,
  subst (EachStands (b ∷ bs))
      (pieces_moved 1 (0 + (length x + 1)) xs
      ∙ ap (λ m. pieces_from m xs) (let e : 1 + (0 + (length x + 1)) ≡ 0 + (suc (length x) + 1) = omega arith in e))
      (each_later (b ∷ []) bs (pieces_from (0 + (length x + 1)) xs) h.1),
)

split_step : (b : ℕ) (bs : List ℕ) (t : Bool) → EachStands bs (pieces_from 0 (parted bs)) →
    EachStands (b ∷ bs) (pieces_from 0 (cond t ([] ∷ parted bs) (onto_first b (parted bs))))
split_step b bs true h = (
  record { before = []; after = b ∷ bs; whole = refl; place = refl },
  subst (EachStands (b ∷ bs)) (pieces_moved 1 0 (parted bs)) (each_later (b ∷ []) bs (pieces_from 0 (parted bs)) h),
)
split_step b bs false h = onto_stands b bs (parted bs) h

pieces_stand : (bs : List ℕ) → EachStands bs (pieces_from 0 (parted bs))
pieces_stand [] = (record { before = []; after = []; whole = refl; place = refl }, tt)
pieces_stand (b ∷ bs) = split_step b bs (eqb b 44) (pieces_stand bs)

within_part : (job : List ℕ) (p : ℕ) (w : List ℕ) → Stands job p w → EachStands job (pieces_from p (parted w))
within_part job p w s =
    let place : length s.before + 0 ≡ p = omega (arith, s.place) in
    subst (λ bs. EachStands bs (pieces_from p (parted w))) (sym s.whole)
    (subst (EachStands (s.before ++ (w ++ s.after)))
    (pieces_moved (length s.before) 0 (parted w) ∙ ap (λ m. pieces_from m (parted w)) place)
    (each_later s.before (w ++ s.after) (pieces_from 0 (parted w))
    (each_front w s.after (pieces_from 0 (parted w)) (pieces_stand w))))

elements_stand : (job : List ℕ) (ss : List PartSeen) → EachStands job ss → ElementsStand job ss
elements_stand job [] h = tt
elements_stand job (missing ∷ ss) h = (tt, elements_stand job ss h.1)
elements_stand job (given p w ∷ ss) h = (within_part job p w h.0, elements_stand job ss h.1)
elements_stand job (linked p w ∷ ss) h = (within_part job p w h.0, elements_stand job ss h.1)

-- in the job
frame_is : (before after body letters rest : List ℕ) → body ≡ letters ++ rest →
    before ++ (27 ∷ (body ++ (10 ∷ 0 ∷ after))) ≡ (before ++ (27 ∷ letters)) ++ (rest ++ (10 ∷ 0 ∷ after))
frame_is before after body letters rest cut =
    ap (λ x. before ++ (27 ∷ (x ++ (10 ∷ 0 ∷ after)))) cut
    ∙ ap (λ (x : List ℕ). before ++ (27 ∷ x)) (append_assoc letters rest (10 ∷ 0 ∷ after))
    ∙ sym (append_assoc before (27 ∷ letters) (rest ++ (10 ∷ 0 ∷ after)))

parts_stand : (job : List ℕ) (at : ℕ) (body : List ℕ) (p : CommandSeen) → Framed job at body →
    WritesCommand p body (at + 1) → EachStands job p.parts
parts_stand job at body p f w =
    let front = f.before ++ (27 ∷ letters_of p.letters) in
    let rest = w.behind ++ (10 ∷ 0 ∷ f.after) in
    let place : length (f.before ++ (27 ∷ letters_of p.letters)) ≡ at + 1 + length (letters_of p.letters) =
    omega (arith, f.place, length-append f.before (27 ∷ letters_of p.letters)) in
    let here = each_later front rest w.parts.parts
    (each_front w.behind (10 ∷ 0 ∷ f.after) w.parts.parts
    (all_stand (steps_of (parts_of p.letters)) [] w.parts.parts w.behind w.parts.written)) in
    subst (λ x. EachStands x p.parts)
    (sym (f.whole ∙ frame_is f.before f.after body (letters_of p.letters) w.behind w.whole))
    (subst (EachStands (front ++ rest)) (ap (λ n. map (shift_part n) w.parts.parts) place ∙ sym w.parts.counted) here)

pub stand_if : (job : List ℕ) (at next : ℕ) (r : Result CommandSeen ReadFault) → ReadSays job at next r →
    IfOk r (CommandStands job)
stand_if job at next (Ok p) h =
    let parts = parts_stand job at h.body p h.frame h.here in
    record { parts = parts; elements = elements_stand job p.parts parts }
stand_if job at next (Err e) h = tt
