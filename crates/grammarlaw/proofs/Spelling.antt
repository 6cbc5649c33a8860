-- What is read is spelled in the job.
use Rattle.std.proofs.Common.{◌≡◌, ℕ, ◌+◌, ◌-◌, Bool, eqb, List, [], ◌∷◌, ◌++◌, map, length, Ok, Err, Result, IfOk, sym, refl, ap, ap₂, ◌∙◌, arith}
use Rattle.std.proofs.lemmas.Bool.{eqb-true}
use Rattle.std.proofs.lemmas.List.{append_assoc, length-append}
use Rattle.jobparts.specs.Grammar.{Item, fixed, part, number, chosen, lettered, signed, text, strings, source}
use Rattle.jobparts.specs.Kinds.{is_sign}
use Rattle.jobparts.specs.Parts.{PartSeen, missing, given, linked, bytes_of}
use Rattle.jobgroups.specs.Commands.{CommandSeen}
use Rattle.jobgroups.specs.Table.{letters_of, parts_of}
use Rattle.job.specs.declared.fault.ReadFault.{ReadFault}
use Rattle.joblaw.specs.Located.{shift_part}
use Rattle.grammarlaw.specs.Commands.{WritesCommand}
use Rattle.grammarlaw.specs.Frames.{ReadSays}
use Rattle.grammarlaw.specs.Spelled.{led_by, spelled_source, spelled, spelled_first, spelled_all, command_bytes, SpelledAt}
use Rattle.grammarlaw.specs.Rows.{Step, anew, item, steps_of}
use Rattle.grammarlaw.specs.Written.{lies_between, any, digits_slot, sign_slot, WritesOption, left_out, sent, WritesSource, nothing, of_text, of_links, WritesAll}

bytes_same : (n : ℕ) (s : PartSeen) → bytes_of (shift_part n s) ≡ bytes_of s
bytes_same n missing = refl
bytes_same n (given p bs) = refl
bytes_same n (linked p bs) = refl

led_same : (front : List ℕ) (n : ℕ) (s : PartSeen) → led_by front (shift_part n s) ≡ led_by front s
led_same front n missing = refl
led_same front n (given p bs) = refl
led_same front n (linked p bs) = refl

source_same : (n : ℕ) (s : PartSeen) → spelled_source (shift_part n s) ≡ spelled_source s
source_same n missing = refl
source_same n (given p bs) = refl
source_same n (linked p bs) = refl

part_same : (i : Item) (n : ℕ) (s : PartSeen) → spelled i (shift_part n s) ≡ spelled i s
part_same (fixed b) n s = refl
part_same (part k m) n s = bytes_same n s
part_same (number m low high) n s = bytes_same n s
part_same (chosen k m admits) n s = bytes_same n s
part_same (lettered letter m high last) n s = led_same (44 ∷ letter ∷ []) n s
part_same (signed m last) n s = led_same (44 ∷ []) n s
part_same text n s = bytes_same n s
part_same (strings most) n s = bytes_same n s
part_same (source most) n s = source_same n s

first_same : (i : Item) (others : List PartSeen → List ℕ) (n : ℕ) (ss : List PartSeen) →
    ((ss : List PartSeen) → others (map (shift_part n) ss) ≡ others ss) →
    spelled_first i others (map (shift_part n) ss) ≡ spelled_first i others ss
first_same i others n [] h = refl
first_same i others n (s ∷ ss) h = ap₂ (λ x y. x ++ y) (part_same i n s) (h ss)

all_same : (steps : List Step) (n : ℕ) (ss : List PartSeen) →
    spelled_all steps (map (shift_part n) ss) ≡ spelled_all steps ss
all_same [] n ss = refl
all_same (anew ∷ steps) n ss = all_same steps n ss
all_same (item (fixed b) ∷ steps) n ss = ap (λ (x : List ℕ). b ∷ x) (all_same steps n ss)
all_same (item (part k m) ∷ steps) n ss = first_same (part k m) (spelled_all steps) n ss (all_same steps n)
all_same (item (number m low high) ∷ steps) n ss =
    first_same (number m low high) (spelled_all steps) n ss (all_same steps n)
all_same (item (chosen k m admits) ∷ steps) n ss =
    first_same (chosen k m admits) (spelled_all steps) n ss (all_same steps n)
all_same (item (lettered letter m high last) ∷ steps) n ss =
    first_same (lettered letter m high last) (spelled_all steps) n ss (all_same steps n)
all_same (item (signed m last) ∷ steps) n ss = first_same (signed m last) (spelled_all steps) n ss (all_same steps n)
all_same (item text ∷ steps) n ss = first_same text (spelled_all steps) n ss (all_same steps n)
all_same (item (strings most) ∷ steps) n ss = first_same (strings most) (spelled_all steps) n ss (all_same steps n)
all_same (item (source most) ∷ steps) n ss = first_same (source most) (spelled_all steps) n ss (all_same steps n)

-- the one part of an item, and its bytes
record One (i : Item) (own : List PartSeen) (mine : List ℕ) : Type 0 where
  found : PartSeen
  only : own ≡ found ∷ []
  bytes : mine ≡ spelled i found

lettered_one : (letter n high : ℕ) (last : Bool) (own : List PartSeen) (mine theirs : List ℕ) →
    WritesOption (eqb letter) n (lies_between 0 high) digits_slot last own mine theirs →
    One (lettered letter n high last) own mine
lettered_one letter n high last own mine theirs (left_out s m over) = record { found = missing; only = s; bytes = m }
lettered_one letter n high last own mine theirs (sent c ds s m led sized ok) =
    record { found = given 2 ds; only = s; bytes = m ∙ ap (λ z. 44 ∷ z ∷ ds) (sym (eqb-true letter c led)) }

signed_one : (n : ℕ) (last : Bool) (own : List PartSeen) (mine theirs : List ℕ) →
    WritesOption is_sign n any sign_slot last own mine theirs → One (signed n last) own mine
signed_one n last own mine theirs (left_out s m over) = record { found = missing; only = s; bytes = m }
signed_one n last own mine theirs (sent c ds s m led sized ok) =
    record { found = given 1 (c ∷ ds); only = s; bytes = m }

source_one : (most : ℕ) (own : List PartSeen) (mine theirs : List ℕ) → WritesSource (most - 1) own mine theirs →
    One (source most) own mine
source_one most own mine theirs (nothing s m e) = record { found = missing; only = s; bytes = m }
source_one most own mine theirs (of_text t s m w e) = record { found = given 1 t; only = s; bytes = m }
source_one most own mine theirs (of_links t s m w e) = record { found = linked 1 t; only = s; bytes = m }

first_spelled : (i : Item) (steps : List Step) (own others ss : List PartSeen) (mine theirs bs : List ℕ) →
    One i own mine → ss ≡ own ++ map (shift_part (length mine)) others → bs ≡ mine ++ theirs →
    theirs ≡ spelled_all steps others → bs ≡ spelled_first i (spelled_all steps) ss
first_spelled i steps own others ss mine theirs bs one parts bytes later =
    bytes ∙ ap₂ (λ x y. x ++ y) one.bytes (later ∙ sym (all_same steps (length mine) others))
    ∙ ap (spelled_first i (spelled_all steps))
    (sym (parts ∙ ap (λ x. x ++ map (shift_part (length mine)) others) one.only))

all_spelled : (steps : List Step) (e : List (List ℕ)) (ss : List PartSeen) (bs : List ℕ) →
    WritesAll steps e ss bs → bs ≡ spelled_all steps ss
all_spelled [] e ss bs w = w.1
all_spelled (anew ∷ steps) e ss bs w = all_spelled steps [] ss bs w
all_spelled (item (fixed b) ∷ steps) e ss bs w =
    w.bytes ∙ ap₂ (λ (x y : List ℕ). x ++ y) w.first.1
    (all_spelled steps _ w.others w.theirs w.later ∙ sym (all_same steps (length w.mine) w.others))
    ∙ ap (λ x. b ∷ spelled_all steps x)
    (sym (w.parts ∙ ap (λ x. x ++ map (shift_part (length w.mine)) w.others) w.first.0))
all_spelled (item (part k n) ∷ steps) e ss bs w =
    first_spelled (part k n) steps w.own w.others ss w.mine w.theirs bs
    (record { found = given 0 w.mine; only = w.first.parts; bytes = refl }) w.parts w.bytes
    (all_spelled steps _ w.others w.theirs w.later)
all_spelled (item (number n low high) ∷ steps) e ss bs w =
    first_spelled (number n low high) steps w.own w.others ss w.mine w.theirs bs
    (record { found = given 0 w.mine; only = w.first.parts; bytes = refl }) w.parts w.bytes
    (all_spelled steps _ w.others w.theirs w.later)
all_spelled (item (chosen k n admits) ∷ steps) e ss bs w =
    first_spelled (chosen k n admits) steps w.own w.others ss w.mine w.theirs bs
    (record { found = given 0 w.mine; only = w.first.parts; bytes = refl }) w.parts w.bytes
    (all_spelled steps _ w.others w.theirs w.later)
all_spelled (item (lettered letter n high last) ∷ steps) e ss bs w =
    first_spelled (lettered letter n high last) steps w.own w.others ss w.mine w.theirs bs
    (lettered_one letter n high last w.own w.mine w.theirs w.first) w.parts w.bytes
    (all_spelled steps _ w.others w.theirs w.later)
all_spelled (item (signed n last) ∷ steps) e ss bs w =
    first_spelled (signed n last) steps w.own w.others ss w.mine w.theirs bs
    (signed_one n last w.own w.mine w.theirs w.first) w.parts w.bytes
    (all_spelled steps _ w.others w.theirs w.later)
all_spelled (item text ∷ steps) e ss bs w =
    first_spelled text steps w.own w.others ss w.mine w.theirs bs
    (record { found = given 0 w.mine; only = w.first.parts; bytes = refl }) w.parts w.bytes
    (all_spelled steps _ w.others w.theirs w.later)
all_spelled (item (strings most) ∷ steps) e ss bs w =
    first_spelled (strings most) steps w.own w.others ss w.mine w.theirs bs
    (record { found = given 0 w.mine; only = w.first.parts; bytes = refl }) w.parts w.bytes
    (all_spelled steps _ w.others w.theirs w.later)
all_spelled (item (source most) ∷ steps) e ss bs w =
    first_spelled (source most) steps w.own w.others ss w.mine w.theirs bs
    (source_one most w.own w.mine w.theirs w.first) w.parts w.bytes
    (all_spelled steps _ w.others w.theirs w.later)

body_spelled : (p : CommandSeen) (body : List ℕ) (start : ℕ) → WritesCommand p body start →
    body ≡ letters_of p.letters ++ spelled_all (steps_of (parts_of p.letters)) p.parts
body_spelled p body start w =
    let steps = steps_of (parts_of p.letters) in
    w.whole
    ∙ ap (λ (x : List ℕ). letters_of p.letters ++ x)
    (all_spelled steps [] w.parts.parts w.behind w.parts.written
    ∙ sym (all_same steps (start + length (letters_of p.letters)) w.parts.parts)
    ∙ ap (spelled_all steps) (sym w.parts.counted))

bytes_are : (p : CommandSeen) (body : List ℕ) (start : ℕ) → WritesCommand p body start →
    27 ∷ (body ++ (10 ∷ 0 ∷ [])) ≡ command_bytes p
bytes_are p body start w =
    ap (λ x. 27 ∷ (x ++ (10 ∷ 0 ∷ []))) (body_spelled p body start w)
    ∙ ap (λ (x : List ℕ). 27 ∷ x)
    (append_assoc (letters_of p.letters) (spelled_all (steps_of (parts_of p.letters)) p.parts) (10 ∷ 0 ∷ []))

pub spelled_if : (job : List ℕ) (at next : ℕ) (r : Result CommandSeen ReadFault) → ReadSays job at next r →
    IfOk r (SpelledAt job at next)
spelled_if job at next (Ok p) h =
    let f = h.frame in
    let bytes = bytes_are p h.body (at + 1) h.here in
    let count : length (27 ∷ (h.body ++ (10 ∷ 0 ∷ []))) ≡ length h.body + 3 =
    omega (arith, length-append h.body (10 ∷ 0 ∷ [])) in
    record {
      before = f.before;
      after = f.after;
      whole = f.whole ∙ ap (λ x. f.before ++ (27 ∷ x)) (sym (append_assoc h.body (10 ∷ 0 ∷ []) f.after))
          ∙ ap (λ x. f.before ++ (x ++ f.after)) bytes;
      place = f.place;
      behind = h.behind ∙ (let e : at + length h.body + 3 ≡ at + (length h.body + 3) = omega arith in e)
          ∙ ap (λ n. at + n) (sym count ∙ ap length bytes);
    }
spelled_if job at next (Err e) h = tt
