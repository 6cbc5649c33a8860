-- The parts from which a command is written fit.
use Rattle.std.proofs.Common.{◌≡◌, ℕ, ◌-◌, Bool, eqb, List, [], ◌∷◌, ◌++◌, map, length, Ok, Err, Result, IfOk, sym, refl, ap, ◌∙◌, subst}
use Rattle.jobparts.specs.Grammar.{Item, fixed, part, number, chosen, lettered, signed, text, strings, source}
use Rattle.jobparts.specs.Parts.{PartSeen, missing, given, linked}
use Rattle.jobparts.specs.Kinds.{is_sign}
use Rattle.jobgroups.specs.Commands.{CommandSeen}
use Rattle.jobgroups.specs.Table.{parts_of}
use Rattle.job.specs.declared.fault.ReadFault.{ReadFault}
use Rattle.joblaw.specs.Located.{shift_part}
use Rattle.grammarlaw.specs.Fits.{IsGiven, IsOption, IsSource, PartFits, FirstFits, AllFit, CommandFits}
use Rattle.grammarlaw.specs.Frames.{ReadSays}
use Rattle.grammarlaw.specs.Rows.{Step, anew, item, steps_of}
use Rattle.grammarlaw.specs.Written.{lies_between, any, digits_slot, sign_slot, WritesOption, left_out, sent, WritesSource, nothing, of_text, of_links, WritesAll}

given_moved : (P : List ℕ → Type 0) (n : ℕ) (s : PartSeen) → IsGiven P s → IsGiven P (shift_part n s)
given_moved P n missing h = h
given_moved P n (given p bs) h = h
given_moved P n (linked p bs) h = h

option_moved : (P : List ℕ → Type 0) (n : ℕ) (s : PartSeen) → IsOption P s → IsOption P (shift_part n s)
option_moved P n missing h = h
option_moved P n (given p bs) h = h
option_moved P n (linked p bs) h = h

source_moved : (further n : ℕ) (s : PartSeen) → IsSource further s → IsSource further (shift_part n s)
source_moved further n missing h = h
source_moved further n (given p bs) h = h
source_moved further n (linked p bs) h = h

part_moved : (i : Item) (n : ℕ) (s : PartSeen) → PartFits i s → PartFits i (shift_part n s)
part_moved (fixed b) n s h = h
part_moved (part k m) n s h = given_moved _ n s h
part_moved (number m low high) n s h = given_moved _ n s h
part_moved (chosen k m admits) n s h = given_moved _ n s h
part_moved (lettered letter m high last) n s h = option_moved _ n s h
part_moved (signed m last) n s h = option_moved _ n s h
part_moved text n s h = given_moved _ n s h
part_moved (strings most) n s h = given_moved _ n s h
part_moved (source most) n s h = source_moved (most - 1) n s h

first_moved : (i : Item) (Others : List PartSeen → Type 0) (n : ℕ) (ss : List PartSeen) →
    ((ss : List PartSeen) → Others ss → Others (map (shift_part n) ss)) → FirstFits i Others ss →
    FirstFits i Others (map (shift_part n) ss)
first_moved i Others n [] later h = h
first_moved i Others n (s ∷ ss) later h = (part_moved i n s h.0, later ss h.1)

none_moved : (n : ℕ) (ss : List PartSeen) → ss ≡ [] → map (shift_part n) ss ≡ []
none_moved n ss h = ap (map (shift_part n)) h

all_moved : (steps : List Step) (n : ℕ) (ss : List PartSeen) → AllFit steps ss → AllFit steps (map (shift_part n) ss)
all_moved [] n ss h = none_moved n ss h
all_moved (anew ∷ steps) n ss h = all_moved steps n ss h
all_moved (item (fixed b) ∷ steps) n ss h = all_moved steps n ss h
all_moved (item (part k m) ∷ steps) n ss h = first_moved (part k m) (AllFit steps) n ss (all_moved steps n) h
all_moved (item (number m low high) ∷ steps) n ss h =
    first_moved (number m low high) (AllFit steps) n ss (all_moved steps n) h
all_moved (item (chosen k m admits) ∷ steps) n ss h =
    first_moved (chosen k m admits) (AllFit steps) n ss (all_moved steps n) h
all_moved (item (lettered letter m high last) ∷ steps) n ss h =
    first_moved (lettered letter m high last) (AllFit steps) n ss (all_moved steps n) h
all_moved (item (signed m last) ∷ steps) n ss h =
    first_moved (signed m last) (AllFit steps) n ss (all_moved steps n) h
all_moved (item text ∷ steps) n ss h = first_moved text (AllFit steps) n ss (all_moved steps n) h
all_moved (item (strings most) ∷ steps) n ss h = first_moved (strings most) (AllFit steps) n ss (all_moved steps n) h
all_moved (item (source most) ∷ steps) n ss h = first_moved (source most) (AllFit steps) n ss (all_moved steps n) h

-- the one part of an item, and those behind it
abbrev One : Item → List PartSeen → Type 0
One i own = (s : PartSeen) × ((own ≡ s ∷ []) × PartFits i s)

first_fits : (i : Item) (steps : List Step) (own others ss : List PartSeen) (n : ℕ) → One i own →
    ss ≡ own ++ map (shift_part n) others → AllFit steps others → FirstFits i (AllFit steps) ss
first_fits i steps own others ss n one is later =
    subst (FirstFits i (AllFit steps)) (sym (is ∙ ap (λ x. x ++ map (shift_part n) others) one.1.0))
    (one.1.1, all_moved steps n others later)

source_one : (further : ℕ) (own : List PartSeen) (mine theirs : List ℕ) → WritesSource further own mine theirs →
    (s : PartSeen) × ((own ≡ s ∷ []) × IsSource further s)
source_one further own mine theirs (nothing s m e) = (missing, (s, tt))
source_one further own mine theirs (of_text t s m w e) = (given 1 t, (s, w))
source_one further own mine theirs (of_links t s m w e) = (linked 1 t, (s, w))

lettered_one : (letter n high : ℕ) (last : Bool) (own : List PartSeen) (mine theirs : List ℕ) →
    WritesOption (eqb letter) n (lies_between 0 high) digits_slot last own mine theirs →
    One (lettered letter n high last) own
lettered_one letter n high last own mine theirs (left_out s m over) = (missing, (s, tt))
lettered_one letter n high last own mine theirs (sent c ds s m led sized ok) =
    (given 2 ds, (s, record { digits = sized; admitted = ok }))

signed_one : (n : ℕ) (last : Bool) (own : List PartSeen) (mine theirs : List ℕ) →
    WritesOption is_sign n any sign_slot last own mine theirs → One (signed n last) own
signed_one n last own mine theirs (left_out s m over) = (missing, (s, tt))
signed_one n last own mine theirs (sent c ds s m led sized ok) =
    (given 1 (c ∷ ds), (s, record { sign = c; digits = ds; whole = refl; signs = led; sized = sized }))

pub all_fit : (steps : List Step) (e : List (List ℕ)) (ss : List PartSeen) (bs : List ℕ) →
    WritesAll steps e ss bs → AllFit steps ss
all_fit [] e ss bs w = w.0
all_fit (anew ∷ steps) e ss bs w = all_fit steps [] ss bs w
all_fit (item (fixed b) ∷ steps) e ss bs w =
    subst (AllFit steps) (sym (w.parts ∙ ap (λ x. x ++ map (shift_part (length w.mine)) w.others) w.first.0))
    (all_moved steps (length w.mine) w.others (all_fit steps _ w.others w.theirs w.later))
all_fit (item (part k n) ∷ steps) e ss bs w =
    first_fits (part k n) steps w.own w.others ss (length w.mine)
    (given 0 w.mine, (w.first.parts, w.first.sized)) w.parts (all_fit steps _ w.others w.theirs w.later)
all_fit (item (number n low high) ∷ steps) e ss bs w =
    first_fits (number n low high) steps w.own w.others ss (length w.mine)
    (given 0 w.mine, (w.first.parts, record { digits = w.first.sized; admitted = w.first.admitted })) w.parts
    (all_fit steps _ w.others w.theirs w.later)
all_fit (item (chosen k n admits) ∷ steps) e ss bs w =
    first_fits (chosen k n admits) steps w.own w.others ss (length w.mine)
    (given 0 w.mine, (w.first.parts, w.first.sized)) w.parts (all_fit steps _ w.others w.theirs w.later)
all_fit (item (lettered letter n high last) ∷ steps) e ss bs w =
    first_fits (lettered letter n high last) steps w.own w.others ss (length w.mine)
    (lettered_one letter n high last w.own w.mine w.theirs w.first) w.parts
    (all_fit steps _ w.others w.theirs w.later)
all_fit (item (signed n last) ∷ steps) e ss bs w =
    first_fits (signed n last) steps w.own w.others ss (length w.mine)
    (signed_one n last w.own w.mine w.theirs w.first) w.parts (all_fit steps _ w.others w.theirs w.later)
all_fit (item text ∷ steps) e ss bs w =
    first_fits text steps w.own w.others ss (length w.mine) (given 0 w.mine, (w.first.parts, w.first.meant))
    w.parts (all_fit steps _ w.others w.theirs w.later)
all_fit (item (strings most) ∷ steps) e ss bs w =
    first_fits (strings most) steps w.own w.others ss (length w.mine)
    (given 0 w.mine, (w.first.parts, w.first.meant)) w.parts (all_fit steps _ w.others w.theirs w.later)
all_fit (item (source most) ∷ steps) e ss bs w =
    first_fits (source most) steps w.own w.others ss (length w.mine)
    (source_one (most - 1) w.own w.mine w.theirs w.first) w.parts (all_fit steps _ w.others w.theirs w.later)

-- what was read fits
pub fits_if : (job : List ℕ) (at next : ℕ) (r : Result CommandSeen ReadFault) → ReadSays job at next r
    → IfOk r CommandFits
fits_if job at next (Ok p) h =
    let w = h.here.parts in
    let steps = steps_of (parts_of p.letters) in
    subst (AllFit steps) (sym w.counted)
    (all_moved steps _ w.parts (all_fit steps [] w.parts h.here.behind w.written))
fits_if job at next (Err e) h = tt
