-- What is written is read, and what is refused is told.
use Rattle.std.proofs.Common.{◌≡◌, ℕ, ◌+◌, ◌-◌, ◌<◌, Bool, true, false, cond, not, eqb, List, [], ◌∷◌, ◌++◌, map, length, Ok, Err, Result, sym, refl, ap, ◌∙◌, arith, subst}
use Rattle.std.proofs.lemmas.Bool.{eq-eqb}
use Rattle.std.proofs.lemmas.List.{append-nil}
use mathlib.Core.Logic.{◌⊎◌, inl, inr}
use Rattle.jobparts.specs.Grammar.{Item, fixed, part, number, chosen, lettered, signed, text, strings, source, item_at}
use Rattle.jobparts.specs.Items.{Admits, part_at, chosen_at, text_at, list_part_at}
use Rattle.jobparts.specs.Kinds.{stands, is_sign}
use Rattle.jobparts.specs.Parts.{PartSeen, missing, given, Got, bytes_of, then, wrong_byte, not_admitted}
use Rattle.jobparts.specs.declared.part.ByteKind.{ByteKind}
use Rattle.jobparts.specs.declared.part.ByteKind.TheVariants.{Digit, Text}
use Rattle.jobparts.specs.declared.part.List.TheVariants.{Strings, Numbers}
use Rattle.jobparts.specs.declared.part.Wrong.{Wrong}
use Rattle.joblaw.specs.Located.{moved}
use Rattle.grammarlaw.specs.Right.{AllOf, Sized}
use Rattle.grammarlaw.specs.Rows.{Step, anew, item, onward, steps_at}
use Rattle.grammarlaw.specs.Written.{Rule, lies_between, any, digits_slot, sign_slot, WritesPart, WritesOption, left_out, sent, IsText, IsList, WritesLast, WritesSource, nothing, of_text, of_links, Writes, WritesAll}
use Rattle.grammarlaw.specs.Refused.{RefusedPart, RefusedOption, RefusedText, RefusedSource, in_text, in_links, RefusedOne, RefusedLater, Refused}
use Rattle.grammarlaw.proofs.Parts.{Stops, part_written}
use Rattle.grammarlaw.proofs.Coming.{by_reading, reads_on}
use Rattle.grammarlaw.proofs.Plain.{stands_here, zero_on, chosen_whole, number_is, part_is, fixed_is}
use Rattle.grammarlaw.proofs.Options.{option_at, option_led, Becomes}
use Rattle.grammarlaw.proofs.Elements.{goes_as_itself}
use Rattle.grammarlaw.proofs.Whole.{end_here, TextCase, fits, long, strange, text_case, text_ends}
use Rattle.grammarlaw.proofs.Lists.{list_written, list_refused}
use Rattle.grammarlaw.proofs.Sources.{part_of, part_reads, links_read, text_read, nothing_read, list_behind}
use Rattle.grammarlaw.proofs.Reading.{lettered_digits, signed_digits, lettered_is, signed_is, lettered_becomes, signed_becomes}

chosen_got : (k : ByteKind) (n : ℕ) (admits : Admits) (e : List (List ℕ)) (rest mine theirs : List ℕ) →
    rest ≡ mine ++ theirs → Sized k n mine → (t : Bool) → admits e mine theirs ≡ t →
    chosen_at k n admits e rest 0 ≡ cond t (Ok (given 0 mine ∷ [], length mine)) (Err (not_admitted 0))
chosen_got k n admits e rest mine theirs cut sized t is =
    chosen_whole k n admits e rest mine theirs cut sized
    (part_written k n rest 0 mine theirs cut sized ∙ ap (λ m. Ok (given 0 mine ∷ [], m)) (zero_on n))
    ∙ ap (λ u. cond u (Ok (given 0 mine ∷ [], length mine)) (Err (not_admitted 0))) is

part_ok : (k : ByteKind) (n : ℕ) (admits : Admits) (e : List (List ℕ)) (own : List PartSeen)
    (rest mine theirs : List ℕ) → rest ≡ mine ++ theirs → WritesPart k n (admits e) own mine theirs →
    chosen_at k n admits e rest 0 ≡ Ok (own, length mine)
part_ok k n admits e own rest mine theirs cut w =
    chosen_got k n admits e rest mine theirs cut w.sized true w.admitted
    ∙ ap (λ ss. Ok (ss, length mine)) (sym w.parts)

part_off : (k : ByteKind) (n : ℕ) (admits : Admits) (e : List (List ℕ)) (rest : List ℕ) (p : ℕ) →
    RefusedPart k n (admits e) rest p → chosen_at k n admits e rest 0 ≡ Err (not_admitted p)
part_off k n admits e rest p f = chosen_got k n admits e rest f.own f.behind f.whole f.sized false f.refused
    ∙ ap (λ n. Err (not_admitted n)) (sym f.place)

pass_over : {R : Type 0} (c d last : Bool) (x y z : R) → not (cond c (cond last true d) false) ≡ true →
    cond c (cond d x (cond last y z)) z ≡ z
pass_over false d last x y z e = refl
pass_over true true true x y z e = absurd (cc)
pass_over true true false x y z e = absurd (cc)
pass_over true false true x y z e = absurd (cc)
pass_over true false false x y z e = refl

option_got : (f : ℕ → Bool) (n : ℕ) (g : List ℕ → Got → Result Got Wrong) (rule : Rule)
    (as_part : ℕ → List ℕ → PartSeen) (last : Bool) → Becomes f n g rule as_part →
    (rest : List ℕ) (c : ℕ) (ds theirs : List ℕ) →
    rest ≡ 44 ∷ c ∷ (ds ++ theirs) → f c ≡ true → Sized Digit n ds → (t : Bool) → rule ds theirs ≡ t →
    option_at f n g last rest ≡ cond t (Ok (as_part c ds ∷ [], 2 + n)) (Err (not_admitted 2))
option_got f n g rule as_part last becomes rest c ds theirs cut led sized t is =
    ap (option_at f n g last) cut
    ∙ option_led f n g last c (ds ++ theirs) led
    ∙ ap (λ r. then r (g (44 ∷ c ∷ (ds ++ theirs))))
    (part_written Digit n (44 ∷ c ∷ (ds ++ theirs)) 2 ds theirs refl sized)
    ∙ becomes c ds theirs sized.count
    ∙ ap (λ u. cond u (Ok (as_part c ds ∷ [], 2 + n)) (Err (not_admitted 2))) is

option_ok : (f : ℕ → Bool) (n : ℕ) (g : List ℕ → Got → Result Got Wrong) (rule : Rule)
    (as_part : ℕ → List ℕ → PartSeen) (last : Bool) → Becomes f n g rule as_part →
    (own : List PartSeen) (rest mine theirs : List ℕ) →
    rest ≡ mine ++ theirs → WritesOption f n rule as_part last own mine theirs →
    option_at f n g last rest ≡ Ok (own, length mine)
option_ok f n g rule as_part last becomes own rest mine theirs cut (left_out s m over) =
    ap (option_at f n g last) (cut ∙ ap (λ x. x ++ theirs) m)
    ∙ pass_over (stands (eqb 44) theirs 0) (stands f theirs 1) last
    (then (part_at Digit n theirs 2) (g theirs)) (Err (wrong_byte 1)) (Ok (missing ∷ [], 0)) over
    ∙ ap (λ ss. Ok (ss, 0)) (sym s) ∙ ap (λ x. Ok (own, length x)) (sym m)
option_ok f n g rule as_part last becomes own rest mine theirs cut (sent c ds s m led sized ok) =
    option_got f n g rule as_part last becomes rest c ds theirs (cut ∙ ap (λ x. x ++ theirs) m) led sized true ok
    ∙ ap (λ ss. Ok (ss, 2 + n)) (sym s)
    ∙ ap (λ n. Ok (own, n)) (let e : 2 + n ≡ length mine = omega (arith, sized.count, ap length m) in e)

option_off : (f : ℕ → Bool) (n : ℕ) (g : List ℕ → Got → Result Got Wrong) (rule : Rule)
    (as_part : ℕ → List ℕ → PartSeen) (last : Bool) → Becomes f n g rule as_part → (rest : List ℕ) (p : ℕ) →
    RefusedOption f n rule rest p → option_at f n g last rest ≡ Err (not_admitted p)
option_off f n g rule as_part last becomes rest p r =
    option_got f n g rule as_part last becomes rest r.c r.digits r.behind r.whole r.led r.sized false r.refused
    ∙ ap (λ n. Err (not_admitted n)) (sym r.place)

-- texts
abbrev TextStops : List ℕ → Type 0
TextStops tail = Stops Text tail × (0 < length tail)

not_strange : {X : Type 0} (t front tail : List ℕ) → AllOf Text t → t ≡ front ++ tail → TextStops tail → X
not_strange t front tail kind cut s =
    absurd (text_ends front tail tail s.0 s.1 (goes_as_itself tail) (subst (AllOf Text) cut kind))

text_fits : (t : List ℕ) (at : ℕ) (r : Result Got Wrong) → IsText t → TextCase t at r →
    r ≡ Ok (given at t ∷ [], at + length t)
text_fits t at r w (fits kind short is) = is
text_fits t at r w (long kind lt is) = absurd (omega (arith, w.short))
text_fits t at r w (strange front tail cut kind stops lt is) = not_strange t front tail w.kind cut (stops, lt)

text_off : (t : List ℕ) (at q : ℕ) (r : Result Got Wrong) → RefusedText t q → TextCase t at r →
    r ≡ Err (not_admitted at)
text_off t at q r f (fits kind short is) = absurd (omega (arith, f.long))
text_off t at q r f (long kind lt is) = is
text_off t at q r f (strange front tail cut kind stops lt is) = not_strange t front tail f.kind cut (stops, lt)

at_front : (t : List ℕ) → length t ≡ 0 + length t
at_front t = omega arith

behind_one : (b : ℕ) (t : List ℕ) → length (b ∷ t) ≡ 1 + length t
behind_one b t = omega arith

list_from : (rest mine theirs : List ℕ) → rest ≡ mine ++ theirs → theirs ≡ [] → rest ≡ mine
list_from rest mine theirs cut e = cut ∙ ap (λ (x : List ℕ). mine ++ x) e ∙ append-nil mine

text_ok : (own : List PartSeen) (rest mine theirs : List ℕ) → rest ≡ mine ++ theirs →
    WritesLast IsText own mine theirs → text_at rest 0 ≡ Ok (own, length mine)
text_ok own rest mine theirs cut w =
    ap (λ bs. text_at bs 0) (list_from rest mine theirs cut w.ends)
    ∙ text_fits mine 0 _ w.meant (text_case mine mine 0 refl (at_front mine))
    ∙ ap (λ ss. Ok (ss, 0 + length mine)) (sym w.parts) ∙ ap (λ n. Ok (own, n)) (zero_on (length mine))

strings_ok : (further : ℕ) (own : List PartSeen) (rest mine theirs : List ℕ) → rest ≡ mine ++ theirs →
    WritesLast (IsList Strings further) own mine theirs → list_part_at Strings further rest 0 ≡ Ok (own, length mine)
strings_ok further own rest mine theirs cut w =
    ap (λ bs. list_part_at Strings further bs 0) (list_from rest mine theirs cut w.ends)
    ∙ part_reads Strings further mine 0 mine [] (sym (append-nil mine))
    (list_written Strings further mine w.meant ∙ ap (λ n. Ok n) (sym (zero_on (length mine))))
    ∙ ap (λ ss. Ok (ss, 0 + length mine)) (sym w.parts) ∙ ap (λ n. Ok (own, n)) (zero_on (length mine))

source_ok : (most : ℕ) (e : List (List ℕ)) (own : List PartSeen) (rest mine theirs : List ℕ) →
    rest ≡ mine ++ theirs → WritesSource (most - 1) own mine theirs →
    item_at (source most) e rest 0 ≡ Ok (own, length mine)
source_ok most e own rest mine theirs cut (nothing s m t) =
    ap (λ bs. item_at (source most) e bs 0) (list_from rest mine theirs cut t ∙ m)
    ∙ nothing_read (most - 1) [] refl refl
    ∙ ap (λ ss. Ok (ss, 0)) (sym s) ∙ ap (λ x. Ok (own, length x)) (sym m)
source_ok most e own rest mine theirs cut (of_text t s m w end) =
    ap (λ bs. item_at (source most) e bs 0) (list_from rest mine theirs cut end ∙ m) ∙ text_read (most - 1) t
    ∙ text_fits t 1 _ w (text_case (61 ∷ t) t 1 refl (behind_one 61 t))
    ∙ ap (λ ss. Ok (ss, 1 + length t)) (sym s)
    ∙ ap (λ n. Ok (own, n)) (let l : 1 + length t ≡ length mine = omega (arith, ap length m) in l)
source_ok most e own rest mine theirs cut (of_links t s m w end) =
    ap (λ bs. item_at (source most) e bs 0) (list_from rest mine theirs cut end ∙ m)
    ∙ links_read (most - 1) t _
    (part_reads Numbers (most - 1) (59 ∷ t) 1 t [] (sym (append-nil t))
    (list_behind (most - 1) t ∙ ap (moved (λ n. 1 + n) 1) (list_written Numbers (most - 1) t w)))
    ∙ ap (λ ss. Ok (ss, 1 + length t)) (sym s)
    ∙ ap (λ n. Ok (own, n)) (let l : 1 + length t ≡ length mine = omega (arith, ap length m) in l)

source_off : (most : ℕ) (e : List (List ℕ)) (rest : List ℕ) (p : ℕ) → RefusedSource (most - 1) rest p →
    item_at (source most) e rest 0 ≡ Err (not_admitted p)
source_off most e rest p (in_text t q cut f place) =
    ap (λ bs. item_at (source most) e bs 0) cut ∙ text_read (most - 1) t
    ∙ text_off t 1 q _ f (text_case (61 ∷ t) t 1 refl (behind_one 61 t))
    ∙ ap (λ n. Err (not_admitted n)) (let l : 1 ≡ p = omega (arith, f.place) in l)
source_off most e rest p (in_links t q cut f place) =
    ap (λ bs. item_at (source most) e bs 0) cut
    ∙ links_read (most - 1) t _
    (part_of Numbers (most - 1) (59 ∷ t) 1 _
    (list_behind (most - 1) t ∙ ap (moved (λ n. 1 + n) 1) (list_refused Numbers (most - 1) t q f)))
    ∙ ap (λ n. Err (not_admitted n)) (sym place)

fixed_ok : (b : ℕ) (e : List (List ℕ)) (own : List PartSeen) (rest mine theirs : List ℕ) → rest ≡ mine ++ theirs →
    own ≡ [] → mine ≡ b ∷ [] → item_at (fixed b) e rest 0 ≡ Ok (own, length mine)
fixed_ok b e own rest mine theirs cut s m =
    ap (λ bs. item_at (fixed b) e bs 0) (cut ∙ ap (λ x. x ++ theirs) m)
    ∙ fixed_is b e (b ∷ theirs) true (stands_here (eqb b) b theirs ∙ eq-eqb b b refl)
    ∙ ap (λ ss. Ok (ss, 1)) (sym s) ∙ ap (λ x. Ok (own, length x)) (sym m)

pub item_written : (i : Item) (e : List (List ℕ)) (own : List PartSeen) (rest mine theirs : List ℕ) →
    rest ≡ mine ++ theirs → Writes i e own mine theirs → item_at i e rest 0 ≡ Ok (own, length mine)
item_written (fixed b) e own rest mine theirs cut w = fixed_ok b e own rest mine theirs cut w.0 w.1
item_written (part k n) e own rest mine theirs cut w = sym (part_is k n e rest)
    ∙ part_ok k n (λ e. any) e own rest mine theirs cut w
item_written (number n low high) e own rest mine theirs cut w =
    sym (number_is n low high e rest) ∙ part_ok Digit n (λ e. lies_between low high) e own rest mine theirs cut w
item_written (chosen k n admits) e own rest mine theirs cut w = part_ok k n admits e own rest mine theirs cut w
item_written (lettered letter n high last) e own rest mine theirs cut w =
    sym (lettered_is letter n high last rest)
    ∙ option_ok (eqb letter) n (lettered_digits high) (lies_between 0 high) digits_slot last
    (lettered_becomes letter n high) own rest mine theirs cut w
item_written (signed n last) e own rest mine theirs cut w =
    sym (signed_is n last rest)
    ∙ option_ok is_sign n signed_digits any sign_slot last (signed_becomes n) own rest mine theirs cut w
item_written text e own rest mine theirs cut w = text_ok own rest mine theirs cut w
item_written (strings most) e own rest mine theirs cut w = strings_ok (most - 1) own rest mine theirs cut w
item_written (source most) e own rest mine theirs cut w = source_ok most e own rest mine theirs cut w

pub item_refused : (i : Item) (e : List (List ℕ)) (rest : List ℕ) (p : ℕ) → RefusedOne i e rest p →
    item_at i e rest 0 ≡ Err (not_admitted p)
item_refused (fixed b) e rest p f = absurd f
item_refused (part k n) e rest p f = sym (part_is k n e rest) ∙ part_off k n (λ e. any) e rest p f
item_refused (number n low high) e rest p f = sym (number_is n low high e rest)
    ∙ part_off Digit n (λ e. lies_between low high) e rest p f
item_refused (chosen k n admits) e rest p f = part_off k n admits e rest p f
item_refused (lettered letter n high last) e rest p f =
    sym (lettered_is letter n high last rest)
    ∙ option_off (eqb letter) n (lettered_digits high) (lies_between 0 high) digits_slot last
    (lettered_becomes letter n high) rest p f
item_refused (signed n last) e rest p f = sym (signed_is n last rest)
    ∙ option_off is_sign n signed_digits any sign_slot last (signed_becomes n) rest p f
item_refused text e rest p f = text_off rest 0 p _ f (text_case rest rest 0 refl (at_front rest))
    ∙ ap (λ n. Err (not_admitted n)) (sym f.place)
item_refused (strings most) e rest p f =
    part_of Strings (most - 1) rest 0 _ (list_refused Strings (most - 1) rest p f)
item_refused (source most) e rest p f = source_off most e rest p f

pub steps_written : (s : List Step) (e : List (List ℕ)) (ss : List PartSeen) (bs : List ℕ) → WritesAll s e ss bs →
    steps_at s e bs ≡ Ok ss
steps_written [] e ss bs w =
    ap (λ (r : Result (Unit {0}) Wrong). then r (λ _. Ok [])) (end_here bs 0 (omega (arith, ap length w.1)))
    ∙ ap (λ x. Ok x) (sym w.0)
steps_written (anew ∷ s) e ss bs w = steps_written s [] ss bs w
steps_written (item i ∷ s) e ss bs w =
    reads_on s e w.own w.mine w.theirs bs (item_at i e bs 0) w.bytes
    (item_written i e w.own bs w.mine w.theirs w.bytes w.first)
    ∙ ap (onward (w.own, length w.mine)) (steps_written s (e ++ map bytes_of w.own) w.others w.theirs w.later)
    ∙ ap (λ x. Ok x) (sym w.parts)

refused_by : (i : Item) (s : List Step) (e : List (List ℕ)) (rest : List ℕ) (p : ℕ) →
    ((e : List (List ℕ)) (rest : List ℕ) (p : ℕ) → Refused s e rest p → steps_at s e rest ≡ Err (not_admitted p)) →
    RefusedOne i e rest p ⊎ RefusedLater (Writes i) (Refused s) e rest p →
    steps_at (item i ∷ s) e rest ≡ Err (not_admitted p)
refused_by i s e rest p later (inl f) = ap (by_reading s e rest) (item_refused i e rest p f)
refused_by i s e rest p later (inr f) =
    reads_on s e f.own f.mine f.theirs rest (item_at i e rest 0) f.whole
    (item_written i e f.own rest f.mine f.theirs f.whole f.first)
    ∙ ap (onward (f.own, length f.mine)) (later (e ++ map bytes_of f.own) f.theirs f.q f.later)
    ∙ ap (λ n. Err (not_admitted n)) (sym f.place)

pub steps_refused : (s : List Step) (e : List (List ℕ)) (rest : List ℕ) (p : ℕ) → Refused s e rest p →
    steps_at s e rest ≡ Err (not_admitted p)
steps_refused [] e rest p f = absurd f
steps_refused (anew ∷ s) e rest p f = steps_refused s [] rest p f
steps_refused (item i ∷ s) e rest p f = refused_by i s e rest p (steps_refused s) f
