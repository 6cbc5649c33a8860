-- Link strings to the end of a command, and where a field's text comes from.
use Rattle.std.proofs.Common.{◌≡◌, ℕ, ◌+◌, ◌-◌, ◌<◌, Bool, true, false, eqb, List, [], ◌∷◌, ◌++◌, map, length, take, drop, Ok, Err, Result, sym, refl, ap, ◌∙◌, arith, subst}
use Rattle.std.proofs.lemmas.Bool.{cond-true, cond-false, eqb-true, eqb-false}
use Rattle.std.proofs.lemmas.List.{append-nil, take_at}
use Rattle.jobparts.specs.Grammar.{strings, source}
use Rattle.jobparts.specs.Items.{span, text_at, list_at, list_part_at, as_links, source_at}
use Rattle.jobparts.specs.Kinds.{stands}
use Rattle.jobparts.specs.Parts.{PartSeen, missing, given, linked, Got, then, wrong_byte}
use Rattle.jobparts.specs.declared.part.ByteKind.TheVariants.{Text}
use Rattle.jobparts.specs.declared.part.List.{List as Listed}
use Rattle.jobparts.specs.declared.part.List.TheVariants.{Strings, Numbers}
use Rattle.jobparts.specs.declared.part.Wrong.{Wrong}
use Rattle.joblaw.specs.Located.{moved}
use Rattle.grammarlaw.specs.Bodies.{GoesOnAs, Breaks}
use Rattle.grammarlaw.specs.Right.{AllOf, RightList, RightSource, nothing, of_text, of_links}
use Rattle.grammarlaw.specs.Rows.{item}
use Rattle.grammarlaw.specs.Written.{IsText, IsList, WritesLast, WritesSource, nothing as no_source, of_text as text_source, of_links as link_source}
use Rattle.grammarlaw.specs.Refused.{RefusedList, RefusedSource, in_text, in_links}
use Rattle.joblaw.proofs.Texts.{list_moves}
use Rattle.grammarlaw.proofs.Lists.{ListCase, reads, breaks, refuses, list_case}
use Rattle.grammarlaw.proofs.Breaking.{same_head}
use Rattle.grammarlaw.proofs.Plain.{Later, stands_here, zero_on}
use Rattle.grammarlaw.proofs.Whole.{LastCase, all, over, foreign, off, last_comes, TextCase, fits, long, strange, text_case, text_breaks}

pub part_of : (list : Listed) (further : ℕ) (body : List ℕ) (at : ℕ) (r : Result ℕ Wrong) →
    list_at list further body at ≡ r →
    list_part_at list further body at ≡ then r (λ next. Ok (given at (span body at next) ∷ [], next))
unfolding list_part_at
part_of list further body at r is = ap (λ q. then q (λ next. Ok (given at (span body at next) ∷ [], next))) is

-- the bytes that a list takes
front_span : (at : ℕ) (body mine theirs : List ℕ) → drop at body ≡ mine ++ theirs →
    span body at (at + length mine) ≡ mine
front_span at body mine theirs e =
    ap (λ n. take n (drop at body)) (let g : (at + length mine) - at ≡ length mine = omega arith in g)
    ∙ ap (take (length mine)) e ∙ take_at mine theirs (length mine) refl

pub part_reads : (list : Listed) (further : ℕ) (body : List ℕ) (at : ℕ) (mine theirs : List ℕ) →
    drop at body ≡ mine ++ theirs → list_at list further body at ≡ Ok (at + length mine) →
    list_part_at list further body at ≡ Ok (given at mine ∷ [], at + length mine)
part_reads list further body at mine theirs cut is =
    part_of list further body at _ is
    ∙ ap (λ bs. Ok (given at bs ∷ [], at + length mine)) (front_span at body mine theirs cut)

abbrev pub ListWritten : Listed → ℕ → List PartSeen → List ℕ → Type 0
ListWritten list further own mine = (own ≡ given 0 mine ∷ []) × IsList list further mine

strings_by : (list : Listed) (further : ℕ) (rest mine theirs : List ℕ) → rest ≡ mine ++ theirs →
    IsList list further mine →
    list_part_at list further rest 0 ≡ Ok (given 0 mine ∷ [], length mine) →
    (0 < length theirs → Breaks (RightList list further) mine theirs) →
    LastCase (RightList list further) (ListWritten list further) (RefusedList list further rest) rest
    (list_part_at list further rest 0)
strings_by list further rest mine [] cut w is ends =
    let same : mine ≡ rest = sym (cut ∙ append-nil mine) in
    all (given 0 rest ∷ [])
    (subst (λ m. list_part_at list further rest 0 ≡ Ok (given 0 m ∷ [], length m)) same is)
    (refl, subst (IsList list further) same w)
strings_by list further rest mine (b ∷ theirs) cut w is ends =
    over (given 0 mine ∷ []) mine (b ∷ theirs) cut is (omega arith) (ends (omega arith))

pub strings_last : (list : Listed) (further : ℕ) (rest : List ℕ) →
    ListCase list further rest (list_at list further rest 0) →
    LastCase (RightList list further) (ListWritten list further) (RefusedList list further rest) rest
    (list_part_at list further rest 0)
strings_last list further rest (reads mine theirs cut is w ends) =
    strings_by list further rest mine theirs cut w
    (part_reads list further rest 0 mine theirs cut (is ∙ ap (λ n. Ok n) (sym (zero_on (length mine))))
    ∙ ap (λ n. Ok (given 0 mine ∷ [], n)) (zero_on (length mine))) ends
strings_last list further rest (breaks front tail cut is b) =
    foreign front tail cut (part_of list further rest 0 _ is) b
strings_last list further rest (refuses p is f) = off p (part_of list further rest 0 _ is) f

pub strings_comes : (most : ℕ) → Later (item (strings most) ∷ [])
strings_comes most e rest =
    last_comes (RightList Strings (most - 1))
    (λ e own mine theirs. WritesLast (IsList Strings (most - 1)) own mine theirs)
    (ListWritten Strings (most - 1)) (RefusedList Strings (most - 1) rest) e rest
    (list_part_at Strings (most - 1) rest 0) (λ own mine w. record { parts = w.0; meant = w.1; ends = refl })
    (strings_last Strings (most - 1) rest (list_case Strings (most - 1) rest))

-- the source of a field's text
pub links_read : (further : ℕ) (t : List ℕ) (r : Result Got Wrong) →
    list_part_at Numbers further (59 ∷ t) 1 ≡ r →
    source_at further (59 ∷ t) 0 ≡ then r (λ o. Ok (map as_links o.0, o.1))
unfolding source_at
links_read further t r is =
    cond-false _ _ _ (stands_here (eqb 61) 59 t) ∙ cond-true _ _ _ (stands_here (eqb 59) 59 t)
    ∙ ap (λ q. then q (λ o. Ok (map as_links o.0, o.1))) is

pub text_read : (further : ℕ) (t : List ℕ) → source_at further (61 ∷ t) 0 ≡ text_at (61 ∷ t) 1
unfolding source_at
text_read further t = cond-true _ _ _ (stands_here (eqb 61) 61 t)

pub nothing_read : (further : ℕ) (rest : List ℕ) → stands (eqb 61) rest 0 ≡ false →
    stands (eqb 59) rest 0 ≡ false → source_at further rest 0 ≡ Ok (missing ∷ [], 0)
unfolding source_at
nothing_read further rest e e' = cond-false _ _ _ e ∙ cond-false _ _ _ e'

pub list_behind : (further : ℕ) (t : List ℕ) →
    list_at Numbers further (59 ∷ t) 1 ≡ moved (λ n. 1 + n) 1 (list_at Numbers further t 0)
list_behind further t = list_moves Numbers further (59 ∷ []) t 0

pub data SourceWritten (further : ℕ) (own : List PartSeen) (mine : List ℕ) : Type 0 where
  none : own ≡ missing ∷ [] → mine ≡ [] → SourceWritten further own mine
  texts : (t : List ℕ) → own ≡ given 1 t ∷ [] → mine ≡ 61 ∷ t → IsText t → SourceWritten further own mine
  links : (t : List ℕ) → own ≡ linked 1 t ∷ [] → mine ≡ 59 ∷ t → IsList Numbers further t →
      SourceWritten further own mine

abbrev pub SourceCase : ℕ → List ℕ → Type 0
SourceCase further rest = LastCase (RightSource further) (SourceWritten further) (RefusedSource further rest)
    rest (source_at further rest 0)

-- a body of a source that begins with the byte of its text, or of its links
text_tail : (further : ℕ) (t : List ℕ) → RightSource further (61 ∷ t) → AllOf Text t
text_tail further t (nothing e) = absurd (cc)
text_tail further t (of_text u e h) = let same : u ≡ t = cc in subst (AllOf Text) same h
text_tail further t (of_links u e h) = absurd (eqb-false 61 59 refl (same_head 61 59 t u e))

links_tail : (further : ℕ) (t : List ℕ) → RightSource further (59 ∷ t) → RightList Numbers further t
links_tail further t (nothing e) = absurd (cc)
links_tail further t (of_text u e h) = absurd (eqb-false 59 61 refl (same_head 59 61 t u e))
links_tail further t (of_links u e h) = let same : u ≡ t = cc in subst (RightList Numbers further) same h

other_tail : (further : ℕ) (b : ℕ) (t : List ℕ) → (b ≡ 61 → ⊥) → (b ≡ 59 → ⊥) → RightSource further (b ∷ t) → ⊥
other_tail further b t no_text no_links (nothing e) = cc
other_tail further b t no_text no_links (of_text u e h) = no_text (cc)
other_tail further b t no_text no_links (of_links u e h) = no_links (cc)

text_source_breaks : (further : ℕ) (front tail : List ℕ) → Breaks (AllOf Text) front tail →
    Breaks (RightSource further) (61 ∷ front) tail
text_source_breaks further front tail b =
    record {
      goes = (b.goes.0, of_text (front ++ b.goes.0) refl b.goes.1);
      ends = λ x same w. b.ends x same (text_tail further (front ++ x) w);
    }

links_source_breaks : (further : ℕ) (front tail : List ℕ) → Breaks (RightList Numbers further) front tail →
    Breaks (RightSource further) (59 ∷ front) tail
links_source_breaks further front tail b =
    record {
      goes = (b.goes.0, of_links (front ++ b.goes.0) refl b.goes.1);
      ends = λ x same w. b.ends x same (links_tail further (front ++ x) w);
    }

other_ends : (further : ℕ) (b : ℕ) (t x : List ℕ) → (b ≡ 61 → ⊥) → (b ≡ 59 → ⊥) → GoesOnAs (b ∷ t) x →
    RightSource further x → ⊥
other_ends further b t [] no_text no_links same w = same
other_ends further b t (c ∷ x) no_text no_links same w =
    other_tail further c x (λ e. no_text (sym same ∙ e)) (λ e. no_links (sym same ∙ e)) w

source_text : (further : ℕ) (t : List ℕ) → TextCase t 1 (text_at (61 ∷ t) 1) → SourceCase further (61 ∷ t)
source_text further t (fits kind short is) =
    all (given 1 t ∷ [])
    (text_read further t ∙ is
    ∙ ap (λ n. Ok (given 1 t ∷ [], n)) (let e : 1 + length t ≡ length (61 ∷ t) = omega arith in e))
    (texts t refl refl (record { kind = kind; short = short }))
source_text further t (long kind lt is) =
    off 1 (text_read further t ∙ is) (in_text t 0 refl (record { kind = kind; long = lt; place = refl }) refl)
source_text further t (strange front tail cut kind stops lt is) =
    foreign (61 ∷ front) tail (ap (λ (x : List ℕ). 61 ∷ x) cut)
    (text_read further t ∙ is
    ∙ ap (λ n. Err (wrong_byte n)) (let e : 1 + length front ≡ length (61 ∷ front) = omega arith in e))
    (text_source_breaks further front tail (text_breaks front tail kind stops lt))

source_links_by : (further : ℕ) (t mine theirs : List ℕ) → t ≡ mine ++ theirs → IsList Numbers further mine →
    source_at further (59 ∷ t) 0 ≡ Ok (linked 1 mine ∷ [], 1 + length mine) →
    (0 < length theirs → Breaks (RightList Numbers further) mine theirs) → SourceCase further (59 ∷ t)
source_links_by further t mine [] cut w is ends =
    let same : mine ≡ t = sym (cut ∙ append-nil mine) in
    all (linked 1 t ∷ [])
    (subst (λ m. source_at further (59 ∷ t) 0 ≡ Ok (linked 1 m ∷ [], 1 + length m)) same is
    ∙ ap (λ n. Ok (linked 1 t ∷ [], n)) (let e : 1 + length t ≡ length (59 ∷ t) = omega arith in e))
    (links t refl refl (subst (IsList Numbers further) same w))
source_links_by further t mine (b ∷ theirs) cut w is ends =
    over (linked 1 mine ∷ []) (59 ∷ mine) (b ∷ theirs) (ap (λ (x : List ℕ). 59 ∷ x) cut)
    (is ∙ ap (λ n. Ok (linked 1 mine ∷ [], n))
    (let e : 1 + length mine ≡ length (59 ∷ mine) = omega arith in e)) (omega arith)
    (links_source_breaks further mine (b ∷ theirs) (ends (omega arith)))

source_links : (further : ℕ) (t : List ℕ) → ListCase Numbers further t (list_at Numbers further t 0) →
    SourceCase further (59 ∷ t)
source_links further t (reads mine theirs cut is w ends) =
    source_links_by further t mine theirs cut w
    (links_read further t _
    (part_reads Numbers further (59 ∷ t) 1 mine theirs cut
    (list_behind further t ∙ ap (moved (λ n. 1 + n) 1) is))) ends
source_links further t (breaks front tail cut is b) =
    foreign (59 ∷ front) tail (ap (λ (x : List ℕ). 59 ∷ x) cut)
    (links_read further t _
    (part_of Numbers further (59 ∷ t) 1 _ (list_behind further t ∙ ap (moved (λ n. 1 + n) 1) is))
    ∙ ap (λ n. Err (wrong_byte n)) (let e : 1 + length front ≡ length (59 ∷ front) = omega arith in e))
    (links_source_breaks further front tail b)
source_links further t (refuses p is f) =
    off (1 + p) (links_read further t _
    (part_of Numbers further (59 ∷ t) 1 _ (list_behind further t ∙ ap (moved (λ n. 1 + n) 1) is)))
    (in_links t p refl f refl)

source_by_links : (further : ℕ) (b : ℕ) (t : List ℕ) → (b ≡ 61 → ⊥) → stands (eqb 61) (b ∷ t) 0 ≡ false →
    (u : Bool) → eqb 59 b ≡ u → SourceCase further (b ∷ t)
source_by_links further b t no_text bare true e =
    subst (λ z. SourceCase further (z ∷ t)) (eqb-true 59 b e) (source_links further t (list_case Numbers further t))
source_by_links further b t no_text bare false e =
    over (missing ∷ []) [] (b ∷ t) refl (nothing_read further (b ∷ t) bare (stands_here (eqb 59) b t ∙ e))
    (omega arith)
    (record {
      goes = ([], nothing refl);
      ends = λ x same w. other_ends further b t x no_text (λ z. eqb-false 59 b e (sym z)) same w;
    })

source_by : (further : ℕ) (b : ℕ) (t : List ℕ) → (u : Bool) → eqb 61 b ≡ u → SourceCase further (b ∷ t)
source_by further b t true e =
    subst (λ z. SourceCase further (z ∷ t)) (eqb-true 61 b e)
    (source_text further t (text_case (61 ∷ t) t 1 refl (let l : length (61 ∷ t) ≡ 1 + length t = omega arith in l)))
source_by further b t false e = source_by_links further b t (λ z. eqb-false 61 b e (sym z))
    (stands_here (eqb 61) b t ∙ e) (eqb 59 b) refl

pub source_case : (further : ℕ) (rest : List ℕ) → SourceCase further rest
source_case further [] = all (missing ∷ []) (nothing_read further [] refl refl) (none refl refl)
source_case further (b ∷ t) = source_by further b t (eqb 61 b) refl

to_written : (further : ℕ) (own : List PartSeen) (mine : List ℕ) → SourceWritten further own mine →
    WritesSource further own mine []
to_written further own mine (none s m) = no_source s m refl
to_written further own mine (texts t s m w) = text_source t s m w refl
to_written further own mine (links t s m w) = link_source t s m w refl

pub source_comes : (most : ℕ) → Later (item (source most) ∷ [])
source_comes most e rest =
    last_comes (RightSource (most - 1)) (λ e own mine theirs. WritesSource (most - 1) own mine theirs)
    (SourceWritten (most - 1)) (RefusedSource (most - 1) rest) e rest
    (source_at (most - 1) rest 0) (to_written (most - 1)) (source_case (most - 1) rest)
