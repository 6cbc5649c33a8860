-- What is written is right in its bytes, and has no LF.
use Rattle.std.proofs.Common.{◌≡◌, ℕ, zero, suc, ◌-◌, Bool, true, false, not, eqb, List, [], ◌∷◌, ◌++◌, sym, refl, ap, ◌∙◌, subst}
use Rattle.std.proofs.lemmas.Bool.{and_parts, both_ways, not-true, eqb-false}
use mathlib.Core.Logic.{◌⊎◌, inl, inr}
use Rattle.jobparts.specs.Grammar.{Item, fixed, part, number, chosen, lettered, signed, text, strings, source}
use Rattle.jobparts.specs.Kinds.{of_kind, is_sign}
use Rattle.jobparts.specs.Parts.{PartSeen}
use Rattle.jobparts.specs.declared.part.ByteKind.{ByteKind}
use Rattle.jobparts.specs.declared.part.ByteKind.TheVariants.{Digit, Capital, CapitalOrDigit, Text}
use Rattle.jobparts.specs.declared.part.List.{List as Listed}
use Rattle.jobparts.specs.declared.part.List.TheVariants.{Strings, Numbers}
use Rattle.jobgroups.specs.Commands.{CommandSeen}
use Rattle.jobgroups.specs.Table.{letters_of, parts_of}
use Rattle.grammarlaw.specs.Commands.{WritesCommand}
use Rattle.grammarlaw.specs.Frames.{FreeOf}
use Rattle.grammarlaw.specs.Right.{AllOf, Split, Parted, RightOption, absent, sent, RightElement, RightList, RightSource, nothing, of_text, of_links, Right, AllRight}
use Rattle.grammarlaw.specs.Rows.{Step, anew, item, steps_of}
use Rattle.grammarlaw.specs.Written.{Rule, WritesOption, left_out, sent as written_sent, IsElement, IsList, WritesSource, nothing as no_source, of_text as text_source, of_links as link_source, Writes, WritesAll}
use Rattle.grammarlaw.proofs.Lists.{right_element}
use Rattle.grammarlaw.proofs.Table.{no_lines, bare, row_free, row_letters}

option_right : (f : ℕ → Bool) (n : ℕ) (rule : Rule) (as_part : ℕ → List ℕ → PartSeen) (last : Bool) (own : List PartSeen)
    (mine theirs : List ℕ) →
    WritesOption f n rule as_part last own mine theirs → RightOption f n mine
option_right f n rule as_part last own mine theirs (left_out s m over) = absent m
option_right f n rule as_part last own mine theirs (written_sent c ds s m led sized ok) = sent c ds m led sized

list_right_by : (list : Listed) (further : ℕ) (w : List ℕ) →
    ((t : List ℕ) → IsList list further t → RightList list further t) →
    IsElement list w ⊎ Parted (IsElement list) (IsList list further) w →
    RightList list (suc further) w
list_right_by list further w later (inl h) = inl (right_element list w h)
list_right_by list further w later (inr p) =
    inr (record {
      mine = p.mine;
      theirs = p.theirs;
      whole = p.whole;
      first = right_element list p.mine p.first;
      later = later p.theirs p.later;
    })

list_right : (list : Listed) (further : ℕ) (w : List ℕ) → IsList list further w → RightList list further w
list_right list zero w h = right_element list w h
list_right list (suc further) w h = list_right_by list further w (list_right list further) h

source_right : (further : ℕ) (own : List PartSeen) (mine theirs : List ℕ) → WritesSource further own mine theirs →
    RightSource further mine
source_right further own mine theirs (no_source s m e) = nothing m
source_right further own mine theirs (text_source t s m w e) = of_text t m w.kind
source_right further own mine theirs (link_source t s m w e) = of_links t m (list_right Numbers further t w)

item_right : (i : Item) (e : List (List ℕ)) (own : List PartSeen) (mine theirs : List ℕ) →
    Writes i e own mine theirs → Right i mine
item_right (fixed b) e own mine theirs w = w.1
item_right (part k n) e own mine theirs w = w.sized
item_right (number n low high) e own mine theirs w = w.sized
item_right (chosen k n admits) e own mine theirs w = w.sized
item_right (lettered letter n high last) e own mine theirs w = option_right _ _ _ _ last own mine theirs w
item_right (signed n last) e own mine theirs w = option_right _ _ _ _ last own mine theirs w
item_right text e own mine theirs w = w.meant.kind
item_right (strings most) e own mine theirs w = list_right Strings (most - 1) mine w.meant
item_right (source most) e own mine theirs w = source_right (most - 1) own mine theirs w

pub all_right : (steps : List Step) (e : List (List ℕ)) (ss : List PartSeen) (bs : List ℕ) →
    WritesAll steps e ss bs → AllRight steps bs
all_right [] e ss bs w = w.1
all_right (anew ∷ steps) e ss bs w = all_right steps [] ss bs w
all_right (item i ∷ steps) e ss bs w =
    record {
      mine = w.mine;
      theirs = w.theirs;
      whole = w.bytes;
      first = item_right i e w.own w.mine w.theirs w.first;
      later = all_right steps _ w.others w.theirs w.later;
    }

-- no LF
free_append : (xs ys : List ℕ) → FreeOf 10 xs → FreeOf 10 ys → FreeOf 10 (xs ++ ys)
free_append [] ys h k = k
free_append (x ∷ xs) ys h k = (h.0, free_append xs ys h.1 k)

no_line : (k : ByteKind) → of_kind k 10 ≡ false
no_line Digit = refl
no_line Capital = refl
no_line CapitalOrDigit = refl
no_line Text = refl

kind_free : (k : ByteKind) (bs : List ℕ) → AllOf k bs → FreeOf 10 bs
kind_free k [] h = tt
kind_free k (b ∷ bs) h =
    (λ e. both_ways (of_kind k 10) (no_line k) (ap (of_kind k) (sym e) ∙ h.0), kind_free k bs h.1)

element_free : (list : Listed) (w : List ℕ) → RightElement list w → FreeOf 10 w
element_free Strings w h = kind_free Text w h
element_free Numbers w h = kind_free Digit w h.kind

differs : (b : ℕ) → eqb b 10 ≡ false → b ≡ 10 → ⊥
differs b e = eqb-false b 10 e

list_free_by : (list : Listed) (further : ℕ) (w : List ℕ) →
    ((t : List ℕ) → RightList list further t → FreeOf 10 t) →
    RightElement list w ⊎ Parted (RightElement list) (RightList list further) w → FreeOf 10 w
list_free_by list further w later (inl h) = element_free list w h
list_free_by list further w later (inr p) =
    subst (FreeOf 10) (sym p.whole)
    (free_append p.mine (44 ∷ p.theirs) (element_free list p.mine p.first)
    (differs 44 refl, later p.theirs p.later))

list_free : (list : Listed) (further : ℕ) (w : List ℕ) → RightList list further w → FreeOf 10 w
list_free list zero w h = element_free list w h
list_free list (suc further) w h = list_free_by list further w (list_free list further) h

option_free : (f : ℕ → Bool) (n : ℕ) (w : List ℕ) → f 10 ≡ false → RightOption f n w → FreeOf 10 w
option_free f n w no_ten (absent e) = subst (FreeOf 10) (sym e) tt
option_free f n w no_ten (sent c ds e led sized) =
    subst (FreeOf 10) (sym e)
    (differs 44 refl, (λ same. both_ways (f 10) no_ten (ap f (sym same) ∙ led), kind_free Digit ds sized.kind))

source_free : (further : ℕ) (w : List ℕ) → RightSource further w → FreeOf 10 w
source_free further w (nothing e) = subst (FreeOf 10) (sym e) tt
source_free further w (of_text t e h) = subst (FreeOf 10) (sym e) (differs 61 refl, kind_free Text t h)
source_free further w (of_links t e h) = subst (FreeOf 10) (sym e) (differs 59 refl, list_free Numbers further t h)

split_free : (First Others : List ℕ → Type 0) (w : List ℕ) → ((m : List ℕ) → First m → FreeOf 10 m) →
    ((t : List ℕ) → Others t → FreeOf 10 t) → Split First Others w → FreeOf 10 w
split_free First Others w h k s =
    subst (FreeOf 10) (sym s.whole) (free_append s.mine s.theirs (h s.mine s.first) (k s.theirs s.later))

all_free : (steps : List Step) → no_lines steps ≡ true → (w : List ℕ) → AllRight steps w → FreeOf 10 w
all_free [] e w h = subst (FreeOf 10) (sym h) tt
all_free (anew ∷ steps) e w h = all_free steps e w h
all_free (item (fixed b) ∷ steps) e w h =
    let both = and_parts (not (eqb b 10)) (no_lines steps) e in
    split_free (Right (fixed b)) (AllRight steps) w
    (λ m is. subst (FreeOf 10) (sym is) (differs b (not-true _ both.0), tt)) (all_free steps both.1) h
all_free (item (part k n) ∷ steps) e w h =
    split_free (Right (part k n)) (AllRight steps) w (λ m s. kind_free k m s.kind) (all_free steps e) h
all_free (item (number n low high) ∷ steps) e w h = split_free (Right (number n low high)) (AllRight steps) w
    (λ m s. kind_free Digit m s.kind) (all_free steps e) h
all_free (item (chosen k n admits) ∷ steps) e w h = split_free (Right (chosen k n admits)) (AllRight steps) w
    (λ m s. kind_free k m s.kind) (all_free steps e) h
all_free (item (lettered letter n high last) ∷ steps) e w h =
    let both = and_parts (not (eqb letter 10)) (no_lines steps) e in
    split_free (Right (lettered letter n high last)) (AllRight steps) w
    (λ m s. option_free (eqb letter) n m (not-true _ both.0) s) (all_free steps both.1) h
all_free (item (signed n last) ∷ steps) e w h =
    split_free (Right (signed n last)) (AllRight steps) w (λ m s. option_free is_sign n m refl s) (all_free steps e) h
all_free (item text ∷ steps) e w h = split_free (Right text) (AllRight steps) w (λ m s. kind_free Text m s)
    (all_free steps e) h
all_free (item (strings most) ∷ steps) e w h =
    split_free (Right (strings most)) (AllRight steps) w (λ m s. list_free Strings (most - 1) m s)
    (all_free steps e) h
all_free (item (source most) ∷ steps) e w h =
    split_free (Right (source most)) (AllRight steps) w (λ m s. source_free (most - 1) m s) (all_free steps e) h

letters_free : (ls : List ℕ) → bare ls ≡ true → FreeOf 10 ls
letters_free [] e = tt
letters_free (b ∷ bs) e =
    let both = and_parts (not (eqb b 10)) (bare bs) e in
    (differs b (not-true _ both.0), letters_free bs both.1)

-- a command that is written has no LF before its own
pub command_free : (p : CommandSeen) (body : List ℕ) (start : ℕ) → WritesCommand p body start → FreeOf 10 body
command_free p body start w =
    let steps = steps_of (parts_of p.letters) in
    subst (FreeOf 10) (sym w.whole)
    (free_append (letters_of p.letters) w.behind (letters_free (letters_of p.letters) (row_letters p.letters))
    (all_free steps (row_free p.letters) w.behind (all_right steps [] w.parts.parts w.behind w.parts.written)))
