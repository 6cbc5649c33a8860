-- How a command is written from its parts.
--   Writes i e own mine theirs   the item i is written as the bytes mine, and yields the parts own, their places
--                                counted from its first byte; e are the bytes of the group's parts before it,
--                                theirs all bytes behind it
--   WritesAll steps e ss bs      the same for all steps of a command: bs are all bytes behind the letters
use Rattle.std.specs.Prelude.{◌≡◌, ◌≤◌, ℕ, zero, suc, ◌-◌, Bool, true, false, cond, not, List, [], ◌∷◌, ◌++◌, map, length, ◌⊎◌, nat_eq}
use Rattle.limits.specs.Bytes.{between}
use Rattle.limits.specs.Limits.{longest_text, last_link}
use Rattle.jobparts.specs.Grammar.{Item, fixed, part, number, chosen, lettered, signed, text, strings, source}
use Rattle.jobparts.specs.Kinds.{stands, is_sign}
use Rattle.jobparts.specs.Parts.{PartSeen, missing, given, linked, bytes_of}
use Rattle.jobparts.specs.Values.{number_of}
use Rattle.jobparts.specs.declared.part.ByteKind.{ByteKind}
use Rattle.jobparts.specs.declared.part.ByteKind.TheVariants.{Digit, Text}
use Rattle.jobparts.specs.declared.part.List.{List as Listed}
use Rattle.jobparts.specs.declared.part.List.TheVariants.{Strings, Numbers}
use Rattle.joblaw.specs.Located.{shift_part}
use Rattle.grammarlaw.specs.Right.{AllOf, Sized, Parted}
use Rattle.grammarlaw.specs.Rows.{Step, anew, item}

-- what a rule of a part says of its bytes, and of all bytes behind it
abbrev pub Rule : Type 0
Rule = List ℕ → List ℕ → Bool

abbrev pub lies_between : ℕ → ℕ → Rule
lies_between low high own behind = between low high (number_of own)

abbrev pub any : Rule
any own behind = true

pub record WritesPart (k : ByteKind) (n : ℕ) (rule : Rule) (own : List PartSeen) (mine theirs : List ℕ) : Type 0 where
  pub parts : own ≡ given 0 mine ∷ []
  pub sized : Sized k n mine
  pub admitted : rule mine theirs ≡ true

-- the bytes are not taken for an option: they begin with no comma, or another option may follow that comma
abbrev pub left_over : (ℕ → Bool) → Bool → List ℕ → Bool
left_over f last theirs = not (cond (stands (nat_eq 44) theirs 0) (cond last true (stands f theirs 1)) false)

pub data WritesOption (f : ℕ → Bool) (n : ℕ) (rule : Rule) (as_part : ℕ → List ℕ → PartSeen) (last : Bool)
    (own : List PartSeen) (mine theirs : List ℕ) : Type 0 where
  left_out : own ≡ missing ∷ [] → mine ≡ [] → left_over f last theirs ≡ true →
      WritesOption f n rule as_part last own mine theirs
  sent :
      (c : ℕ) (ds : List ℕ) → own ≡ as_part c ds ∷ [] → mine ≡ 44 ∷ c ∷ ds → f c ≡ true → Sized Digit n ds →
      rule ds theirs ≡ true →
      WritesOption f n rule as_part last own mine theirs

abbrev pub digits_slot : ℕ → List ℕ → PartSeen
digits_slot c ds = given 2 ds

abbrev pub sign_slot : ℕ → List ℕ → PartSeen
sign_slot c ds = given 1 (c ∷ ds)

pub record IsText (w : List ℕ) : Type 0 where
  pub kind : AllOf Text w
  pub short : length w ≤ longest_text

pub record IsLink (w : List ℕ) : Type 0 where
  pub digits : Sized Digit 2 w
  pub admitted : between 1 last_link (number_of w) ≡ true

abbrev pub IsElement : Listed → List ℕ → Type 0
IsElement Strings w = IsText w
IsElement Numbers w = IsLink w

-- one element, and at most so many more
abbrev pub IsList : Listed → ℕ → List ℕ → Type 0
IsList list zero w = IsElement list w
IsList list (suc further) w = IsElement list w ⊎ Parted (IsElement list) (IsList list further) w

pub record WritesLast (P : List ℕ → Type 0) (own : List PartSeen) (mine theirs : List ℕ) : Type 0 where
  pub parts : own ≡ given 0 mine ∷ []
  pub meant : P mine
  pub ends : theirs ≡ []

pub data WritesSource (further : ℕ) (own : List PartSeen) (mine theirs : List ℕ) : Type 0 where
  nothing : own ≡ missing ∷ [] → mine ≡ [] → theirs ≡ [] → WritesSource further own mine theirs
  of_text : (t : List ℕ) → own ≡ given 1 t ∷ [] → mine ≡ 61 ∷ t → IsText t → theirs ≡ [] →
      WritesSource further own mine theirs
  of_links : (t : List ℕ) → own ≡ linked 1 t ∷ [] → mine ≡ 59 ∷ t → IsList Numbers further t → theirs ≡ [] →
      WritesSource further own mine theirs

abbrev pub Writes : Item → List (List ℕ) → List PartSeen → List ℕ → List ℕ → Type 0
Writes (fixed b) e own mine theirs = (own ≡ []) × (mine ≡ b ∷ [])
Writes (part kind n) e own mine theirs = WritesPart kind n any own mine theirs
Writes (number n low high) e own mine theirs = WritesPart Digit n (lies_between low high) own mine theirs
Writes (chosen kind n admits) e own mine theirs = WritesPart kind n (admits e) own mine theirs
Writes (lettered letter n high last) e own mine theirs =
    WritesOption (nat_eq letter) n (lies_between 0 high) digits_slot last own mine theirs
Writes (signed n last) e own mine theirs = WritesOption is_sign n any sign_slot last own mine theirs
Writes text e own mine theirs = WritesLast IsText own mine theirs
Writes (strings most) e own mine theirs = WritesLast (IsList Strings (most - 1)) own mine theirs
Writes (source most) e own mine theirs = WritesSource (most - 1) own mine theirs

pub record WritesOn (First : List (List ℕ) → List PartSeen → List ℕ → List ℕ → Type 0)
    (Later : List (List ℕ) → List PartSeen → List ℕ → Type 0) (e : List (List ℕ)) (ss : List PartSeen)
    (bs : List ℕ) : Type 0 where
  pub own : List PartSeen
  pub others : List PartSeen
  pub mine : List ℕ
  pub theirs : List ℕ
  pub parts : ss ≡ own ++ map (shift_part (length mine)) others
  pub bytes : bs ≡ mine ++ theirs
  pub first : First e own mine theirs
  pub later : Later (e ++ map bytes_of own) others theirs

abbrev pub WritesAll : List Step → List (List ℕ) → List PartSeen → List ℕ → Type 0
WritesAll [] e ss bs = (ss ≡ []) × (bs ≡ [])
WritesAll (anew ∷ steps) e ss bs = WritesAll steps [] ss bs
WritesAll (item i ∷ steps) e ss bs = WritesOn (Writes i) (WritesAll steps) e ss bs
