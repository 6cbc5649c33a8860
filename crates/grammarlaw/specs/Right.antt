-- Which bytes are right, values, choices and lengths of texts aside. How many strings or links there may
-- be counts as bytes.
--   AllOf k bs        all bytes are of a kind
--   Sized k n bs      n bytes of a kind
--   Split A B w       w is bytes of A, and bytes of B behind them
--   Parted A B w      the same with a comma between
--   Right i w         w is right for one item
--   AllRight steps w  w is right for one item behind the other, to the end
use Rattle.std.specs.Prelude.{◌≡◌, ℕ, zero, suc, ◌-◌, Bool, true, List, [], ◌∷◌, ◌++◌, length, ◌⊎◌, nat_eq}
use Rattle.jobparts.specs.Grammar.{Item, fixed, part, number, chosen, lettered, signed, text, strings, source}
use Rattle.jobparts.specs.Kinds.{of_kind, is_sign}
use Rattle.jobparts.specs.declared.part.ByteKind.{ByteKind}
use Rattle.jobparts.specs.declared.part.ByteKind.TheVariants.{Digit, Text}
use Rattle.jobparts.specs.declared.part.List.{List as Listed}
use Rattle.jobparts.specs.declared.part.List.TheVariants.{Strings, Numbers}
use Rattle.grammarlaw.specs.Rows.{Step, anew, item}

abbrev pub AllOf : ByteKind → List ℕ → Type 0
AllOf k [] = Unit {0}
AllOf k (b ∷ bs) = (of_kind k b ≡ true) × AllOf k bs

pub record Sized (k : ByteKind) (n : ℕ) (bs : List ℕ) : Type 0 where
  pub count : length bs ≡ n
  pub kind : AllOf k bs

pub record Split (First Later : List ℕ → Type 0) (w : List ℕ) : Type 0 where
  pub mine : List ℕ
  pub theirs : List ℕ
  pub whole : w ≡ mine ++ theirs
  pub first : First mine
  pub later : Later theirs

pub record Parted (First Later : List ℕ → Type 0) (w : List ℕ) : Type 0 where
  pub mine : List ℕ
  pub theirs : List ℕ
  pub whole : w ≡ mine ++ (44 ∷ theirs)
  pub first : First mine
  pub later : Later theirs

-- nothing, or a comma, a byte that passes f, and n digits
pub data RightOption (f : ℕ → Bool) (n : ℕ) (w : List ℕ) : Type 0 where
  absent : w ≡ [] → RightOption f n w
  sent : (c : ℕ) (ds : List ℕ) → w ≡ 44 ∷ c ∷ ds → f c ≡ true → Sized Digit n ds → RightOption f n w

-- a link string is text bytes, a link number two digits
abbrev pub RightElement : Listed → List ℕ → Type 0
RightElement Strings w = AllOf Text w
RightElement Numbers w = Sized Digit 2 w

-- one element, and at most so many more
abbrev pub RightList : Listed → ℕ → List ℕ → Type 0
RightList list zero w = RightElement list w
RightList list (suc further) w = RightElement list w ⊎ Parted (RightElement list) (RightList list further) w

-- nothing, `=` and a text, or `;` and link numbers
pub data RightSource (further : ℕ) (w : List ℕ) : Type 0 where
  nothing : w ≡ [] → RightSource further w
  of_text : (t : List ℕ) → w ≡ 61 ∷ t → AllOf Text t → RightSource further w
  of_links : (t : List ℕ) → w ≡ 59 ∷ t → RightList Numbers further t → RightSource further w

abbrev pub Right : Item → List ℕ → Type 0
Right (fixed b) w = w ≡ b ∷ []
Right (part kind n) w = Sized kind n w
Right (number n low high) w = Sized Digit n w
Right (chosen kind n admits) w = Sized kind n w
Right (lettered letter n high last) w = RightOption (nat_eq letter) n w
Right (signed n last) w = RightOption is_sign n w
Right text w = AllOf Text w
Right (strings most) w = RightList Strings (most - 1) w
Right (source most) w = RightSource (most - 1) w

abbrev pub AllRight : List Step → List ℕ → Type 0
AllRight [] w = w ≡ []
AllRight (anew ∷ steps) w = AllRight steps w
AllRight (item i ∷ steps) w = Split (Right i) (AllRight steps) w
