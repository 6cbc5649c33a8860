-- Where bodies break that begin with bytes of a known number.
use Rattle.std.proofs.Common.{◌≡◌, ℕ, zero, suc, ◌+◌, ◌-◌, ◌<◌, true, List, [], ◌∷◌, ◌++◌, length, replicate, sym, refl, ap, ◌∙◌, arith, subst}
use Rattle.std.proofs.lemmas.List.{append_assoc, length-append, length-replicate}
use Rattle.std.proofs.lemmas.Bool.{both_ways}
use Rattle.jobparts.specs.Kinds.{of_kind}
use Rattle.jobparts.specs.declared.part.ByteKind.{ByteKind}
use Rattle.jobparts.specs.declared.part.ByteKind.TheVariants.{Digit, Capital, CapitalOrDigit, Text}
use Rattle.grammarlaw.specs.Bodies.{GoesOnAs, Breaks}
use Rattle.grammarlaw.specs.Right.{AllOf, Sized, Split}
use Rattle.grammarlaw.proofs.Parts.{Stops}

pub same_head : (b c : ℕ) (t u : List ℕ) → b ∷ t ≡ c ∷ u → b ≡ c
same_head b c t u e = cc

-- two lists with fronts of one length
pub same_front : (m t m' t' : List ℕ) → length m ≡ length m' → m ++ t ≡ m' ++ t' → (m ≡ m') × (t ≡ t')
same_front [] t [] t' l e = (refl, e)
same_front [] t (b ∷ m') t' l e = absurd (omega arith)
same_front (b ∷ m) t [] t' l e = absurd (omega arith)
same_front (b ∷ m) t (c ∷ m') t' l e =
    let rest = same_front m t m' t' (omega arith) (cc) in
    let head : b ≡ c = cc in
    (ap (λ x. x ∷ m) head ∙ ap (λ (x : List ℕ). c ∷ x) rest.0, rest.1)

-- a break behind bytes that are all that can stand there
pub breaks_behind : {S A : List ℕ → Type 0} (mine front tail : List ℕ) → S mine →
    ((m t y : List ℕ) → S m → A t → mine ++ y ≡ m ++ t → y ≡ t) → Breaks A front tail →
    Breaks (Split S A) (mine ++ front) tail
breaks_behind {A = A} mine front tail s only b =
    record {
      goes = (
        b.goes.0,
        record {
          mine = mine;
          theirs = front ++ b.goes.0;
          whole = append_assoc mine front b.goes.0;
          first = s;
          later = b.goes.1;
        },
      );
      ends = λ x same w. b.ends x same
          (subst A (sym
          (only w.mine w.theirs (front ++ x) w.first w.later (sym (append_assoc mine front x) ∙ w.whole))) w.later);
    }

pub sized_only : (A : List ℕ → Type 0) (k : ByteKind) (n : ℕ) (mine : List ℕ) → Sized k n mine → (m t y : List ℕ) →
    Sized k n m → A t → mine ++ y ≡ m ++ t → y ≡ t
sized_only A k n mine s m t y s' a e = (same_front mine y m t (s.count ∙ sym s'.count) e).1

abbrev pub sample : ByteKind → ℕ
sample Digit = 48
sample Capital = 65
sample CapitalOrDigit = 65
sample Text = 65

sample_of : (k : ByteKind) → of_kind k (sample k) ≡ true
sample_of Digit = refl
sample_of Capital = refl
sample_of CapitalOrDigit = refl
sample_of Text = refl

all_samples : (k : ByteKind) (n : ℕ) → AllOf k (replicate n (sample k))
all_samples k zero = tt
all_samples k (suc n) = (sample_of k, all_samples k n)

pub samples : (k : ByteKind) (n : ℕ) → Sized k n (replicate n (sample k))
samples k n = record { count = length-replicate n (sample k); kind = all_samples k n }

pub all_append : (k : ByteKind) (xs ys : List ℕ) → AllOf k xs → AllOf k ys → AllOf k (xs ++ ys)
all_append k [] ys h h' = h'
all_append k (x ∷ xs) ys h h' = (h.0, all_append k xs ys h.1 h')

other_kind : (k : ByteKind) (tail x m t : List ℕ) → GoesOnAs tail x → Stops k tail → AllOf k m → 0 < length m →
    x ≡ m ++ t → ⊥
other_kind k tail x [] t same stops all lt e = omega arith
other_kind k [] [] (d ∷ m) t same stops all lt e = cc
other_kind k [] (c ∷ x) (d ∷ m) t same stops all lt e = same
other_kind k (b ∷ tail) [] (d ∷ m) t same stops all lt e = same
other_kind k (b ∷ tail) (c ∷ x) (d ∷ m) t same stops all lt e =
    let head : d ≡ b = cc in
    both_ways (of_kind k b) stops (ap (of_kind k) (sym head) ∙ all.0)

pub kind_ends : (k : ByteKind) (front tail x m t : List ℕ) → GoesOnAs tail x → Stops k tail → AllOf k m →
    length front < length m → front ++ x ≡ m ++ t → ⊥
kind_ends k [] tail x m t same stops all lt e = other_kind k tail x m t same stops all lt e
kind_ends k (f ∷ front) tail x [] t same stops all lt e = omega arith
kind_ends k (f ∷ front) tail x (d ∷ m) t same stops all lt e =
    kind_ends k front tail x m t same stops all.1 (omega arith) (cc)

-- too few bytes of the kind
pub breaks_short : {A : List ℕ → Type 0} (k : ByteKind) (n : ℕ) (front tail : List ℕ) → ((w : List ℕ) × A w) →
    AllOf k front → length front < n → Stops k tail →
    Breaks (Split (Sized k n) A) front tail
breaks_short k n front tail some all lt stops =
    let more = replicate (n - length front) (sample k) in
    record {
      goes = (
        more ++ some.0,
        record {
          mine = front ++ more;
          theirs = some.0;
          whole = sym (append_assoc front more some.0);
          first = record {
            count = length-append front more
                ∙ ap (λ m. length front + m) (length-replicate (n - length front) (sample k))
                ∙ (let e : length front + (n - length front) ≡ n = omega arith in e);
            kind = all_append k front more all (all_samples k (n - length front));
          };
          later = some.1;
        },
      );
      ends = λ x same w. kind_ends k front tail x w.mine w.theirs same stops w.first.kind
          (omega (arith, w.first.count)) w.whole;
    }
