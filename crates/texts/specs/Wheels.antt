-- A counting rule, by what it means.
--   Wheels     for each place of a text: its radix, that is how many values the place can have (a place of radix 1 is
--              fixed, any other is a wheel), its value, and the byte that stands for a value there. A rule may
--              look at the whole text
--   Lawful w   the laws of a counting rule, over every text, place p of it and value v below the radix of p
--
-- The laws of counting are three, and a frame for them:
--   the frame        a radix is 1 to 26, and a value is below it                            some, most, below
--   the first law    the byte given for a value has that value at that place                gives
--   the second law   writing that byte changes the radix of no place, the written one       keeps, spares
--                    among them, and the value of no other place
--   the third law    digits give way only to digits, capitals only to capitals, and         digits, capitals, fixed
--                    every other byte is fixed
-- Each part is a field of its own, since proofs cite them one by one, and since they have different premises.
-- No law says that a wheel has the byte that is given for its value: more than one byte may count for a value.
use Rattle.std.specs.Prelude.{◌≡◌, ℕ, ◌<◌, ◌≤◌, true, false, List, length, ◌≢◌, slice_index, slice_set}
use Rattle.limits.specs.Bytes.{is_digit, is_capital}
use Rattle.texts.specs.Plain.{IsText}

pub record Wheels : Type 0 where
  pub radix : List ℕ → ℕ → ℕ
  pub value : List ℕ → ℕ → ℕ
  pub byte : List ℕ → ℕ → ℕ → ℕ

pub record Lawful (w : Wheels) : Type 0 where
  -- a radix is 1 to 26, and a value is below it
  pub some : (t : List ℕ) → IsText t → (p : ℕ) → p < length t → 1 ≤ w.radix t p
  pub most : (t : List ℕ) → IsText t → (p : ℕ) → p < length t → w.radix t p ≤ 26
  pub below : (t : List ℕ) → IsText t → (p : ℕ) → p < length t → w.value t p < w.radix t p
  -- the byte given for a value has that value at that place
  pub gives : (t : List ℕ) → IsText t → (p v : ℕ) → p < length t → v < w.radix t p
      → w.value (slice_set t p (w.byte t p v)) p ≡ v
  -- writing it changes the radix of no place, and the value of no other place
  pub keeps : (t : List ℕ) → IsText t → (p v : ℕ) → p < length t → v < w.radix t p
      → (q : ℕ) → q < length t → w.radix (slice_set t p (w.byte t p v)) q ≡ w.radix t q
  pub spares : (t : List ℕ) → IsText t → (p v : ℕ) → p < length t → v < w.radix t p
      → (q : ℕ) → q < length t → (q ≢ p) → w.value (slice_set t p (w.byte t p v)) q ≡ w.value t q
  -- digits give way only to digits, capitals only to capitals, and all other bytes are fixed
  pub digits : (t : List ℕ) → IsText t → (p v : ℕ) → p < length t → v < w.radix t p
      → is_digit (slice_index t p) ≡ true → is_digit (w.byte t p v) ≡ true
  pub capitals : (t : List ℕ) → IsText t → (p v : ℕ) → p < length t → v < w.radix t p
      → is_capital (slice_index t p) ≡ true → is_capital (w.byte t p v) ≡ true
  pub fixed : (t : List ℕ) → IsText t → (p : ℕ) → p < length t
      → is_digit (slice_index t p) ≡ false → is_capital (slice_index t p) ≡ false → w.radix t p ≡ 1
