-- What holds of the slots of a slot store.
use Rattle.std.specs.Prelude.{◌≡◌, ℕ, zero, suc, ◌+◌, ◌<◌, ◌≤◌, Bool, true, false, cond, List, length, replicate, Some, None, ◌==◌, option_map, slice_index_or, slice_set, refl}
use Rattle.std.proofs.Common.{sym, ap, ◌∙◌, arith, length-take}
use Rattle.std.proofs.lemmas.List.{get_or_past, get_or_default, get_or-set_same, get_or-set_other}
use Rattle.std.proofs.lemmas.Bool.Decides.{nat_tests}
use Rattle.fixedvec.specs.Items.{items}
use Rattle.fixedvec.specs.declared.FixedVec.{FixedVec}
use Rattle.stores.specs.Forms.{Lawful, numbered, size_of, others, from_one, stored, vacant}
use Rattle.limits.specs.Limits.{last_form}
use Rattle.stores.specs.Slots.{Slot, slot_longest, slot_total, slot_at, slot_forms}
use Rattle.stores.specs.FormLaws.{others_below, from_one_at, from_one_sizes, from_one_outside, stored_is, vacant_is}

pub slot_set : (ss : List Slot) (n : ℕ) (s : Slot) → n < length ss → (k : ℕ)
    → slot_at (slice_set ss n s) k ≡ cond (k == n) (option_map items s) (slot_at ss k)
unfolding slot_at
slot_set ss n s h k = go (k == n) refl
  where
    go : (t : Bool) → (k == n) ≡ t → slot_at (slice_set ss n s) k ≡ cond t (option_map items s) (slot_at ss k)
    go true e =
        let same : k ≡ n = grind (arith, nat_tests) in
        ap (slot_at (slice_set ss n s)) same ∙ ap (option_map items) (get_or-set_same ss n s None h)
    go false e = ap (option_map items) (get_or-set_other ss n k s None (grind (arith, nat_tests)))

pub slot_past : (ss : List Slot) (n : ℕ) → length ss ≤ n → slot_at ss n ≡ None
unfolding slot_at
slot_past ss n h = ap (option_map items) (get_or_past ss n None h)

pub slot_short : (ss : List Slot) (k : ℕ) → size_of (slot_at ss k) ≤ slot_longest
unfolding slot_at
slot_short ss k = go (slice_index_or ss k None)
  where
    go : (s : Slot) → size_of (option_map items s) ≤ slot_longest
    go (Some v) = simp length-take (omega (arith, v.within))
    go None = omega arith

pub slots_lawful : (ss : List Slot) → length ss ≡ last_form → Lawful (slot_forms ss)
slots_lawful ss h = record {
  outside = from_one_outside (slot_at ss) last_form (λ k le. slot_past ss k (omega arith));
  short = λ n. omega (arith, from_one_sizes (slot_at ss) slot_longest (slot_short ss) n);
  longest = omega arith;
  total = omega arith;
}

-- there is room for one more slot
pub slots_room : (ss : List Slot) (n : ℕ) → 1 ≤ n → n ≤ last_form → others (slot_forms ss) n + slot_longest ≤ slot_total
slots_room ss n low high =
    let sizes = from_one_sizes (slot_at ss) slot_longest (slot_short ss) in
    let most = others_below (from_one (slot_at ss)) slot_longest n last_form sizes in
    grind (arith, nat_tests)

none_held : (m : ℕ) (k : ℕ) → slot_at (replicate m None) k ≡ None
unfolding slot_at
none_held zero k = refl
none_held (suc m) zero = refl
none_held (suc m) (suc k) = none_held m k

pub slots_vacant : slot_forms (replicate last_form None) ≡ vacant slot_longest slot_total
slots_vacant = vacant_is (slot_at (replicate last_form None)) slot_longest slot_total (none_held last_form)

-- the form under a number is the one in its slot
slots_here : (ss : List Slot) (n p : ℕ) (d : Slot) → length ss ≡ last_form → n ≡ p + 1 → n ≤ last_form
    → from_one (slot_at ss) n ≡ option_map items (slice_index_or ss p d)
unfolding slot_at
slots_here ss n p d h e low =
    from_one_at (slot_at ss) n p e ∙ ap (option_map items) (get_or_default ss p None d (omega arith))

pub slots_held : (ss : List Slot) (n p : ℕ) (d : Slot) (v : FixedVec ℕ slot_longest) (x : List ℕ)
    → length ss ≡ last_form → n ≡ p + 1 → n ≤ last_form → slice_index_or ss p d ≡ Some v → x ≡ items v
    → from_one (slot_at ss) n ≡ Some x
slots_held ss n p d v x h e low is front =
    slots_here ss n p d h e low ∙ ap (option_map items) is ∙ ap (λ (y : List ℕ). Some y) (sym front)

pub slots_empty : (ss : List Slot) (n p : ℕ) (d : Slot) → length ss ≡ last_form → n ≡ p + 1 → n ≤ last_form
    → slice_index_or ss p d ≡ None → from_one (slot_at ss) n ≡ None
slots_empty ss n p d h e low is = slots_here ss n p d h e low ∙ ap (option_map items) is

pub slots_nowhere : (ss : List Slot) (n : ℕ) → length ss ≡ last_form → numbered n ≡ false
    → from_one (slot_at ss) n ≡ None
slots_nowhere ss n h e = from_one_outside (slot_at ss) last_form (λ k le. slot_past ss k (omega arith)) n e

-- a form that is put into its slot stands under its number then
pub slots_stored : (ss : List Slot) (n p : ℕ) (v : FixedVec ℕ slot_longest) (x : List ℕ) → length ss ≡ last_form
    → n ≡ p + 1 → n ≤ last_form → items v ≡ x
    → slot_forms (slice_set ss p (Some v)) ≡ stored (slot_forms ss) n x
slots_stored ss n p v x h e low is =
    stored_is (slot_at ss) (slot_at (slice_set ss p (Some v))) n p x slot_longest slot_total e
    (λ j. slot_set ss p (Some v) (omega arith) j ∙ ap (λ (y : List ℕ). cond (j == p) (Some y) (slot_at ss j)) is)

-- what stands under a number: nothing where no form can, and else what its slot holds
pub ruleset slots_at = (slots_nowhere, slots_held, slots_empty)
