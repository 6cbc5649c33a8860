-- What holds of the meaning of a packed store.
use Rattle.std.specs.Prelude.{◌≡◌, ℕ, zero, suc, ◌+◌, ◌-◌, ◌<◌, ◌≤◌, Bool, true, false, List, ◌++◌, length, take, drop, replicate, Some, None, Option, ◌==◌, slice_index_or, slice_range, slice_set, refl}
use Rattle.std.proofs.Common.{sym, ap, ◌∙◌, arith, length-take, length-drop}
use Rattle.std.proofs.lemmas.List.{take_at, drop_at, drop-drop, get_or-set_same, get_or-set_other}
use Rattle.std.proofs.lemmas.Bool.Decides.{nat_tests}
use Rattle.limits.specs.Limits.{last_form}
use Rattle.stores.specs.Forms.{Lawful, numbered, size_of, others, from_one, stored, vacant}
use Rattle.stores.specs.Packed.{packed_longest, packed_total, size_in, size_at, used, before, cut, packed_at, packed_forms, spliced}
use Rattle.stores.specs.FormLaws.{from_one_at, from_one_sizes, from_one_outside, stored_is, vacant_is}
use Rattle.stores.specs.PackedLaws.{before_all, used_set, packed_at_cut, packed_past, packed_size, packed_none, packed_others, packed_put}

-- the form under a number is the one of its entry
pub packed_here : (ls : List (Option ℕ)) (b : List ℕ) (n p : ℕ) → n ≡ p + 1
    → from_one (packed_at ls b) n ≡ cut (slice_index_or ls p None) (drop (before ls p) b)
packed_here ls b n p e = from_one_at (packed_at ls b) n p e ∙ packed_at_cut ls b p

pub packed_nowhere : (ls : List (Option ℕ)) (b : List ℕ) (n : ℕ) → length ls ≡ last_form → numbered n ≡ false
    → from_one (packed_at ls b) n ≡ None
packed_nowhere ls b n h e = from_one_outside (packed_at ls b) last_form (λ k le. packed_past ls b k (omega arith)) n e

pub packed_lawful : (ls : List (Option ℕ)) (b : List ℕ) → length ls ≡ last_form → used ls ≤ length b
    → ((k : ℕ) → size_at ls k ≤ packed_longest) → Lawful (packed_forms ls b)
packed_lawful ls b all inside short =
    let sizes : (k : ℕ) → size_of (packed_at ls b k) ≤ packed_longest =
    λ k. omega (arith, packed_size ls b inside k, short k) in
    record {
      outside = from_one_outside (packed_at ls b) last_form (λ k le. packed_past ls b k (omega arith));
      short = λ n. omega (arith, from_one_sizes (packed_at ls b) packed_longest sizes n);
      longest = omega arith;
      total = omega arith;
    }

-- the same of a store's own bytes
pub packed_store_lawful : (ls : List (Option ℕ)) (b : List ℕ) → length ls ≡ last_form → length b ≡ packed_total
    → used ls ≤ packed_total → ((k : ℕ) → size_at ls k ≤ packed_longest) → Lawful (packed_forms ls b)
packed_store_lawful ls b all sized within short = packed_lawful ls b all (omega arith) short

pub packed_vacant : (b : List ℕ) → packed_forms (replicate last_form None) b ≡ vacant packed_longest packed_total
packed_vacant b =
    vacant_is (packed_at (replicate last_form None) b) packed_longest packed_total (packed_none last_form b)

-- the other forms have all bytes that are used, but for those of the form
pub packed_rest : (ls : List (Option ℕ)) (b : List ℕ) (n p : ℕ) → length ls ≡ last_form → used ls ≤ length b
    → n ≡ p + 1 → p < last_form → others (packed_forms ls b) n + size_at ls p ≡ used ls
packed_rest ls b n p h u e low =
    let m : suc p ≡ n = omega arith in
    let sum = packed_others ls b u p last_form in
    let all = before_all ls last_form (omega arith) in
    let same = ap (others (packed_forms ls b)) m in
    grind (arith, nat_tests)

-- what lies in spliced bytes
spliced_front : (b : List ℕ) (start end all : ℕ) (x : List ℕ) → start ≤ length b
    → take start (spliced b start end all x) ≡ take start b
spliced_front b start end all x h = take_at (take start b) _ start (simp length-take (omega arith))

spliced_behind : (b : List ℕ) (start end all : ℕ) (x : List ℕ) → start ≤ length b
    → drop start (spliced b start end all x) ≡ x ++ (slice_range b end all ++ drop (start + length x + (all - end)) b)
spliced_behind b start end all x h = drop_at (take start b) _ start (simp length-take (omega arith))

spliced_moved : (b : List ℕ) (start end all : ℕ) (x : List ℕ) → start ≤ length b → end ≤ all → all ≤ length b
    → take (all - end) (drop (start + length x) (spliced b start end all x)) ≡ slice_range b end all
spliced_moved b start end all x h m l =
    ap (take (all - end)) (sym (drop-drop (length x) start (spliced b start end all x))
    ∙ ap (drop (length x)) (spliced_behind b start end all x h) ∙ drop_at x _ (length x) refl)
    ∙ take_at (slice_range b end all) _ (all - end) (simp (length-take, length-drop) (omega arith))

pub packed_stored : (ls : List (Option ℕ)) (b b' : List ℕ) (n p start end all : ℕ) (x : List ℕ)
    → length ls ≡ last_form → used ls ≤ length b → n ≡ p + 1 → p < last_form
    → start ≡ before ls p → end ≡ start + size_at ls p → all ≡ used ls → end ≤ all → b' ≡ spliced b start end all x
    → packed_forms (slice_set ls p (Some (length x))) b' ≡ stored (packed_forms ls b) n x
packed_stored ls b b' n p start end all x h u e low hs he ha hw hb =
    let holds = packed_put ls p (all - end) x b b' (omega arith) (omega arith) e₁ e₂ e₃ in
    stored_is (packed_at ls b) (packed_at (slice_set ls p (Some (length x))) b')
    n p x packed_longest packed_total e holds
  where
    e₁ : take (before ls p) b' ≡ take (before ls p) b
    e₁ =
        ap (λ (s : ℕ). take s b') (sym hs) ∙ ap (take start) hb ∙ spliced_front b start end all x (omega arith)
        ∙ ap (λ (s : ℕ). take s b) hs

    e₂ : take (length x) (drop (before ls p) b') ≡ x
    e₂ =
        ap (λ (s : ℕ). take (length x) (drop s b')) (sym hs)
        ∙ ap (λ (c : List ℕ). take (length x) (drop start c)) hb
        ∙ ap (take (length x)) (spliced_behind b start end all x (omega arith)) ∙ take_at x _ (length x) refl

    e₃ : take (all - end) (drop (before ls p + length x) b') ≡ take (all - end) (drop (before ls p + size_at ls p) b)
    e₃ =
        ap (λ (s : ℕ). take (all - end) (drop (s + length x) b')) (sym hs)
        ∙ ap (λ (c : List ℕ). take (all - end) (drop (start + length x) c)) hb
        ∙ spliced_moved b start end all x (omega arith) hw (omega arith)
        ∙ ap (λ (s : ℕ). take (all - end) (drop s b)) (he ∙ ap (λ (s : ℕ). s + size_at ls p) hs)

-- what a store keeps of itself when a form is put
pub used_put : (ls : List (Option ℕ)) (p long : ℕ) → p < length ls → used ls + long ≤ packed_total + size_at ls p
    → used (slice_set ls p (Some long)) ≤ packed_total
used_put ls p long h room = omega (arith, used_set ls p (Some long) h)

pub sizes_set : (ls : List (Option ℕ)) (p long : ℕ) → p < length ls → ((k : ℕ) → size_at ls k ≤ packed_longest)
    → long ≤ packed_longest → (k : ℕ) → size_at (slice_set ls p (Some long)) k ≤ packed_longest
sizes_set ls p long h short l k = go (k == p) refl
  where
    go : (t : Bool) → (k == p) ≡ t → size_at (slice_set ls p (Some long)) k ≤ packed_longest
    go true e =
        let same : k ≡ p = grind (arith, nat_tests) in
        let is : size_at (slice_set ls p (Some long)) k ≡ long =
        ap (size_at (slice_set ls p (Some long))) same ∙ ap size_in (get_or-set_same ls p (Some long) None h) in
        omega arith
    go false e =
        let s = short k in
        let is : size_at (slice_set ls p (Some long)) k ≡ size_at ls k =
        ap size_in (get_or-set_other ls p k (Some long) None (grind (arith, nat_tests))) in
        omega arith

pub used_none : (m : ℕ) → used (replicate m None) ≡ 0
unfolding used
used_none zero = refl
used_none (suc m) = let h = used_none m in omega arith

pub sizes_none : (m k : ℕ) → size_at (replicate m None) k ≤ packed_longest
sizes_none zero zero = omega arith
sizes_none zero (suc k) = omega arith
sizes_none (suc m) zero = omega arith
sizes_none (suc m) (suc k) = sizes_none m k

-- the bytes of a form lie between its start and its end
pub packed_part : (ls : List (Option ℕ)) (b : List ℕ) (n p long start end : ℕ) → n ≡ p + 1
    → slice_index_or ls p None ≡ Some long → start ≡ before ls p → end ≡ start + size_at ls p
    → from_one (packed_at ls b) n ≡ Some (slice_range b start end)
packed_part ls b n p long start end e o hs he =
    let is : size_at ls p ≡ long = ap size_in o in
    let size : long ≡ end - start = omega arith in
    packed_here ls b n p e ∙ ap (λ (l : Option ℕ). cut l (drop (before ls p) b)) o
    ∙ ap (λ (k : ℕ). Some (take k (drop (before ls p) b))) size
    ∙ ap (λ (s : ℕ). Some (take (end - start) (drop s b))) (sym hs)

pub packed_gone : (ls : List (Option ℕ)) (b : List ℕ) (n p : ℕ) → n ≡ p + 1 → slice_index_or ls p None ≡ None
    → from_one (packed_at ls b) n ≡ None
packed_gone ls b n p e o = packed_here ls b n p e ∙ ap (λ (l : Option ℕ). cut l (drop (before ls p) b)) o

-- what stands under a number: nothing where no form can, and else the bytes of its entry or nothing
pub ruleset packed_under = (packed_nowhere, packed_part, packed_gone)
