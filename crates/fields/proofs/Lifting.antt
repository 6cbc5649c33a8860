-- What one field answers, its table answers.
use Rattle.std.proofs.Common.{◌≡◌, ℕ, ◌-◌, ◌<◌, Bool, true, false, cond, List, map, length, get_or, set, Some, Ok, Err, Option, Result, sym, refl, ap, ◌∙◌, subst}
use Rattle.std.proofs.lemmas.List.{map-set, get_or-map, set-get_or}
use Rattle.limits.specs.Bytes.{between}
use Rattle.fields.specs.Records.{FieldSeen, seen_field, blank_field}
use Rattle.limits.specs.Limits.{text_fields, bar_fields}
use Rattle.fields.specs.Answers.{Answered}
use Rattle.fields.specs.Tables.{Table, Updated, place_of}
use Rattle.fields.specs.declared.fault.FieldFault.{FieldFault}
use Rattle.fields.specs.declared.fault.FieldFault.TheVariants.{NoFormat}
use Rattle.fields.specs.declared.field.Field.{Field}
use Rattle.fields.specs.declared.table.FieldName.{FieldName}
use Rattle.fields.specs.declared.table.FieldName.TheVariants.{Text, Bar}

-- seen through f
pub under : {V W : Type 0} (f : V → W) (why : Option FieldFault) (r : Result (Unit {0}) FieldFault)
    (before after done : V)
    → Answered why r before after done → Answered why r (f before) (f after) (f done)
under f why (Ok x) before after done h = (h.0, ap f h.1)
under f why (Err e) before after done h = (h.0, ap f h.1)

pub found : (count n i : ℕ) → place_of count n ≡ Ok i → (between 1 count n ≡ true) × (n - 1 ≡ i)
found count n i = go (between 1 count n)
  where
    go : (b : Bool) → cond b (Ok (n - 1)) (Err NoFormat) ≡ Ok i → (b ≡ true) × (n - 1 ≡ i)
    go true h = (refl, cc)
    go false h = cc

module _ (fields : List Field) (i : ℕ) (d new : Field) (lt : i < length fields) where
  -- the field of a number is the one at its place
  pub at_place : get_or (map seen_field fields) i blank_field ≡ seen_field (get_or fields i d)
  at_place = get_or-map seen_field fields i d blank_field lt

  placed : (done : FieldSeen) → seen_field new ≡ done
      → map seen_field (set fields i new) ≡ set (map seen_field fields) i done
  placed done h = map-set seen_field fields i new ∙ ap (set (map seen_field fields) i) h

  unplaced : seen_field new ≡ seen_field (get_or fields i d)
      → map seen_field (set fields i new) ≡ map seen_field fields
  unplaced h = placed (get_or (map seen_field fields) i blank_field) (h ∙ sym at_place)
      ∙ set-get_or (map seen_field fields) i blank_field

  -- the answer of the field with the number n, as the answer of all fields of its kind
  pub numbered : (count n : ℕ) (why : FieldSeen → Option FieldFault) (done : FieldSeen → FieldSeen)
      (r : Result (Unit {0}) FieldFault) → place_of count n ≡ Ok i
      → Answered (why (seen_field (get_or fields i d))) r (seen_field (get_or fields i d)) (seen_field new)
      (done (seen_field (get_or fields i d)))
      → Answered (cond (between 1 count n) (why (get_or (map seen_field fields) (n - 1) blank_field))
      (Some NoFormat)) r (map seen_field fields) (map seen_field (set fields i new))
      (set (map seen_field fields) (n - 1) (done (get_or (map seen_field fields) (n - 1) blank_field)))
  numbered count n why done r e h = go r h
    where
      f : (between 1 count n ≡ true) × (n - 1 ≡ i)
      f = found count n i e

      seen_here : get_or (map seen_field fields) (n - 1) blank_field ≡ seen_field (get_or fields i d)
      seen_here = ap (λ k. get_or (map seen_field fields) k blank_field) f.1 ∙ at_place

      reason : cond (between 1 count n) (why (get_or (map seen_field fields) (n - 1) blank_field))
          (Some NoFormat) ≡ why (seen_field (get_or fields i d))
      reason = ap (λ b. cond b (why (get_or (map seen_field fields) (n - 1) blank_field)) (Some NoFormat)) f.0
          ∙ ap why seen_here

      go : (r : Result (Unit {0}) FieldFault) → Answered (why (seen_field (get_or fields i d))) r (seen_field
          (get_or fields i d)) (seen_field new) (done (seen_field (get_or fields i d)))
          → Answered (cond (between 1 count n) (why (get_or (map seen_field fields) (n - 1) blank_field))
          (Some NoFormat)) r (map seen_field fields) (map seen_field (set fields i new))
          (set (map seen_field fields) (n - 1) (done (get_or (map seen_field fields) (n - 1) blank_field)))
      go (Ok x) h = (
        reason ∙ h.0,
        placed (done (seen_field (get_or fields i d))) h.1
            ∙ sym (ap (λ k. set (map seen_field fields) k
            (done (get_or (map seen_field fields) (n - 1) blank_field))) f.1
            ∙ ap (λ s. set (map seen_field fields) i (done s)) seen_here),
      )
      go (Err x) h = (reason ∙ h.0, unplaced h.1)

-- a table by its two arrays
abbrev seen : List Field → List Field → Table
seen texts bars = record { texts = map seen_field texts; bars = map seen_field bars }

module _ (texts bars : List Field) (i n : ℕ) (d new : Field) (name : FieldName) (why : FieldSeen → Option FieldFault)
    (done : FieldSeen → FieldSeen) (r : Result (Unit {0}) FieldFault) where
  pub in_texts : i < length texts → name ≡ Text n → Ok i ≡ place_of text_fields n
      → Answered (why (seen_field (get_or texts i d))) r (seen_field (get_or texts i d)) (seen_field new)
      (done (seen_field (get_or texts i d)))
      → Updated why done name r (seen texts bars) (seen (set texts i new) bars)
  in_texts lt is at h =
      subst (λ m. Updated why done m r (seen texts bars) (seen (set texts i new) bars)) (sym is)
      (under (λ l. record { texts = l; bars = map seen_field bars }) _ r _ _ _
      (numbered texts i d new lt text_fields n why done r (sym at) h))

  pub in_bars : i < length bars → name ≡ Bar n → Ok i ≡ place_of bar_fields n
      → Answered (why (seen_field (get_or bars i d))) r (seen_field (get_or bars i d)) (seen_field new)
      (done (seen_field (get_or bars i d)))
      → Updated why done name r (seen texts bars) (seen texts (set bars i new))
  in_bars lt is at h =
      subst (λ m. Updated why done m r (seen texts bars) (seen texts (set bars i new))) (sym is)
      (under (λ l. record { texts = map seen_field texts; bars = l }) _ r _ _ _
      (numbered bars i d new lt bar_fields n why done r (sym at) h))
