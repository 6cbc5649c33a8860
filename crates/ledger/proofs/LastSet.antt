-- The ledger's fields are what its changes say of each: the format and text last given, and the tags since.
use Rattle.std.proofs.Common.{◌≡◌, ℕ, zero, suc, ◌+◌, ◌-◌, ◌<◌, ◌≤◌, ◌≢◌, Bool, true, false, cond, not, eqb, leb, List, [], ◌∷◌, ◌++◌, map, length, get_or, Some, None, Option, sym, refl, ap, ◌∙◌, subst, ap₂, append_assoc, arith, length-set}
use Rattle.std.specs.Prelude.{unwrap_or}
use Rattle.std.specs.List.{range_with_len}
use Rattle.std.specs.Option.{option_or}
use Rattle.std.proofs.lemmas.Bool.{eqb-true, eqb-false, eq-eqb, leb-true, le-leb}
use Rattle.std.proofs.lemmas.List.{get_or-map, get_or-set_same, get_or-set_other, get_or-replicate, ext_get_or, length-map}
use Rattle.std.proofs.lemmas.List.FromFn.{get_or-map-range_with_len, length-map-range_with_len}
use Rattle.limits.specs.Bytes.{between}
use Rattle.limits.specs.Limits.{text_fields, bar_fields}
use Rattle.texts.specs.Wheels.{Wheels}
use Rattle.fields.specs.Records.{FormatSeen, FieldSeen, blank_field}
use Rattle.fields.specs.Tables.{is_field, field_of, blank_table}
use Rattle.fields.specs.Calls.{retext, turned_field}
use Rattle.fields.specs.Joining.{joined_text}
use Rattle.fields.specs.Linking.{linked_text}
use Rattle.fields.specs.declared.table.FieldName.{FieldName}
use Rattle.fields.specs.declared.table.FieldName.TheVariants.{Text, Bar}
use Rattle.label.specs.Actions.{Action, set_size, clear, set_format, set_text, set_links, draw}
use Rattle.ledger.specs.FieldAccounts.{FieldAccount, FieldAccounts, just_set, blank_accounts, turned_times, field_now, table_now, account_of, with_account, each_account, relinked, wiped, accounts_after, accounts_after_all, counted, after_tag}
use Rattle.ledger.specs.Histories.{latest, later, since, Silent}
use Rattle.ledger.specs.Words.{Change, did, blanked, printed, same_field, new_format, new_text, joined_in, format, text, tags_in, age, shown, table_shown, done_in_turn}
use Rattle.ledger.proofs.Basics.{never, not_none}
use Rattle.ledger.proofs.Fields.{linked_not}

-- ---- which fields there are
within : (high n : ℕ) → between 1 high n ≡ true → (1 ≤ n) × (n ≤ high)
within high n h = go (leb 1 n) refl h
  where
    go : (b : Bool) → leb 1 n ≡ b → cond b (leb n high) false ≡ true → (1 ≤ n) × (n ≤ high)
    go true e h = (leb-true 1 n e, leb-true n high h)
    go false e h = never h

there_is : (high n : ℕ) → 1 ≤ n → n ≤ high → between 1 high n ≡ true
there_is high n a b = ap (λ (x : Bool). cond x (leb n high) false) (le-leb 1 n a) ∙ le-leb n high b

same_self : (f : FieldName) → same_field f f ≡ true
same_self (Text n) = eq-eqb n n refl
same_self (Bar n) = eq-eqb n n refl

same_true : (f g : FieldName) → same_field f g ≡ true → f ≡ g
same_true (Text m) (Text n) h = ap Text (eqb-true m n h)
same_true (Text m) (Bar n) h = never h
same_true (Bar m) (Text n) h = never h
same_true (Bar m) (Bar n) h = ap Bar (eqb-true m n h)

-- ---- accounts by name
pub record Lengths (es : FieldAccounts) : Type 0 where
  pub texts : length es.texts ≡ text_fields
  pub bars : length es.bars ≡ bar_fields

lengths_each : (g : FieldAccount → FieldAccount) (es : FieldAccounts) → Lengths es → Lengths (each_account g es)
lengths_each g es h = record { texts = length-map es.texts g ∙ h.texts; bars = length-map es.bars g ∙ h.bars }

lengths_with : (name : FieldName) (e : FieldAccount) (es : FieldAccounts) → Lengths es
    → Lengths (with_account name e es)
lengths_with (Text n) e es h = record { texts = length-set es.texts (n - 1) e ∙ h.texts; bars = h.bars }
lengths_with (Bar n) e es h = record { texts = h.texts; bars = length-set es.bars (n - 1) e ∙ h.bars }

entry_each : (f : FieldName) (g : FieldAccount → FieldAccount) (es : FieldAccounts) → Lengths es → is_field f ≡ true
    → account_of f (each_account g es) ≡ g (account_of f es)
entry_each (Text n) g es h k =
    let b = within text_fields n k in
    get_or-map g es.texts (n - 1) (just_set blank_field) (just_set blank_field) (omega (arith, b.0, b.1, h.texts))
entry_each (Bar n) g es h k =
    let b = within bar_fields n k in
    get_or-map g es.bars (n - 1) (just_set blank_field) (just_set blank_field) (omega (arith, b.0, b.1, h.bars))

entry_same : (f : FieldName) (e : FieldAccount) (es : FieldAccounts) → Lengths es → is_field f ≡ true
    → account_of f (with_account f e es) ≡ e
entry_same (Text n) e es h k =
    let b = within text_fields n k in
    get_or-set_same es.texts (n - 1) e (just_set blank_field) (omega (arith, b.0, b.1, h.texts))
entry_same (Bar n) e es h k =
    let b = within bar_fields n k in
    get_or-set_same es.bars (n - 1) e (just_set blank_field) (omega (arith, b.0, b.1, h.bars))

apart : (high m n : ℕ) → between 1 high m ≡ true → between 1 high n ≡ true → eqb m n ≡ false → m - 1 ≢ n - 1
apart high m n a b e =
    λ z. let p = within high m a in let q = within high n b in eqb-false m n e (omega (arith, p.0, p.1, q.0, q.1, z))

entry_other : (f name : FieldName) (e : FieldAccount) (es : FieldAccounts) → is_field f ≡ true → is_field name ≡ true
    → same_field f name ≡ false
    → account_of f (with_account name e es) ≡ account_of f es
entry_other (Text m) (Text n) e es a b h =
    get_or-set_other es.texts (n - 1) (m - 1) e (just_set blank_field) (apart text_fields m n a b h)
entry_other (Text m) (Bar n) e es a b h = refl
entry_other (Bar m) (Text n) e es a b h = refl
entry_other (Bar m) (Bar n) e es a b h =
    get_or-set_other es.bars (n - 1) (m - 1) e (just_set blank_field) (apart bar_fields m n a b h)

-- ---- each field is as it was last set
abbrev entry : Option FormatSeen → List ℕ → ℕ → FieldAccount
entry f t k = record { field = record { format = f; text = t }; count = k }

abbrev pub set_entry : FieldName → List Change → FieldAccount
set_entry f h = entry (format f h) (text f h) (age f h)

pub record LastSet (es : FieldAccounts) (h : List Change) : Type 0 where
  pub lengths : Lengths es
  pub each : (f : FieldName) → is_field f ≡ true → account_of f es ≡ set_entry f h

every_changed : (g : FieldAccount → FieldAccount) (es : FieldAccounts) (h h' : List Change) → LastSet es h
    → ((f : FieldName) → g (set_entry f h) ≡ set_entry f h') → LastSet (each_account g es) h'
every_changed g es h h' all same = record {
  lengths = lengths_each g es all.lengths;
  each = λ f k. entry_each f g es all.lengths k ∙ ap g (all.each f k) ∙ same f;
}

one_changed : (name : FieldName) (e : FieldAccount) (es : FieldAccounts) (h h' : List Change) → LastSet es h
    → is_field name ≡ true
    → e ≡ set_entry name h'
    → ((f : FieldName) → same_field f name ≡ false → set_entry f h' ≡ set_entry f h)
    → LastSet (with_account name e es) h'
one_changed name e es h h' all there now others =
    record { lengths = lengths_with name e es all.lengths; each = λ f k. go f k (same_field f name) refl }
  where
    go : (f : FieldName) → is_field f ≡ true → (b : Bool) → same_field f name ≡ b
        → account_of f (with_account name e es) ≡ set_entry f h'
    go f k true q =
        let z : f ≡ name = same_true f name q in
        subst (λ (g : FieldName). account_of g (with_account name e es) ≡ set_entry g h') (sym z)
        (entry_same name e es all.lengths there ∙ now)
    go f k false q = entry_other f name e es k there q ∙ all.each f k ∙ sym (others f q)

-- ---- actions
-- an action names no field that there is not
abbrev pub Names : Action → Type 0
Names (set_size pitch width long) = Unit {0}
Names clear = Unit {0}
Names (set_format name l t) = is_field name ≡ true
Names (set_text name t) = is_field name ≡ true
Names (set_links strings) = Unit {0}
Names (draw d) = Unit {0}

abbrev pub AllName : List (Option Action) → Type 0
AllName [] = Unit {0}
AllName (None ∷ rest) = AllName rest
AllName (Some a ∷ rest) = Names a × AllName rest

module _ (f : FieldName) (h : List Change) where
  -- a field behind a format or a text for it (b), or for another
  abbrev after_format : Bool → FieldName → FormatSeen → List ℕ → FieldAccount
  after_format b name l t =
      entry (unwrap_or (option_or (cond b (Some (Some l)) None) (latest (new_format f) h)) None)
      (unwrap_or (option_or (cond b (Some t) None) (latest (new_text f) h)) [])
      (tags_in (later (cond b (Some t) None) (did (set_format name l t)) (since (new_text f) h)))

  abbrev after_text : Bool → FieldName → List ℕ → FieldAccount
  after_text b name t =
      entry (format f h) (unwrap_or (option_or (cond b (Some t) None) (latest (new_text f) h)) [])
      (tags_in (later (cond b (Some t) None) (did (set_text name t)) (since (new_text f) h)))

  -- a field with the format l behind link strings, which give it the text o
  abbrev after_links : List (List ℕ) → Option FormatSeen → Option (List ℕ) → FieldAccount
  after_links strings l o =
      entry l (unwrap_or (option_or o (latest (new_text f) h)) [])
      (tags_in (later o (did (set_links strings)) (since (new_text f) h)))

  relinked_lem : (strings : List (List ℕ))
      → relinked strings (set_entry f h) ≡ set_entry f (did (set_links strings) ∷ h)
  relinked_lem strings = go (format f h)
    where
      either : (l : FormatSeen) (t : List ℕ) (b : Bool)
          → entry (Some l) (cond b (text f h) t) (cond (not b) 0 (age f h))
          ≡ after_links strings (Some l) (cond (not b) (Some t) None)
      either l t true = refl
      either l t false = refl

      go : (l : Option FormatSeen)
          → relinked strings (entry l (text f h) (age f h)) ≡ after_links strings l (joined_in strings l)
      go None = refl
      go (Some l) =
          ap (λ (b : Bool). entry (Some l) (linked_text strings l.links (text f h)) (cond b 0 (age f h)))
          (linked_not l.links)
          ∙ either l (joined_text strings l.links) (eqb (length l.links) 0)
          ∙ sym
          (ap (λ (b : Bool). after_links strings (Some l) (cond b (Some (joined_text strings l.links)) None))
          (linked_not l.links))

pub set_by : (es : FieldAccounts) (h : List Change) (a : Action) → LastSet es h → Names a
    → LastSet (accounts_after es a) (did a ∷ h)
set_by es h (set_size pitch width long) all k = record { lengths = all.lengths; each = all.each }
set_by es h clear all k = every_changed wiped es h (did clear ∷ h) all (λ f. refl)
set_by es h (set_format name l t) all k =
    one_changed name _ es h (did (set_format name l t) ∷ h) all k
    (ap (λ (b : Bool). after_format name h b name l t) (sym (same_self name)))
    (λ f q. ap (λ (b : Bool). after_format f h b name l t) q)
set_by es h (set_text name t) all k =
    one_changed name _ es h (did (set_text name t) ∷ h) all k
    (ap (λ (e : FieldAccount). just_set (retext t e.field)) (all.each name k)
    ∙ ap (λ (b : Bool). after_text name h b name t) (sym (same_self name)))
    (λ f q. ap (λ (b : Bool). after_text f h b name t) q)
set_by es h (set_links strings) all k =
    every_changed (relinked strings) es h (did (set_links strings) ∷ h) all (λ f. relinked_lem f h strings)
set_by es h (draw d) all k = record { lengths = all.lengths; each = all.each }

pub set_in_turn : (es : FieldAccounts) (h : List Change) (acts : List (Option Action)) → LastSet es h → AllName acts
    → LastSet (accounts_after_all es acts) (done_in_turn acts ++ h)
set_in_turn es h [] all k = all
set_in_turn es h (None ∷ rest) all k = set_in_turn es h rest all k
set_in_turn es h (Some a ∷ rest) all k =
    subst (λ (x : List Change). LastSet (accounts_after_all (accounts_after es a) rest) x)
    (sym (append_assoc (done_in_turn rest) (did a ∷ []) h))
    (set_in_turn (accounts_after es a) (did a ∷ h) rest (set_by es h a all k.0) k.1)

pub set_once_more : (es : FieldAccounts) (h : List Change) → LastSet es h → LastSet (after_tag es) (printed ∷ h)
set_once_more es h all = every_changed counted es h (printed ∷ h) all (λ f. one_more f (age f h))
  where
    one_more : (f : FieldName) (k : ℕ) → entry (format f h) (text f h) (suc k) ≡ entry (format f h) (text f h) (k + 1)
    one_more f k = ap (entry (format f h) (text f h)) (omega arith)

blank_lengths : Lengths blank_accounts
blank_lengths = record { texts = refl; bars = refl }

blank_entry : (f : FieldName) → is_field f ≡ true → account_of f blank_accounts ≡ just_set blank_field
blank_entry (Text n) k =
    let b = within text_fields n k in
    get_or-map just_set blank_table.texts (n - 1) blank_field (just_set blank_field) (omega (arith, b.0, b.1))
    ∙ ap just_set (get_or-replicate text_fields (n - 1) blank_field blank_field (omega (arith, b.0, b.1)))
blank_entry (Bar n) k =
    let b = within bar_fields n k in
    get_or-map just_set blank_table.bars (n - 1) blank_field (just_set blank_field) (omega (arith, b.0, b.1))
    ∙ ap just_set (get_or-replicate bar_fields (n - 1) blank_field blank_field (omega (arith, b.0, b.1)))

pub set_blank : (h : List Change) → LastSet blank_accounts (blanked ∷ h)
set_blank h = record { lengths = blank_lengths; each = λ f k. blank_entry f k }

pub set_first : LastSet blank_accounts []
set_first = record { lengths = blank_lengths; each = λ f k. blank_entry f k }

-- ---- the whole table
module _ (w v : Wheels) (es : FieldAccounts) (h : List Change) (all : LastSet es h) where
  kind_shown : (name : ℕ → FieldName) (xs : List FieldAccount) (count : ℕ) → length xs ≡ count
      → ((i : ℕ) → i < count → get_or xs i (just_set blank_field) ≡ set_entry (name (i + 1)) h)
      → map (field_now w v) xs ≡ map (λ n. shown w v (name n) h) (range_with_len 1 count)
  kind_shown name xs count long each =
      ext_get_or blank_field (map (field_now w v) xs) (map (λ n. shown w v (name n) h) (range_with_len 1 count))
      (length-map xs (field_now w v) ∙ long ∙ sym (length-map-range_with_len (λ n. shown w v (name n) h) 1 count))
      (λ i lt. let here : i < count = omega (arith, lt, long, length-map xs (field_now w v)) in
      get_or-map (field_now w v) xs i (just_set blank_field) blank_field (omega (arith, here, long))
      ∙ ap (field_now w v) (each i here)
      ∙ sym (get_or-map-range_with_len (λ n. shown w v (name n) h) 1 count i (i + 1) blank_field here (omega arith)))

  pub table_lem : table_now w v es ≡ table_shown w v h
  table_lem =
      ap₂ (λ (a b : List FieldSeen). record { texts = a; bars = b })
      (kind_shown Text es.texts text_fields all.lengths.texts
      (λ i lt. let z : i + 1 - 1 ≡ i = omega arith in
      ap (λ (k : ℕ). get_or es.texts k (just_set blank_field)) (sym z)
      ∙ all.each (Text (i + 1)) (there_is text_fields (i + 1) (omega arith) (omega (arith, lt)))))
      (kind_shown Bar es.bars bar_fields all.lengths.bars
      (λ i lt. let z : i + 1 - 1 ≡ i = omega arith in
      ap (λ (k : ℕ). get_or es.bars k (just_set blank_field)) (sym z)
      ∙ all.each (Bar (i + 1)) (there_is bar_fields (i + 1) (omega arith) (omega (arith, lt)))))

  pub slot_lem : (f : FieldName) → is_field f ≡ true → field_of f (table_now w v es) ≡ shown w v f h
  slot_lem (Text n) k =
      let b = within text_fields n k in
      get_or-map (field_now w v) es.texts (n - 1) (just_set blank_field) blank_field
      (omega (arith, b.0, b.1, all.lengths.texts))
      ∙ ap (field_now w v) (all.each (Text n) k)
  slot_lem (Bar n) k =
      let b = within bar_fields n k in
      get_or-map (field_now w v) es.bars (n - 1) (just_set blank_field) blank_field
      (omega (arith, b.0, b.1, all.lengths.bars))
      ∙ ap (field_now w v) (all.each (Bar n) k)

-- ---- a field that was never given a text was given no format either
pub no_format : (f : FieldName) (h : List Change) → Silent (new_text f) h [] → latest (new_format f) h ≡ None
no_format f [] q = refl
no_format f (c ∷ before) q =
    ap (λ (o : Option (Option FormatSeen)). option_or o (latest (new_format f) before)) (go c q.0)
    ∙ no_format f before q.1
  where
    if_none : (b : Bool) (t : List ℕ) (l : FormatSeen) → cond b (Some t) None ≡ None
        → cond b (Some (Some l)) None ≡ None
    if_none true t l e = not_none (sym e)
    if_none false t l e = refl

    go : (c : Change) → new_text f (before ++ []) c ≡ None → new_format f before c ≡ None
    go (did (set_format g l t)) e = if_none (same_field f g) t l e
    go blanked e = not_none (sym e)
    go c e = refl

pub turned_blank : (w v : Wheels) (k : ℕ) → turned_times w v k blank_field ≡ blank_field
turned_blank w v zero = refl
turned_blank w v (suc k) = ap (λ (s : FieldSeen). turned_field w v s) (turned_blank w v k)
