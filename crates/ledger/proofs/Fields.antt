-- The ledger's fields, each turned as often as its count, are the label's: every action and every tag keeps it so.
use Rattle.std.proofs.Common.{◌≡◌, ℕ, zero, suc, ◌-◌, Bool, true, false, cond, not, eqb, ltb, List, [], ◌∷◌, map, length, Some, None, Option, sym, refl, ap, ◌∙◌, ap₂, arith}
use mathlib.Core.Path.{subst⁻¹}
use lib.ListN.{get_or-map}
use lib.Seq.{map-set}
use Rattle.std.proofs.lemmas.Bool.Decides.{nat_tests}
use Rattle.texts.specs.Wheels.{Wheels}
use Rattle.fields.specs.Records.{FormatSeen, FieldSeen, blank_field}
use Rattle.fields.specs.Tables.{field_of, with_field, each_field}
use Rattle.fields.specs.Calls.{replaced_by, replaced, retext, retexted, emptied, cleared, turned_field, turned_table}
use Rattle.fields.specs.Joining.{joined_text}
use Rattle.fields.specs.Linking.{linked, linked_field, links_of}
use Rattle.fields.specs.declared.table.FieldName.{FieldName}
use Rattle.fields.specs.declared.table.FieldName.TheVariants.{Text, Bar}
use Rattle.label.specs.Actions.{Action, set_size, clear, set_format, set_text, set_links, draw}
use Rattle.label.specs.Labels.{LabelSeen, new_label, label_refusal, label_after, turned_label}
use Rattle.label.specs.declared.fault.LabelFault.{LabelFault}
use Rattle.ledger.specs.FieldAccounts.{FieldAccount, FieldAccounts, just_set, blank_accounts, turned_times, field_now, table_now, account_of, with_account, each_account, count_linked, relinked, wiped, accounts_after, accounts_after_all, counted, after_tag}
use Rattle.ledger.proofs.Basics.{some_inj, not_none}

-- ---- what an action, and actions in turn, make of a label; none where one is refused
abbrev pub act_by : LabelSeen → Action → Option LabelFault → Option LabelSeen
act_by l a None = Some (label_after l a)
act_by l a (Some e) = None

abbrev pub act_one : LabelSeen → Option Action → Option LabelSeen
act_one l None = None
act_one l (Some a) = act_by l a (label_refusal l a)

abbrev pub and_then : Option LabelSeen → (LabelSeen → Option LabelSeen) → Option LabelSeen
and_then None f = None
and_then (Some l) f = f l

abbrev pub act_all : LabelSeen → List (Option Action) → Option LabelSeen
act_all l [] = Some l
act_all l (a ∷ rest) = and_then (act_one l a) (λ m. act_all m rest)

-- ---- link strings
not_empty : (k : ℕ) → ltb 0 (suc k) ≡ not (eqb (suc k) 0)
not_empty k = let a : ltb 0 (suc k) ≡ true = grind (arith, nat_tests) in let b : eqb (suc k) 0 ≡ false =
    grind (arith, nat_tests) in a ∙ ap not (sym b)

pub linked_not : (ls : List ℕ) → ltb 0 (length ls) ≡ not (eqb (length ls) 0)
linked_not [] = refl
linked_not (n ∷ ns) = not_empty (length ns)

module _ (strings : List (List ℕ)) where
  -- a field that is not linked stays
  unlinked : (s : FieldSeen) → eqb (length (links_of s.format)) 0 ≡ true → linked_field strings s ≡ s
  unlinked s h = ap (λ (b : Bool). retext (cond b s.text (joined_text strings (links_of s.format))) s) h

  -- the text that a linked field had does not matter
  overwritten : (f : Option FormatSeen) (t u : List ℕ) → eqb (length (links_of f)) 0 ≡ false
      → linked_field strings (record { format = f; text = t })
      ≡ linked_field strings (record { format = f; text = u })
  overwritten f t u h =
      ap (λ (b : Bool). record { format = f; text = cond b t (joined_text strings (links_of f)) }) h
      ∙ sym (ap (λ (b : Bool). record { format = f; text = cond b u (joined_text strings (links_of f)) }) h)

module _ (w v : Wheels) where
  -- turning changes no format
  pub format_kept : (k : ℕ) (s : FieldSeen) → (turned_times w v k s).format ≡ s.format
  format_kept zero s = refl
  format_kept (suc k) s = format_kept k s

  now_wiped : (e : FieldAccount) → emptied (field_now w v e) ≡ field_now w v (wiped e)
  now_wiped e = ap (λ (f : Option FormatSeen). record { format = f; text = [] }) (format_kept e.count e.field)

  now_counted : (e : FieldAccount) → turned_field w v (field_now w v e) ≡ field_now w v (counted e)
  now_counted e = refl

  now_relinked : (strings : List (List ℕ)) (e : FieldAccount)
      → linked_field strings (field_now w v e) ≡ field_now w v (relinked strings e)
  now_relinked strings e = go e.field.format e.field.text e.count
    where
      stays : (k : ℕ) (s : FieldSeen) → eqb (length (links_of s.format)) 0 ≡ true
          → linked_field strings (turned_times w v k s) ≡ turned_times w v k (linked_field strings s)
      stays k s h =
          unlinked strings (turned_times w v k s)
          (ap (λ (f : Option FormatSeen). eqb (length (links_of f)) 0) (format_kept k s) ∙ h)
          ∙ ap (turned_times w v k) (sym (unlinked strings s h))

      both : (l : FormatSeen) (t : List ℕ) (k : ℕ) (b : Bool) → eqb (length l.links) 0 ≡ b
          → linked_field strings (turned_times w v k (record { format = Some l; text = t }))
          ≡ turned_times w v (cond (not b) 0 k) (linked_field strings (record { format = Some l; text = t }))
      both l t k true h = stays k (record { format = Some l; text = t }) h
      both l t k false h =
          let s : FieldSeen = turned_times w v k (record { format = Some l; text = t }) in
          ap (λ (f : Option FormatSeen). linked_field strings (record { format = f; text = s.text }))
          (format_kept k (record { format = Some l; text = t }))
          ∙ overwritten strings (Some l) s.text t h

      go : (f : Option FormatSeen) (t : List ℕ) (k : ℕ)
          → linked_field strings (turned_times w v k (record { format = f; text = t }))
          ≡ turned_times w v (count_linked f k) (linked_field strings (record { format = f; text = t }))
      go None t k = stays k (record { format = None; text = t }) refl
      go (Some l) t k =
          subst⁻¹ (λ (b : Bool). linked_field strings (turned_times w v k (record { format = Some l; text = t }))
          ≡ turned_times w v (cond b 0 k) (linked_field strings (record { format = Some l; text = t })))
          (linked_not l.links) (both l t k (eqb (length l.links) 0) refl)

  -- ---- whole tables
  map_each : (f : FieldSeen → FieldSeen) (g : FieldAccount → FieldAccount)
      → ((e : FieldAccount) → f (field_now w v e) ≡ field_now w v (g e)) → (es : List FieldAccount)
      → map f (map (field_now w v) es) ≡ map (field_now w v) (map g es)
  map_each f g h [] = refl
  map_each f g h (e ∷ es) = ap₂ (λ (s : FieldSeen) (ss : List FieldSeen). s ∷ ss) (h e) (map_each f g h es)

  table_each : (f : FieldSeen → FieldSeen) (g : FieldAccount → FieldAccount)
      → ((e : FieldAccount) → f (field_now w v e) ≡ field_now w v (g e)) → (es : FieldAccounts)
      → each_field f (table_now w v es) ≡ table_now w v (each_account g es)
  table_each f g h es = ap₂ (λ (a b : List FieldSeen). record { texts = a; bars = b }) (map_each f g h es.texts)
      (map_each f g h es.bars)

  table_with : (name : FieldName) (e : FieldAccount) (es : FieldAccounts)
      → with_field name (field_now w v e) (table_now w v es) ≡ table_now w v (with_account name e es)
  table_with (Text n) e es =
      ap (λ (a : List FieldSeen). record { texts = a; bars = map (field_now w v) es.bars })
      (sym (map-set (field_now w v) es.texts (n - 1) e))
  table_with (Bar n) e es =
      ap (λ (b : List FieldSeen). record { texts = map (field_now w v) es.texts; bars = b })
      (sym (map-set (field_now w v) es.bars (n - 1) e))

  format_of : (name : FieldName) (es : FieldAccounts)
      → (field_of name (table_now w v es)).format ≡ (account_of name es).field.format
  format_of (Text n) es = ap (λ (s : FieldSeen). s.format)
      (get_or-map (field_now w v) es.texts (n - 1) (just_set blank_field))
      ∙ format_kept (account_of (Text n) es).count (account_of (Text n) es).field
  format_of (Bar n) es = ap (λ (s : FieldSeen). s.format)
      (get_or-map (field_now w v) es.bars (n - 1) (just_set blank_field))
      ∙ format_kept (account_of (Bar n) es).count (account_of (Bar n) es).field

  -- ---- actions
  pub fields_after : (l : LabelSeen) (es : FieldAccounts) (a : Action) → l.table ≡ table_now w v es
      → (label_after l a).table ≡ table_now w v (accounts_after es a)
  fields_after l es (set_size pitch width long) h = h
  fields_after l es clear h = ap cleared h ∙ table_each emptied wiped now_wiped es
  fields_after l es (set_format name f t) h = ap (replaced name f t) h ∙ table_with name (just_set (replaced_by f t)) es
  fields_after l es (set_text name t) h =
      ap (retexted name t) h
      ∙ ap (λ (f : Option FormatSeen). with_field name (record { format = f; text = t }) (table_now w v es))
      (format_of name es)
      ∙ table_with name (just_set (retext t (account_of name es).field)) es
  fields_after l es (set_links strings) h =
      ap (linked strings) h ∙ table_each (linked_field strings) (relinked strings) (now_relinked strings) es
  fields_after l es (draw d) h = h

  pub fields_after_all : (l m : LabelSeen) (es : FieldAccounts) (acts : List (Option Action))
      → l.table ≡ table_now w v es → act_all l acts ≡ Some m → m.table ≡ table_now w v (accounts_after_all es acts)
  fields_after_all l m es [] h e = ap (λ (x : LabelSeen). x.table) (sym (some_inj e)) ∙ h
  fields_after_all l m es (None ∷ rest) h e = not_none e
  fields_after_all l m es (Some a ∷ rest) h e =
      go (label_refusal l a) e
      (λ k. fields_after_all (label_after l a) m (accounts_after es a) rest (fields_after l es a h) k)
    where
      go : (o : Option LabelFault) → and_then (act_by l a o) (λ n. act_all n rest) ≡ Some m
          → (act_all (label_after l a) rest ≡ Some m
          → m.table ≡ table_now w v (accounts_after_all (accounts_after es a) rest))
          → m.table ≡ table_now w v (accounts_after_all (accounts_after es a) rest)
      go None e again = again e
      go (Some x) e again = not_none e

  pub fields_turned : (l : LabelSeen) (es : FieldAccounts) → l.table ≡ table_now w v es
      → (turned_label w v l).table ≡ table_now w v (after_tag es)
  fields_turned l es h = ap (turned_table w v) h ∙ table_each (turned_field w v) counted now_counted es

  pub fields_new : new_label.table ≡ table_now w v blank_accounts
  fields_new = refl
