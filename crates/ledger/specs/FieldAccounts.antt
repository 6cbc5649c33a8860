-- The fields as a tag ledger keeps them: each text as it was last set, and never a turned one.
--   FieldAccount      a field as last set, and how many tags were taken since its text was set
--   FieldAccounts     the text fields and the bar fields, each kind in the order of its numbers
--   just_set s        the account of a field whose text is set now
--   blank_accounts    those of the fields of a new label
--   field_now w v e   the field as the next tag shows it: its text turned one step for every tag taken since it
--                     was set
--   table_now w v es  all fields so
--   accounts_after es a   the accounts after an action on the label: a text that is set has count 0
--   accounts_after_all    the same after the actions of several commands in turn; a command that is no label
--                     command has none
--   after_tag es      the accounts once one more tag was taken
use Rattle.std.specs.Prelude.{ℕ, zero, suc, ◌-◌, cond, List, [], ◌∷◌, map, Some, None, Option, slice_index_or, slice_set}
use Rattle.texts.specs.Wheels.{Wheels}
use Rattle.fields.specs.Records.{FormatSeen, FieldSeen, blank_field, is_linked}
use Rattle.fields.specs.Tables.{Table, blank_table}
use Rattle.fields.specs.Calls.{replaced_by, retext, emptied, turned_field}
use Rattle.fields.specs.Linking.{linked_field}
use Rattle.fields.specs.declared.table.FieldName.{FieldName}
use Rattle.fields.specs.declared.table.FieldName.TheVariants.{Text, Bar}
use Rattle.label.specs.Actions.{Action, set_size, clear, set_format, set_text, set_links, draw}

pub record FieldAccount : Type 0 where
  pub field : FieldSeen
  pub count : ℕ

pub record FieldAccounts : Type 0 where
  pub texts : List FieldAccount
  pub bars : List FieldAccount

abbrev pub just_set : FieldSeen → FieldAccount
just_set s = record { field = s; count = 0 }

abbrev pub blank_accounts : FieldAccounts
blank_accounts = record { texts = map just_set blank_table.texts; bars = map just_set blank_table.bars }

-- a field turned so many times
abbrev pub turned_times : Wheels → Wheels → ℕ → FieldSeen → FieldSeen
turned_times w v zero s = s
turned_times w v (suc k) s = turned_field w v (turned_times w v k s)

abbrev pub field_now : Wheels → Wheels → FieldAccount → FieldSeen
field_now w v e = turned_times w v e.count e.field

abbrev pub table_now : Wheels → Wheels → FieldAccounts → Table
table_now w v es = record { texts = map (field_now w v) es.texts; bars = map (field_now w v) es.bars }

abbrev pub account_of : FieldName → FieldAccounts → FieldAccount
account_of (Text n) es = slice_index_or es.texts (n - 1) (just_set blank_field)
account_of (Bar n) es = slice_index_or es.bars (n - 1) (just_set blank_field)

abbrev pub with_account : FieldName → FieldAccount → FieldAccounts → FieldAccounts
with_account (Text n) e es = record es { texts = slice_set es.texts (n - 1) e }
with_account (Bar n) e es = record es { bars = slice_set es.bars (n - 1) e }

abbrev pub each_account : (FieldAccount → FieldAccount) → FieldAccounts → FieldAccounts
each_account f es = record { texts = map f es.texts; bars = map f es.bars }

-- link strings set the texts of linked fields alone
abbrev pub count_linked : Option FormatSeen → ℕ → ℕ
count_linked None count = count
count_linked (Some l) count = cond (is_linked l) 0 count

abbrev pub relinked : List (List ℕ) → FieldAccount → FieldAccount
relinked strings e = record { field = linked_field strings e.field; count = count_linked e.field.format e.count }

abbrev pub wiped : FieldAccount → FieldAccount
wiped e = just_set (emptied e.field)

abbrev pub accounts_after : FieldAccounts → Action → FieldAccounts
accounts_after es (set_size pitch width length) = es
accounts_after es clear = each_account wiped es
accounts_after es (set_format name l t) = with_account name (just_set (replaced_by l t)) es
accounts_after es (set_text name t) = with_account name (just_set (retext t (account_of name es).field)) es
accounts_after es (set_links strings) = each_account (relinked strings) es
accounts_after es (draw d) = es

abbrev pub accounts_after_all : FieldAccounts → List (Option Action) → FieldAccounts
accounts_after_all es [] = es
accounts_after_all es (None ∷ rest) = accounts_after_all es rest
accounts_after_all es (Some a ∷ rest) = accounts_after_all (accounts_after es a) rest

abbrev pub counted : FieldAccount → FieldAccount
counted e = record e { count = suc e.count }

abbrev pub after_tag : FieldAccounts → FieldAccounts
after_tag es = each_account counted es
