-- Odd cases of the words on a run: what the words say of a history, beside what they are to say. A history has its
-- latest deed first, so each is read from right to left; `codes` is the bytes of a text.
--   Case        what the words say and what they are to say, as two lists that are to be equal
--   odd_cases   the table
--   AllHold cs  the two lists of each case are equal
use Rattle.std.specs.Prelude.{◌≡◌, ℕ, List, [], ◌∷◌, ◌++◌, pos, Some, None, Option, codes}
use Rattle.std.specs.List.{AllByRecursion}
use Rattle.texts.specs.declared.checks.Check.TheVariants.{NoCheck}
use Rattle.fields.specs.Records.{FormatSeen}
use Rattle.fields.specs.declared.format.FieldKind.TheVariants.{Text as OfText}
use Rattle.fields.specs.declared.table.FieldName.TheVariants.{Text}
use Rattle.label.specs.Actions.{Action, clear, set_format, set_text, set_links}
use Rattle.station.specs.Requests.{on_label, issue, begin_saving, end_saving, recall, empty_store, tell_status, reset}
use Rattle.ledger.specs.Histories.{Deed, asked, tag, nothing}
use Rattle.ledger.specs.Ledgers.{Form, given, filed}
use Rattle.ledger.specs.Words.{did, printed, ordered, owed, cancelled, number, form_at, done_in_turn, changes, format, text, age}

pub record Case : Type 0 where
  pub said : List (List ℕ)
  pub meant : List (List ℕ)

abbrev pub text_is : List ℕ → List ℕ → Case
text_is said meant = record { said = said ∷ []; meant = meant ∷ [] }

abbrev pub number_is : ℕ → ℕ → Case
number_is said meant = record { said = (said ∷ []) ∷ []; meant = (meant ∷ []) ∷ [] }

abbrev pub links_in : Option FormatSeen → List (List ℕ)
links_in None = []
links_in (Some l) = l.links ∷ []

abbrev pub format_is : Option FormatSeen → Option FormatSeen → Case
format_is said meant = record { said = links_in said; meant = links_in meant }

abbrev pub bytes_in : Option Form → List (List ℕ)
bytes_in None = []
bytes_in (Some (given x)) = codes "given" ∷ x ∷ []
bytes_in (Some (filed ws)) = codes "filed" ∷ ws

abbrev pub form_is : Option Form → Option Form → Case
form_is said meant = record { said = bytes_in said; meant = bytes_in meant }

-- no form at the making, and text field 1 with its links
abbrev pub no_form : ℕ → Option Form
no_form n = None

abbrev pub linked_to : List ℕ → FormatSeen
linked_to links = record { x = 0; y = 0; check = NoCheck; step = pos 1; kept = None; links = links; kind = OfText }

abbrev pub on_field : Action → Deed
on_field a = asked (on_label a) (codes "C")

abbrev pub formatted : List ℕ → List ℕ → Deed
formatted links t = on_field (set_format (Text 1) (linked_to links) t)

abbrev pub texted : List ℕ → Deed
texted t = on_field (set_text (Text 1) t)

abbrev pub strings_sent : List (List ℕ) → Deed
strings_sent strings = on_field (set_links strings)

abbrev pub sent : List ℕ → Deed
sent whole = asked (on_label clear) whole

abbrev pub asks_issue : ℕ → Deed
asks_issue n = asked (issue n) []

abbrev pub begins_form : ℕ → Deed
begins_form n = asked (begin_saving n) []

abbrev pub ends_form : Deed
ends_form = asked end_saving []

abbrev pub empties : Deed
empties = asked empty_store []

abbrev pub resets : Deed
resets = asked reset []

abbrev pub recalls : ℕ → Deed
recalls n = asked (recall n) []

-- a form's two commands, each with a text for text field 1
abbrev pub two_texts : List (Option Action)
two_texts = Some (set_text (Text 1) (codes "7")) ∷ Some (set_text (Text 1) (codes "8")) ∷ []

abbrev pub text_now : List Deed → List ℕ
text_now s = text (Text 1) (changes no_form s)

abbrev pub format_now : List Deed → Option FormatSeen
format_now s = format (Text 1) (changes no_form s)

abbrev pub odd_cases : List Case
odd_cases =
    -- link strings change nothing at a field without links
    text_is (text_now (strings_sent (codes "A" ∷ []) ∷ formatted [] (codes "7") ∷ [])) (codes "7")
    -- of link strings sent twice the later alone count; a link named twice is joined twice
    ∷ text_is
    (text_now
    (strings_sent (codes "B" ∷ []) ∷ strings_sent (codes "A" ∷ codes "C" ∷ []) ∷ formatted (1 ∷ 2 ∷ []) [] ∷ []))
    (codes "B")
    ∷ text_is (text_now (strings_sent (codes "A" ∷ []) ∷ formatted (1 ∷ 1 ∷ []) [] ∷ [])) (codes "AA")
    -- the links that count are those that the field had when the strings came
    ∷ text_is (text_now (formatted (1 ∷ []) [] ∷ strings_sent (codes "A" ∷ []) ∷ [])) []
    -- a format without a text leaves none; another field's format leaves it
    ∷ text_is (text_now (formatted [] [] ∷ texted (codes "8") ∷ formatted [] (codes "7") ∷ [])) []
    ∷ text_is (text_now (on_field (set_format (Text 2) (linked_to []) []) ∷ formatted [] (codes "7") ∷ [])) (codes "7")
    -- clearing takes the text and keeps the format; a reset takes both
    ∷ text_is (text_now (on_field clear ∷ formatted (3 ∷ []) (codes "7") ∷ [])) []
    ∷ format_is (format_now (on_field clear ∷ formatted (3 ∷ []) (codes "7") ∷ [])) (Some (linked_to (3 ∷ [])))
    ∷ text_is (text_now (resets ∷ formatted [] (codes "7") ∷ [])) []
    ∷ format_is (format_now (resets ∷ formatted [] (codes "7") ∷ [])) None
    -- a text sent while a form is being saved says nothing; nor do a refused call and a status asked for
    ∷ text_is (text_now (texted (codes "8") ∷ begins_form 3 ∷ formatted [] (codes "7") ∷ [])) (codes "7")
    ∷ text_is (text_now (nothing ∷ asked tell_status [] ∷ formatted [] (codes "7") ∷ [])) (codes "7")
    -- the tags since a text, through other fields' texts, and not before it
    ∷ number_is
    (age (Text 1) (changes no_form (tag ∷ on_field (set_text (Text 2) []) ∷ tag ∷ texted (codes "7") ∷ tag ∷ []))) 2
    -- a form has its commands in the order in which they were sent; a form saved empty is a form
    ∷ form_is (form_at no_form 3 (ends_form ∷ sent (codes "RB") ∷ sent (codes "RC") ∷ begins_form 3 ∷ []))
    (Some (filed (codes "RC" ∷ codes "RB" ∷ [])))
    ∷ form_is (form_at no_form 3 (ends_form ∷ begins_form 3 ∷ [])) (Some (filed []))
    -- a form saved again is the later one; under other numbers nothing changes
    ∷ form_is
    (form_at no_form 3
    (ends_form ∷ sent (codes "RB") ∷ begins_form 3 ∷ ends_form ∷ sent (codes "RC") ∷ begins_form 3 ∷ []))
    (Some (filed (codes "RB" ∷ [])))
    ∷ form_is (form_at no_form 4 (ends_form ∷ sent (codes "RC") ∷ begins_form 3 ∷ [])) None
    -- a recalled form's commands count one by one, and tags before the recall no longer
    ∷ text_is (text (Text 1) (done_in_turn two_texts ++ did (set_text (Text 1) (codes "9")) ∷ [])) (codes "8")
    ∷ number_is
    (age (Text 1) (printed ∷ done_in_turn two_texts ++ printed ∷ did (set_text (Text 1) (codes "9")) ∷ [])) 1
    -- an empty form that is recalled changes nothing
    ∷ text_is (text_now (recalls 3 ∷ texted (codes "9") ∷ ends_form ∷ begins_form 3 ∷ formatted [] [] ∷ [])) (codes "9")
    -- a reset while a form is being saved drops it and leaves those that there are; emptying takes them
    ∷ form_is (form_at no_form 3 (resets ∷ sent (codes "RC") ∷ begins_form 3 ∷ [])) None
    ∷ form_is (form_at no_form 3 (resets ∷ ends_form ∷ begins_form 3 ∷ [])) (Some (filed []))
    ∷ form_is (form_at no_form 3 (empties ∷ ends_form ∷ begins_form 3 ∷ [])) None
    -- a reset cancels what is owed then, and takes nothing from what was ordered
    ∷ number_is (cancelled (resets ∷ tag ∷ asks_issue 3 ∷ [])) 2
    ∷ number_is (owed (resets ∷ tag ∷ asks_issue 3 ∷ [])) 0
    ∷ number_is (ordered (asks_issue 4 ∷ resets ∷ tag ∷ asks_issue 3 ∷ [])) 7
    -- tags are numbered from 1 in each issue
    ∷ number_is (number (asks_issue 4 ∷ tag ∷ tag ∷ asks_issue 2 ∷ [])) 1
    ∷ number_is (number (tag ∷ asks_issue 4 ∷ tag ∷ tag ∷ asks_issue 2 ∷ [])) 2
    ∷ []

abbrev pub AllHold : List Case → Type 0
AllHold = AllByRecursion (λ c. c.said ≡ c.meant)
