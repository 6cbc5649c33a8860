-- All that can be seen of a station, by the meanings of its parts.
--   ModeSeen    what a station is doing: nothing (idle), saving a form under a number with the draft so far, or
--               owing labels of an issue of a size
--   View        the forms in its store, its printer's paper, its two counting rules, its label, what it is doing,
--               and how many labels were ordered since it was made
--   made        a newly made station;  IsNew v   v is newly made
--   owed_by v   the labels that v owes
use Rattle.std.specs.Prelude.{◌≡◌, ℕ, List}
use Rattle.texts.specs.Wheels.{Wheels}
use Rattle.stores.specs.Forms.{Forms}
use Rattle.printers.specs.Paper.{Paper}
use Rattle.label.specs.Labels.{LabelSeen, new_label}

pub data ModeSeen : Type 0 where
  idle : ModeSeen
  saving : ℕ → List ℕ → ModeSeen
  owing : ℕ → ℕ → ModeSeen

pub record View : Type 0 where
  pub forms : Forms
  pub paper : Paper
  pub first : Wheels
  pub second : Wheels
  pub label : LabelSeen
  pub mode : ModeSeen
  pub ordered : ℕ

abbrev pub made : Forms → Paper → Wheels → Wheels → View
made forms paper first second =
    record {
      forms = forms;
      paper = paper;
      first = first;
      second = second;
      label = new_label;
      mode = idle;
      ordered = 0;
    }

abbrev pub IsNew : View → Type 0
IsNew v = v ≡ made v.forms v.paper v.first v.second

abbrev pub owed_in : ModeSeen → ℕ
owed_in idle = 0
owed_in (saving n draft) = 0
owed_in (owing left size) = left

abbrev pub owed_by : View → ℕ
owed_by v = owed_in v.mode

abbrev pub with_label : LabelSeen → View → View
with_label l v = record v { label = l }

abbrev pub with_mode : ModeSeen → View → View
with_mode d v = record v { mode = d }

abbrev pub with_forms : Forms → View → View
with_forms f v = record v { forms = f }

abbrev pub with_paper : Paper → View → View
with_paper p v = record v { paper = p }

abbrev pub with_ordered : ℕ → View → View
with_ordered n v = record v { ordered = n }
