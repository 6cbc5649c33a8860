-- All o r after: doing all commands of a form, which comes to o, answers r; accepted, it leaves the label of o.
-- One o next r before after: doing one command of a form, which comes to o, answers r; accepted, it tells the next
-- place and leaves the label of o; refused, it tells the blame of o and leaves the label as it was.
use Rattle.std.specs.Prelude.{◌≡◌, ℕ, Ok, Err, Result}
use Rattle.label.specs.Labels.{LabelSeen}
use Rattle.station.specs.declared.blame.Blame.{Blame}

abbrev pub Done : Result LabelSeen Blame → Result (Unit {0}) Blame → LabelSeen → LabelSeen → Type 0
Done o (Ok x) before after = o ≡ Ok after
Done o (Err b) before after = (o ≡ Err b) × (after ≡ before)

abbrev pub One : Result LabelSeen Blame → ℕ → Result ℕ Blame → LabelSeen → LabelSeen → Type 0
One o next (Ok n) before after = (o ≡ Ok after) × (n ≡ next)
One o next (Err b) before after = (o ≡ Err b) × (after ≡ before)

abbrev pub All : Result LabelSeen Blame → Result (Unit {0}) Blame → LabelSeen → Type 0
All o (Ok x) after = o ≡ Ok after
All o (Err b) after = o ≡ Err b
