-- The draft of a form that is being saved.
--   drafts d                 the bytes of the draft d
--   Saved d whole at r e     r is what saving a command's bytes in d answers, the command standing at a place of its
--                            job, and e the draft then: the bytes stand behind the others or, where that would be too
--                            long for a form, nothing changes
use Rattle.std.specs.Prelude.{◌≡◌, ℕ, ◌+◌, ◌<◌, ◌≤◌, List, ◌++◌, length, Ok, Err, Result}
use Rattle.limits.specs.Limits.{longest_form}
use Rattle.faults.specs.declared.Refusal.TheVariants.{DraftFull}
use Rattle.fixedvec.specs.Items.{items}
use Rattle.station.specs.declared.blame.Blame.{Blame}
use Rattle.station.specs.declared.mode.Draft.{Draft}

abbrev pub drafts : Draft → List ℕ
drafts d = items d.commands

abbrev pub Saved : Draft → List ℕ → ℕ → Result (Unit {0}) Blame → Draft → Type 0
Saved d whole at (Ok x) e =
    (length (drafts d) + length whole ≤ longest_form) × (e.number ≡ d.number) × (drafts e ≡ drafts d ++ whole)
Saved d whole at (Err b) e =
    (longest_form < length (drafts d) + length whole)
    × (b ≡ record { refusal = DraftFull; form = 0; place = at })
    × (e.number ≡ d.number)
    × (drafts e ≡ drafts d)
