-- A roll of tags: each tag taken lowers the stock by one, and a reload brings a full roll, until the last tag of all.
use Rattle.std.specs.Prelude.{ℕ, cond, nat_lt}
use Rattle.limits.specs.Limits.{last_tag}
use Rattle.printers.specs.Paper.{Paper}
use Rattle.printers.specs.Tallies.{latest_of}
use Rattle.printers.specs.declared.roll.Roll.{Roll}

abbrev pub roll_paper : Roll → Paper
roll_paper r = record { taken = r.tally.taken; left = r.left; latest = latest_of r.tally }

-- the stock that a reload leaves
abbrev pub roll_again : Roll → ℕ
roll_again r = cond (nat_lt r.tally.taken last_tag) r.size 0
