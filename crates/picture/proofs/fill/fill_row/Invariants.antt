use Rattle.picture.specs.Inks.{inked}
use Rattle.picture.specs.Redrawn.{Redrawn}
use Rattle.picture.proofs.Rows.{sofar}
use Rattle.picture.proofs.fill.fill_row.Given as goal

-- the bytes of the row before k are inked
abbrev pub invariant-loop-k : goal.invariant-loop-k
invariant-loop-k l = Redrawn (λ r c. inked l.ink (sofar l.row l.columns l.k r c)) l.initial.dots l.dots
