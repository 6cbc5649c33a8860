use Rattle.picture.specs.Inks.{inked}
use Rattle.picture.specs.Redrawn.{Redrawn}
use Rattle.picture.proofs.Rows.{rows_sofar}
use Rattle.picture.proofs.fill.fill_box.Given as goal

-- the rows of the box before row are inked
abbrev pub invariant-loop-row : goal.invariant-loop-row
invariant-loop-row l =
    Redrawn (λ r c. inked l.ink (rows_sofar l.initial.row l.row-end l.columns l.row r c)) l.initial.dots l.dots
