use Rattle.std.proofs.Common.{take}
use Rattle.picture.specs.Picture.{drawn}
use Rattle.picture.specs.Redrawn.{Redrawn}
use Rattle.picture.proofs.draw_all.Given as goal

-- the drawings so far are drawn
abbrev pub invariant-loop-drawing : goal.invariant-loop-drawing
invariant-loop-drawing l = Redrawn (drawn (take l.drawing-index l.drawings)) l.initial.dots l.dots
