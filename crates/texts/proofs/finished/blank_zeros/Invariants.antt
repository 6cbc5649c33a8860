-- The places passed are done, the rest is as it was.
use Rattle.std.proofs.Common.{◌≡◌, ◌-◌, ◌++◌, take, drop}
use Rattle.texts.specs.Finishing.{blanked}
use Rattle.texts.proofs.finished.blank_zeros.Given as goal

abbrev pub invariant-loop-b : goal.invariant-loop-b
invariant-loop-b l =
    take l.b-index l.b-items ++ blanked (l.places - l.b-index)
    (drop l.b-index l.b-items) ≡ blanked l.places l.initial.b-items
