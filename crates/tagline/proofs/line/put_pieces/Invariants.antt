-- The pieces of the fields so far are laid.
use Rattle.std.proofs.Common.{◌≤◌, map, length}
use Rattle.fields.specs.Records.{seen_field}
use Rattle.tagline.proofs.Pieces.{Laid}
use Rattle.tagline.proofs.line.put_pieces.Given as goal

abbrev pub invariant-loop-i : goal.invariant-loop-i
invariant-loop-i l =
    record {
      laid : Laid l.letter (map seen_field l.fields) l.initial.out l.out l.n l.i;
      inside : l.i ≤ length l.fields;
    }
