-- The digits from `place` on are told, and `rest` has those before them.
use Rattle.std.proofs.Common.{◌≡◌, ◌-◌, ◌/◌, ◌^◌, ◌≤◌, length, drop}
use Rattle.tagline.specs.Digits.{digits}
use Rattle.tagline.proofs.digits.digits.Given as goal

abbrev pub invariant-loop-place : goal.invariant-loop-place
invariant-loop-place g l =
    record {
      told : drop l.place l.told ≡ digits (g.row.N - l.place) l.n;
      rest : l.rest ≡ l.n / 10 ^ (g.row.N - l.place);
      long : length l.told ≡ g.row.N;
      inside : l.place ≤ g.row.N;
    }

abbrev pub decreases-loop-place : goal.decreases-loop-place
decreases-loop-place g l = l.place
