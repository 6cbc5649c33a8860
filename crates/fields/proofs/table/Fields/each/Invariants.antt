-- Whatever a call makes of a field, it is made of the fields so far.
use Rattle.std.proofs.Common.{◌≡◌, length}
use Rattle.fields.specs.Records.{FieldSeen, seen_field}
use Rattle.fields.proofs.Every.{Done}
use Rattle.fields.proofs.table.Fields.each.Given as goal

abbrev pub invariant-loop-f : goal.invariant-loop-f
invariant-loop-f g l =
    record {
      made : (h : FieldSeen → FieldSeen) → ((x y : _) → g.F.Fn.post l.change (x, tt) (tt, (y, tt))
          → seen_field y.now ≡ h (seen_field x.now)) → Done h l.initial.f-items l.f-items l.f-index;
      long : length l.f-items ≡ length l.initial.f-items;
    }

abbrev pub invariant-loop-f-2 : goal.invariant-loop-f-2
invariant-loop-f-2 g l =
    record {
      made : (h : FieldSeen → FieldSeen) → ((x y : _) → g.F.Fn.post l.change (x, tt) (tt, (y, tt))
          → seen_field y.now ≡ h (seen_field x.now)) → Done h l.initial.f-items l.f-items l.f-index;
      long : length l.f-items ≡ length l.initial.f-items;
    }
