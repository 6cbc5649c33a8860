-- Rows or columns that lie side by side.
--   within s x   x is one of the dots of the span s
use Rattle.std.specs.Prelude.{ℕ, Bool, ◌&&◌, nat_le, nat_lt}
use Rattle.picture.specs.declared.span.Span.{Span}

abbrev pub within : Span → ℕ → Bool
within s x = nat_le s.from x && nat_lt x s.to
