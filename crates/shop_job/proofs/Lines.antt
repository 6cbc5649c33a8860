-- To write nothing appends nothing.
use Rattle.std.proofs.Common.{ℕ, List, [], Some, None, Option, sym, append-nil}
use Rattle.std.specs.Io.KnownBytes.{Appends}

pub nothing : (known : Option (List ℕ)) → Appends known known []
nothing None = tt
nothing (Some xs) = sym (append-nil xs)
