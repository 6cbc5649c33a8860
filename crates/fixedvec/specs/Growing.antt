-- What it means that items join others, or come in their place.
--   Grown N old more r new      r is the answer, and new what is held then, where more joins old and there is room for
--                               N items: all of more stands behind old or, without room for all of it, nothing changes
--   Replaced N old more r new   the same where more comes in place of old
use Rattle.std.specs.Prelude.{◌≡◌, ℕ, ◌+◌, ◌<◌, ◌≤◌, List, ◌++◌, length, Ok, Err, Result}
use Rattle.fixedvec.specs.declared.Full.{Full}

abbrev pub Grown : {T : Type 0} → ℕ → List T → List T → Result (Unit {0}) Full → List T → Type 0
Grown N old more (Ok _) new = (length old + length more ≤ N) × (new ≡ old ++ more)
Grown N old more (Err _) new = (N < length old + length more) × (new ≡ old)

abbrev pub Replaced : {T : Type 0} → ℕ → List T → List T → Result (Unit {0}) Full → List T → Type 0
Replaced N old more (Ok _) new = (length more ≤ N) × (new ≡ more)
Replaced N old more (Err _) new = (N < length more) × (new ≡ old)
