-- What a cursor takes from its place on.
--   Moves r c c' f      the answer r, and the place of the cursor c', are what f says of the body and the place of c;
--                    the body stays
--   Takes s r c c' f    the same, where f says what slots are got, and s those of the answer
use Rattle.std.specs.Prelude.{◌≡◌, ℕ, List, Ok, Err, Result}
use Rattle.jobparts.specs.Parts.{PartSeen, Got}
use Rattle.jobparts.specs.declared.cursor.Cursor.{Cursor}
use Rattle.jobparts.specs.declared.part.Wrong.{Wrong}

abbrev pub moved_to : {X : Type 0} → Result X Wrong → ℕ → Result ℕ Wrong
moved_to (Ok x) at = Ok at
moved_to (Err e) at = Err e

abbrev pub got_to : {X : Type 0} → (X → List PartSeen) → Result X Wrong → ℕ → Result Got Wrong
got_to parts (Ok x) at = Ok (parts x, at)
got_to parts (Err e) at = Err e

pub record Moves {X : Type 0} (result : Result X Wrong) (old new : Cursor)
    (read : List ℕ → ℕ → Result ℕ Wrong) : Type 0 where
  pub answer : moved_to result new.at ≡ read old.body.now old.at
  pub body : new.body ≡ old.body

pub record Takes {X : Type 0} (parts : X → List PartSeen) (result : Result X Wrong) (old new : Cursor)
    (read : List ℕ → ℕ → Result Got Wrong) : Type 0 where
  pub answer : got_to parts result new.at ≡ read old.body.now old.at
  pub body : new.body ≡ old.body
