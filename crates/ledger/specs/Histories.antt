-- The history of a run: what its calls did, the latest first. So what came before a call is the history behind it, and
-- every word on a run looks back from the latest call.
--   Deed              what one call did: an accepted command, by what it asks and its bytes; an accepted print, which
--                     gives a tag; or nothing, as a refused call and a reload
--   deed_by c ok      what the call c did, accepted (ok) or refused
-- In what follows, `f before d` is what the deed d says of a subject, where it says anything; `before` is the history
-- before it. A list of other things that happened, the latest first, is looked back on alike.
--   latest f s        what the latest deed says that says anything
--   since f s         the deeds that came later than that one; all, where none says anything
--   Silent f after before   no deed of `after`, which came behind `before`, says anything
--   SaidLast f s x after    in s some deed says x, and those of `after`, which came later, say nothing
--   LooksBack f s     latest and since find what was said last; they find nothing only where no deed of s says anything
use Rattle.std.specs.Prelude.{◌≡◌, ℕ, Bool, true, false, List, [], ◌∷◌, ◌++◌, Some, None, Ok, Err, Option, Result}
use Rattle.std.specs.Option.{option_or, MatchOption}
use Rattle.jobgroups.specs.Commands.{CommandSeen}
use Rattle.station.specs.Reads.{read_at, Misread}
use Rattle.station.specs.Requests.{Request, request_of}
use Rattle.station.specs.Steps.{Call, command, print, reload, whole_at}

pub data Deed : Type 0 where
  asked : Request → List ℕ → Deed
  tag : Deed
  nothing : Deed

abbrev pub deed_of : Result CommandSeen Misread → List ℕ → Deed
deed_of (Ok c) whole = asked (request_of c) whole
deed_of (Err e) whole = nothing

abbrev pub deed_by : Call → Bool → Deed
deed_by (command job at answer work) true = deed_of (read_at job at) (whole_at job at)
deed_by (print work) true = tag
deed_by reload true = nothing
deed_by c false = nothing

abbrev pub latest : {D A : Type 0} → (List D → D → Option A) → List D → Option A
latest f [] = None
latest f (d ∷ before) = option_or (f before d) (latest f before)

-- d came later than what was last said, or says something itself
abbrev pub later : {D A : Type 0} → Option A → D → List D → List D
later None d since = d ∷ since
later (Some x) d since = []

abbrev pub since : {D A : Type 0} → (List D → D → Option A) → List D → List D
since f [] = []
since f (d ∷ before) = later (f before d) d (since f before)

abbrev pub Silent : {D A : Type 0} → (List D → D → Option A) → List D → List D → Type 0
Silent f [] before = Unit {0}
Silent f (d ∷ after) before = (f (after ++ before) d ≡ None) × Silent f after before

pub record SaidLast {D A : Type 0} (f : List D → D → Option A) (s : List D) (x : A) (after : List D) : Type 0 where
  pub deed : D
  pub before : List D
  pub split : s ≡ after ++ deed ∷ before
  pub says : f before deed ≡ Some x
  pub silent : Silent f after (deed ∷ before)

abbrev pub LooksBack : {D A : Type 0} → (List D → D → Option A) → List D → Type 0
LooksBack f s = MatchOption (latest f s) (Silent f s []) (λ x. SaidLast f s x (since f s))
