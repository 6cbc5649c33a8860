-- What the till's list gets for a step of a job: `tag `, and the tag's line from the front of the work buffer;
-- nothing for all else.
use Rattle.std.specs.Prelude.{ℕ, List, [], ◌∷◌, ◌++◌, take}
use Rattle.jobrun.specs.declared.stage.Stage.{Stage}
use Rattle.jobrun.specs.declared.stage.Stage.TheVariants.{Tag, Done, Refused, Ended, NoStock}

abbrev pub listed_for : Stage → List ℕ → List ℕ
listed_for (Tag n) work = 116 ∷ 97 ∷ 103 ∷ 32 ∷ [] ++ take n work
listed_for (Done next) work = []
listed_for (Refused f) work = []
listed_for (Ended f) work = []
listed_for (NoStock f) work = []
