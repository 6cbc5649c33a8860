-- What a word of a command line is.
use Rattle.std.specs.Prelude.{ℕ, List, [], ◌∷◌, if◌then◌else◌, nat_eq}
use Rattle.std.specs.List.{starts_with}
use lib.Pointwise.{pointwise}
use Rattle.invocation.specs.declared.Word.{Word}
use Rattle.invocation.specs.declared.Word.TheVariants.{Help, Option, File}

-- the bytes of --help
abbrev pub help : List ℕ
help = 45 ∷ 45 ∷ 104 ∷ 101 ∷ 108 ∷ 112 ∷ []

abbrev pub word_of : List ℕ → Word
word_of word = if pointwise nat_eq word help then Help else if starts_with nat_eq word (45 ∷ []) then Option else File
