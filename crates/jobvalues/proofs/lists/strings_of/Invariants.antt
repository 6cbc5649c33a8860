use Rattle.std.proofs.Common.{◌≡◌, ◌-◌, [], ◌++◌, map, length, take, replicate}
use Rattle.texts.specs.Contents.{contents}
use Rattle.jobvalues.specs.Meaning.{text_of, parted}
use Rattle.jobvalues.proofs.lists.strings_of.Given as goal

-- the strings so far are there, and the others empty
abbrev pub invariant-loop-k : goal.invariant-loop-k
invariant-loop-k l = map contents l.strings
    ≡ map text_of (take (length l.yielded) (parted l.bytes) ++ replicate (8 - length l.yielded) [])
