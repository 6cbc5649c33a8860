-- What is joined so far, and what the links behind name, make the whole.
use Rattle.std.proofs.Common.{◌≡◌, ◌++◌, map, drop}
use Rattle.texts.specs.Contents.{contents}
use Rattle.fields.specs.Joining.{joined_text}
use Rattle.fields.specs.Records.{seen_links}
use Rattle.fields.proofs.links.Links.joined.Given as goal

abbrev pub invariant-loop-n : goal.invariant-loop-n
invariant-loop-n l =
    let strings = map contents l.strings in
    contents l.text ++ joined_text strings (drop l.n-index (seen_links l.self)) ≡ joined_text strings
    (seen_links l.self)
