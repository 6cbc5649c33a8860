-- All strings so far are admitted, so those behind decide.
use Rattle.std.proofs.Common.{◌≡◌, map, drop}
use Rattle.texts.specs.Checks.{admits_all}
use Rattle.texts.specs.Contents.{contents}
use Rattle.fields.specs.Joining.{joined_text}
use Rattle.fields.specs.Records.{seen_links}
use Rattle.fields.proofs.links.Links.are_admitted.Given as goal

abbrev pub invariant-loop-n : goal.invariant-loop-n
invariant-loop-n l =
    let strings = map contents l.strings in
    admits_all l.check (joined_text strings (drop l.n-index (seen_links l.self)))
    ≡ admits_all l.check (joined_text strings (seen_links l.self))
