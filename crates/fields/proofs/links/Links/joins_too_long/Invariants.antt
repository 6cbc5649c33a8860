-- The lengths so far, and that of what the links behind name, make the whole.
use Rattle.std.proofs.Common.{◌≡◌, ◌+◌, ◌*◌, ◌≤◌, length, map, drop}
use Rattle.limits.specs.Limits.{longest_text}
use Rattle.texts.specs.Contents.{contents}
use Rattle.fields.specs.Joining.{joined_text}
use Rattle.fields.specs.Records.{seen_links}
use Rattle.fields.proofs.links.Links.joins_too_long.Given as goal

abbrev pub invariant-loop-n : goal.invariant-loop-n
invariant-loop-n l =
    let strings = map contents l.strings in
    record {
      sum : l.long + length (joined_text strings (drop l.n-index (seen_links l.self)))
          ≡ length (joined_text strings (seen_links l.self));
      fits : l.long ≤ longest_text * l.n-index;
    }
