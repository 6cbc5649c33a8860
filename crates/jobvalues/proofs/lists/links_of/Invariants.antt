use Rattle.std.proofs.Common.{◌≡◌, [], map}
use Rattle.fields.specs.Records.{seen_links}
use Rattle.jobvalues.specs.Meaning.{with_links}
use Rattle.jobvalues.proofs.lists.links_of.Given as goal

-- the numbers so far are links
abbrev pub invariant-loop-number : goal.invariant-loop-number
invariant-loop-number l = seen_links l.links ≡ with_links [] (map (λ n. n.now) l.yielded)
