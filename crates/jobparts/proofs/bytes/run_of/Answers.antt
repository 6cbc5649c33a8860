use Rattle.std.proofs.Common.{◌∙◌, rules, tests, take}
use Rattle.std.proofs.lemmas.Iterator.{YieldsList-from_slice}
use Rattle.std.proofs.lemmas.Iterator.Consumers.{count_from_yields_List}
use Rattle.std.proofs.lemmas.Iterator.Search.{YieldsList-from_take_while}
use Rattle.jobparts.specs.Kinds.{of_kind}
use Rattle.jobparts.proofs.Runs.{run_is}
use Rattle.jobparts.proofs.bytes.run_of.Goals as goal

pub returns-clause-count : goal.returns-clause-count
returns-clause-count c =
    let k = c.args.kind in
    count_from_yields_List c.take_while.result c.count.result c.count.ensures.ran
    (YieldsList-from_take_while _ (of_kind k)
    (YieldsList-from_slice (take c.args.most c.args.rest.now) cc)
    c.take_while.ensures.closure c.take_while.ensures.done (λ x b q r. search (rules, tests)))
    ∙ run_is k c.args.most c.args.rest.now
