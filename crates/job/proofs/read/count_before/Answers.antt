use Rattle.std.proofs.Common.{◌∙◌, arith}
use Rattle.job.proofs.Placing.{before_le, before_is}
use Rattle.job.proofs.read.count_before.Goals as goal

pub returns-clause-count : goal.returns-clause-count
returns-clause-count c =
    c.unwrap_or.ensures ∙ before_is c.args.b c.args.bytes.now c.memchr.result c.memchr.ensures

pub returns-clause-within : goal.returns-clause-within
returns-clause-within c =
    let is = c.unwrap_or.ensures ∙ before_is c.args.b c.args.bytes.now c.memchr.result c.memchr.ensures in
    let le = before_le c.args.b c.args.bytes.now in
    omega arith
