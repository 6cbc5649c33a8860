use Rattle.std.proofs.Common.{◌<◌, sym, subst}
use Rattle.texts.proofs.Tables.{values_10, small_10}
use Rattle.texts.proofs.checks.value_10.Goals as goal

pub returns-clause-value : goal.returns-clause-value
returns-clause-value c = values_10 c.args.b c.from.result c.from.ensures c.ranges.b.fits

pub returns-clause-small : goal.returns-clause-small
returns-clause-small c =
    subst (λ v. v < 10) (sym (values_10 c.args.b c.from.result c.from.ensures c.ranges.b.fits)) (small_10 c.args.b)
