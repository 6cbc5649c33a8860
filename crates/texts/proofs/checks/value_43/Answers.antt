use Rattle.std.proofs.Common.{◌<◌, sym, subst}
use Rattle.texts.proofs.Tables.{values_43, small_43}
use Rattle.texts.proofs.checks.value_43.Goals as goal

pub returns-clause-value : goal.returns-clause-value
returns-clause-value c = values_43 c.args.b c.from.result c.from.ensures c.ranges.b.fits

pub returns-clause-small : goal.returns-clause-small
returns-clause-small c =
    subst (λ v. v < 43) (sym (values_43 c.args.b c.from.result c.from.ensures c.ranges.b.fits)) (small_43 c.args.b)
