use Rattle.std.proofs.Common.{◌≡◌, slice_get}
use mathlib.Core.Path.{subst⁻¹}
use Rattle.std.specs.Option.{option_map}
use Rattle.jobgroups.specs.Table.{label_parts_of, text_field, bar_field, point, magnification, lettering, check_option, extras, bar_type, bar_widths, bar_height}
use Rattle.jobgroups.specs.declared.letters.LabelLetters.{LabelLetters}
use Rattle.jobtable.specs.Items.{item_of, joined}
use Rattle.jobtable.specs.declared.item.Named.{Named}
use Rattle.jobtable.proofs.rows.label_item.Goals as goal

pub returns-in-Pc : goal.returns-in-Pc
unfolding text_field point magnification lettering check_option extras
returns-in-Pc c =
    subst⁻¹ (λ (l : LabelLetters). option_map (λ (named : Named). item_of named.1) c.nth-in-Pc.result
    ≡ slice_get (joined (label_parts_of l)) c.args.n) c.in-Pc.is c.nth-in-Pc.ensures

pub returns-in-Xb : goal.returns-in-Xb
unfolding bar_field point bar_type bar_widths bar_height extras
returns-in-Xb c =
    subst⁻¹ (λ (l : LabelLetters). option_map (λ (named : Named). item_of named.1) c.nth-in-Xb.result
    ≡ slice_get (joined (label_parts_of l)) c.args.n) c.in-Xb.is c.nth-in-Xb.ensures
