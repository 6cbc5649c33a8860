use Rattle.texts.proofs.Tables.{characters_43}
use Rattle.texts.proofs.checks.character_43.Goals as goal

pub returns : goal.returns
returns c = characters_43 c.args.v c.from.result c.from.ensures c.requires
