-- What an ink does to a dot.
--   inked i on dot   the dot after the ink i, where `on` says whether the ink reaches it
use Rattle.std.specs.Prelude.{Bool, true, false, cond, not}
use Rattle.picture.specs.declared.ink.Ink.{Ink}
use Rattle.picture.specs.declared.ink.Ink.TheVariants.{Black, White, Flip}

abbrev pub inked : Ink → Bool → Bool → Bool
inked Black on dot = cond on true dot
inked White on dot = cond on false dot
inked Flip on dot = cond on (not dot) dot
