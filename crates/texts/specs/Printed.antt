-- printed f: the bytes of the finished text f.
use Rattle.std.specs.Prelude.{ℕ, List}
use Rattle.fixedvec.specs.Items.{items}
use Rattle.texts.specs.declared.finished.Finished.{Finished}

abbrev pub printed : Finished → List ℕ
printed f = items f.bytes
