use Rattle.std.proofs.Common.{◌≡◌, Ok, Err, [], Result, sym, refl, ap, ◌∙◌, rules}
use Rattle.texts.specs.Contents.{contents, Made}
use Rattle.texts.specs.declared.text.Text.{Text}
use Rattle.texts.specs.declared.text.TextFault.{TextFault}
use Rattle.jobvalues.specs.Meaning.{text_of}
use Rattle.jobvalues.proofs.Texts.{a_text, no_text}
use Rattle.jobvalues.proofs.lists.text_of.Goals as goal

pub returns : goal.returns
returns c = go c.from_bytes.result refl
  where
    go : (r : Result Text TextFault) → c.from_bytes.result ≡ r
        → contents c.unwrap_or_else.result ≡ text_of c.args.bytes.now
    go (Ok x) e =
        let is = rw e at c.unwrap_or_else.ensures in
        let made : Made c.args.bytes.now (Ok x) = rw e at c.from_bytes.ensures in
        ap contents is ∙ made.0 ∙ sym (a_text c.args.bytes.now made.1 made.2)
    go (Err d) e =
        let is = rw e at c.unwrap_or_else.ensures in
        let made : Made c.args.bytes.now (Err d) = rw e at c.from_bytes.ensures in
        let none : contents c.unwrap_or_else.result ≡ [] = search rules in
        none ∙ sym (no_text c.args.bytes.now d made)
