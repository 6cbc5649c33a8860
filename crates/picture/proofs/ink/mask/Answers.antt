-- The dots from `from` on, less those from `to` on.
use Rattle.std.proofs.Common.{◌≡◌, ℕ, false, cond, ◌&&◌, ltb, leb, get_or, ◌∙◌, ap₂, arith}
use Rattle.std.proofs.lemmas.Bool.Decides.{nat_tests}
use Rattle.picture.proofs.Bytes.{dots_from, bit_less, bit_from}
use Rattle.picture.proofs.ink.mask.Goals as goal

before : (from to j : ℕ) → cond (leb to j) false (leb from j) ≡ (leb from j && ltb j to)
before from to j = grind (arith, nat_tests)

pub returns : goal.returns
returns c =
    λ j h.
    bit_less (get_or dots_from c.args.from 0) (get_or dots_from c.args.to 0) j (omega arith)
    ∙ ap₂ (λ x y. cond x false y) (bit_from c.args.to j c.requires.1 h) (bit_from c.args.from j c.requires.0 h)
    ∙ before c.args.from c.args.to j
