-- Each dot of the byte is inked by itself.
use Rattle.std.proofs.Common.{arith}
use Rattle.picture.proofs.Bytes.{bit_of_or, bit_of_xor, bit_less}
use Rattle.picture.proofs.ink.Ink.on.Goals as goal

pub returns-in-Black : goal.returns-in-Black
returns-in-Black c = rw c.in-Black.is (bit_of_or c.args.byte c.args.mask)

pub returns-in-White : goal.returns-in-White
returns-in-White c = rw c.in-White.is (λ j. bit_less c.args.byte c.args.mask j (omega arith))

pub returns-in-Flip : goal.returns-in-Flip
returns-in-Flip c = rw c.in-Flip.is (bit_of_xor c.args.byte c.args.mask)
