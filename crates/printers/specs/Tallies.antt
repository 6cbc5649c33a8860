-- What a tally has noted: how many tags were taken, and the latest line.
--   latest_of t     the latest line
--   most_noted      the tags that a tally counts to, 2 ^ 64 - 1
--   note_answer     what noting a line answers, by the tags taken and the line's length
--   taken_after, latest_after   the tags taken and the latest line then; a refusal leaves both
use Rattle.std.specs.Prelude.{ℕ, ◌+◌, cond, List, Ok, Err, Result, nat_le}
use Rattle.fixedvec.specs.Items.{items}
use Rattle.limits.specs.Bytes.{between}
use Rattle.limits.specs.Limits.{longest_line}
use Rattle.printers.specs.declared.fault.PrinterFault.{PrinterFault}
use Rattle.printers.specs.declared.fault.PrinterFault.TheVariants.{OutOfStock}
use Rattle.printers.specs.declared.tally.Tally.{Tally}

abbrev pub latest_of : Tally → List ℕ
latest_of t = items t.latest

abbrev pub most_noted : ℕ
most_noted = 18446744073709551615

abbrev pub note_answer : ℕ → ℕ → Result (Unit {0}) PrinterFault
note_answer taken long =
    cond (between 1 longest_line long) (cond (nat_le most_noted taken) (Err OutOfStock) (Ok tt))
    (Err OutOfStock)

abbrev pub taken_after : Result (Unit {0}) PrinterFault → ℕ → ℕ
taken_after (Ok done) taken = taken + 1
taken_after (Err why) taken = taken

abbrev pub latest_after : Result (Unit {0}) PrinterFault → List ℕ → List ℕ → List ℕ
latest_after (Ok done) latest line = line
latest_after (Err why) latest line = latest
