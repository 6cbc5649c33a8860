-- A strip: lines written one behind the other into lent bytes, begun over at a reload, until the last tag of all.
--   StripSeen              all its bytes, how many hold lines of this load, the tags taken, the latest line, and
--                          whether a reload found all tags taken and closed it
--   IsStrip                what every strip keeps, its latest line being the bytes from start to end
--   fresh b                a new strip over the bytes b
--   room_for used size     the stock of an open strip: 1 while the longest line has room, else 0
--   strip_paper s          what the strip means as a printer
--   strip_worn, strip_again   the stock that a take of a line leaves, and that a reload leaves
--   written b used line    the bytes once a line stands behind the used ones; all others stay
--   strip_taken, strip_reloaded   the strip after a take, by its answer, and after a reload
use Rattle.std.specs.Prelude.{ℕ, ◌+◌, ◌≤◌, Bool, true, false, cond, List, [], ◌++◌, length, take, drop, Ok, Err, Result, nat_le, nat_lt}
use Rattle.limits.specs.Limits.{longest_line, last_tag}
use Rattle.printers.specs.Paper.{Paper}
use Rattle.printers.specs.declared.fault.PrinterFault.{PrinterFault}

pub record StripSeen : Type 0 where
  pub bytes : List ℕ
  pub used : ℕ
  pub taken : ℕ
  pub latest : List ℕ
  pub closed : Bool

pub record IsStrip (bytes : List ℕ) (used taken start end : ℕ) : Type 0 where
  pub wide : longest_line ≤ length bytes
  pub within : used ≤ length bytes
  pub few : taken ≤ last_tag + used
  pub ordered : start ≤ end
  pub inside : end ≤ length bytes

abbrev pub fresh : List ℕ → StripSeen
fresh b = record { bytes = b; used = 0; taken = 0; latest = []; closed = false }

abbrev pub room_for : ℕ → ℕ → ℕ
room_for used size = cond (nat_le (used + longest_line) size) 1 0

abbrev pub strip_left : Bool → ℕ → ℕ → ℕ
strip_left closed used size = cond closed 0 (room_for used size)

abbrev pub strip_paper : StripSeen → Paper
strip_paper s =
    record { taken = s.taken; left = strip_left s.closed s.used (length s.bytes); latest = s.latest }

abbrev pub strip_worn : StripSeen → List ℕ → ℕ
strip_worn s line = strip_left s.closed (s.used + length line) (length s.bytes)

abbrev pub strip_again : StripSeen → ℕ
strip_again s = cond (nat_lt s.taken last_tag) 1 0

abbrev pub written : List ℕ → ℕ → List ℕ → List ℕ
written b used line = take used b ++ (line ++ drop (used + length line) b)

abbrev pub strip_taken : Result (Unit {0}) PrinterFault → StripSeen → List ℕ → StripSeen
strip_taken (Ok done) s line =
    let end = s.used + length line in
    record s { bytes = written s.bytes s.used line; used = end; taken = s.taken + 1; latest = line }
strip_taken (Err why) s line = s

abbrev pub strip_reloaded : StripSeen → StripSeen
strip_reloaded s = cond (nat_lt s.taken last_tag) (record s { used = 0; closed = false }) (record s { closed = true })
