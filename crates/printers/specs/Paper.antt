-- What a printer means, and what a take and a reload do to it.
--   Paper                  the tags taken since making, the stock left, and the latest line, empty before any tag
--   unused n               a new printer with a stock of n
--   take_answer            what a take answers, by the line's length: a line is accepted exactly when it has 1 to 1,354
--                          bytes and stock is left
--   with_tag p line left   the paper after one more tag, whose line is the latest, with this stock left
--   after_take, reloaded   the paper after a take and after a reload, the stock left being given
--   Stocked                what a printer's stock keeps: worn line is what a take of line leaves, again what a reload
--                          leaves
use Rattle.std.specs.Prelude.{◌≡◌, ℕ, ◌+◌, ◌<◌, ◌≤◌, cond, List, [], Ok, Err, Result, nat_le}
use Rattle.limits.specs.Bytes.{between}
use Rattle.limits.specs.Limits.{longest_line, last_tag}
use Rattle.printers.specs.declared.fault.PrinterFault.{PrinterFault}
use Rattle.printers.specs.declared.fault.PrinterFault.TheVariants.{OutOfStock}

pub record Paper : Type 0 where
  pub taken : ℕ
  pub left : ℕ
  pub latest : List ℕ

abbrev pub unused : ℕ → Paper
unused n = record { taken = 0; left = n; latest = [] }

abbrev pub take_answer : Paper → ℕ → Result (Unit {0}) PrinterFault
take_answer p long =
    cond (between 1 longest_line long) (cond (nat_le 1 p.left) (Ok tt) (Err OutOfStock))
    (Err OutOfStock)

abbrev pub with_tag : Paper → List ℕ → ℕ → Paper
with_tag p line left = record { taken = p.taken + 1; left = left; latest = line }

-- a refused take leaves the paper as it was
abbrev pub after_take : Result (Unit {0}) PrinterFault → Paper → List ℕ → ℕ → Paper
after_take (Ok done) p line left = with_tag p line left
after_take (Err why) p line left = p

abbrev pub reloaded : Paper → ℕ → Paper
reloaded p left = record p { left = left }

pub record Stocked (p : Paper) (left_after_take : List ℕ → ℕ) (left_after_reload : ℕ) : Type 0 where
  pub falls : (line : List ℕ) → p.left ≤ left_after_take line + 1
  pub loaded : p.taken < last_tag → 1 ≤ left_after_reload
  pub spent : last_tag ≤ p.taken → left_after_reload ≡ 0
