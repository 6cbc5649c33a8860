-- What the reader says of a command depends on the command's bytes alone, wherever they stand.
--   shifted s ..   the same answer, with every place moved by s
--   Whole bs       bs is one command from its ESC to its NUL, no longer than a command may be
--   ReadAlike job at r   where a whole command stands at the place, the answer r is that to the command alone, moved
--                    there
--   Anywhere       a whole command in a job, and alone in a job, gets the same answer but for the places
use Rattle.std.specs.Prelude.{◌≡◌, ℕ, ◌+◌, ◌≤◌, List, ◌++◌, map, length, Ok, Err, Result, slice_index_or}
use Rattle.limits.specs.Limits.{longest_job, longest_command}
use Rattle.jobparts.specs.Parts.{PartSeen, missing, given, linked, Got}
use Rattle.jobparts.specs.declared.part.Wrong.{Wrong}
use Rattle.jobgroups.specs.Commands.{CommandSeen}
use Rattle.job.specs.Reading.{before, read_at, answer_of}
use Rattle.job.specs.declared.fault.ReadFault.{ReadFault}

abbrev pub shift_part : ℕ → PartSeen → PartSeen
shift_part s missing = missing
shift_part s (given p bs) = given (s + p) bs
shift_part s (linked p bs) = linked (s + p) bs

abbrev pub shift_got : ℕ → Got → Got
shift_got s o = (map (shift_part s) o.0, s + o.1)

abbrev pub shift_plain : ℕ → CommandSeen → CommandSeen
shift_plain s p = record p { parts = map (shift_part s) p.parts }

abbrev pub shift_wrong : ℕ → Wrong → Wrong
shift_wrong s w = record w { place = s + w.place }

abbrev pub moved : {X : Type 0} → (X → X) → ℕ → Result X Wrong → Result X Wrong
moved f s (Ok x) = Ok (f x)
moved f s (Err w) = Err (shift_wrong s w)

abbrev pub shifted : ℕ → Result (CommandSeen × ℕ) ReadFault → Result (CommandSeen × ℕ) ReadFault
shifted s (Ok x) = Ok (shift_plain s x.0, s + x.1)
shifted s (Err e) = Err (record e { place = s + e.place; next = s + e.next })

pub record Whole (bs : List ℕ) : Type 0 where
  pub escape : slice_index_or bs 0 0 ≡ 27
  pub short : length bs ≤ longest_command
  pub ends : before 10 bs + 2 ≡ length bs
  pub closed : slice_index_or bs (before 10 bs + 1) 0 ≡ 0

abbrev pub ReadAlike : List ℕ → ℕ → Result CommandSeen ReadFault → Type 0
ReadAlike job at answer =
    (pre whole post : List ℕ) → job ≡ pre ++ (whole ++ post) → at ≡ length pre → Whole whole
    → length (pre ++ (whole ++ post)) ≤ longest_job → answer ≡ answer_of (shifted at (read_at whole 0))

abbrev pub Anywhere : Type 0
Anywhere =
    (pre whole post : List ℕ) → Whole whole → length (pre ++ (whole ++ post)) ≤ longest_job →
    read_at (pre ++ (whole ++ post)) (length pre) ≡ shifted (length pre) (read_at whole 0)
