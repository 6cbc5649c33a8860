-- What a station makes of the reader's answer at a place.
--   read_at job at    the command, or the fault as the reader tells it
--   next_at job at    where reading goes on
--   out_of_bounds     the job is too long, or the place past its end: what is refused before the buffers are looked at
use Rattle.std.specs.Prelude.{ℕ, Bool, true, cond, List, length, Result, nat_lt}
use Rattle.limits.specs.Limits.{longest_job}
use Rattle.jobgroups.specs.Commands.{CommandSeen}
use Rattle.job.specs.Reading.{answer_of, next_of}
use Rattle.job.specs.Reading.{read_at as reader_at}
use Rattle.job.specs.declared.fault.ReadFault.{ReadFault}

abbrev pub Misread : Type 0
Misread = ReadFault

abbrev pub out_of_bounds : List ℕ → ℕ → Bool
out_of_bounds job at = cond (nat_lt longest_job (length job)) true (nat_lt (length job) at)

abbrev pub read_at : List ℕ → ℕ → Result CommandSeen Misread
read_at job at = answer_of (reader_at job at)

abbrev pub next_at : List ℕ → ℕ → ℕ
next_at job at = next_of (reader_at job at)
