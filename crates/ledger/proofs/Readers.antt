-- What a law over runs takes from the reader of commands.
--   Whole w c    the bytes w are one whole command, and nothing more, that reads as c
--   Reader       a command reads alike wherever it stands: what it asks hangs on its own bytes alone
use Rattle.std.proofs.Common.{◌≡◌, ℕ, ◌+◌, ◌<◌, ◌≤◌, List, ◌++◌, length, Ok}
use Rattle.limits.specs.Limits.{longest_job}
use Rattle.jobgroups.specs.Commands.{CommandSeen}
use Rattle.station.specs.Reads.{read_at, next_at}
use Rattle.station.specs.Requests.{request_of}
use Rattle.station.specs.Steps.{whole_at}

pub record Whole (w : List ℕ) (c : CommandSeen) : Type 0 where
  pub reads : read_at w 0 ≡ Ok c
  pub ends : next_at w 0 ≡ length w

-- the command at a place of a job reads as d, asks what c asks, and has so many bytes
pub record Located (job : List ℕ) (at : ℕ) (c : CommandSeen) (long : ℕ) (d : CommandSeen) : Type 0 where
  pub reads : read_at job at ≡ Ok d
  pub asks : request_of d ≡ request_of c
  pub ends : next_at job at ≡ at + long

-- the bytes of the command c at a place of a job, taken for themselves, are a whole command d that asks the same
pub record Cut (job : List ℕ) (at : ℕ) (c d : CommandSeen) : Type 0 where
  pub whole : Whole (whole_at job at) d
  pub asks : request_of d ≡ request_of c
  pub some : at < next_at job at

pub record Reader : Type 0 where
  pub located : (before w behind : List ℕ) (c : CommandSeen) → Whole w c
      → length (before ++ (w ++ behind)) ≤ longest_job
      → (d : CommandSeen) × Located (before ++ (w ++ behind)) (length before) c (length w) d
  pub cut : (job : List ℕ) (at : ℕ) (c : CommandSeen) → read_at job at ≡ Ok c → (d : CommandSeen) × Cut job at c d
