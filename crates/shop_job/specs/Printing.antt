-- What a job prints on a new station.
--   at_start stock answer work   the moment before the job: a newly made station with an empty packed store, an
--                     unused printer with so much stock, and the plain and the Code 128 rule; and these bytes in
--                     the two buffers
--   Prints stock job answer work n answer' work'   the job, done from there, prints n tags and leaves these bytes
--                     in the buffers
--   Told job answer work n answer' work'   with an unused roll the job prints so, by calls of which the promise
--                     about every tag speaks. With no stock does it print otherwise, nor any line on the way:
--                     neither on a roll of any size nor on any other unused printer; nor with other buffers that
--                     are long enough, whatever they hold: the same count, the same lines, and the same fronts
--                     written into them. A job that is too long and buffers that are too short print nothing, and
--                     nothing is written
use Rattle.std.specs.Prelude.{◌≡◌, ℕ, true, List}
use Rattle.texts.specs.Wheels.{Wheels}
use Rattle.texts.specs.Digits.{digit_wheels, plain_place, code128_place}
use Rattle.stores.specs.Forms.{Forms, vacant}
use Rattle.stores.specs.Packed.{packed_longest, packed_total}
use Rattle.printers.specs.Paper.{unused}
use Rattle.station.specs.Views.{View, made}
use Rattle.jobrun.specs.Stages.{Moment, moment}
use Rattle.jobrun.specs.Jobs.{Worked, tags_in}
use Rattle.jobrun.specs.Calls.{Booked}
use Rattle.jobrun.specs.Outcomes.{SameFront, AsLong, InStep, cannot_begin}
use Rattle.jobrun.specs.declared.stage.Stage.{Stage}
use Rattle.shop_job.specs.declared.running.TheConstants.{ROLL}

-- the tags of a roll
abbrev pub roll_tags : ℕ
roll_tags = ROLL

abbrev pub new_store : Forms
new_store = vacant packed_longest packed_total

abbrev pub plain : Wheels
plain = digit_wheels plain_place

abbrev pub code128 : Wheels
code128 = digit_wheels code128_place

abbrev pub new_station : ℕ → View
new_station stock = made new_store (unused stock) plain code128

abbrev pub at_start : ℕ → List ℕ → List ℕ → Moment
at_start stock answer work = moment (new_station stock) answer work

pub record Prints (stock : ℕ) (job answer work : List ℕ) (tags : ℕ) (answer' work' : List ℕ) : Type 0 where
  pub stages : List Stage
  pub final : View
  pub counted : tags ≡ tags_in stages
  pub worked : Worked job (at_start stock answer work) stages (record { view = final; answer = answer'; work = work' })

pub record Told (job answer work : List ℕ) (tags : ℕ) (answer' work' : List ℕ) : Type 0 where
  pub prints : Prints roll_tags job answer work tags answer' work'
  pub booked : Booked (new_station roll_tags) job answer work prints.stages prints.worked.last
      (moment prints.final answer' work')
  pub only : (stock n : ℕ) (a w a' w' : List ℕ) →
      AsLong (at_start stock a w) (at_start roll_tags answer work) → Prints stock job a w n a' w'
      → (n ≡ tags) × SameFront a a' answer answer' × SameFront w w' work work'
  pub lines : (stock : ℕ) (a w : List ℕ) → AsLong (at_start stock a w) (at_start roll_tags answer work) →
      InStep job (at_start stock a w) (at_start roll_tags answer work)
  pub nothing : cannot_begin job (at_start roll_tags answer work) ≡ true →
      (tags ≡ 0) × (answer' ≡ answer) × (work' ≡ work)
