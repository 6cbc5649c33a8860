-- What a command asks of a station, in the station's own words.
--   Request        an action on the label, an issue of labels, the beginning or the end of saving a form, the recall
--                  of a form, emptying the store, telling the status, or a reset
--   request_of c   the request of a command as it was read
use Rattle.std.specs.Prelude.{ℕ, List}
use Rattle.jobparts.specs.Parts.{PartSeen}
use Rattle.jobgroups.specs.Commands.{CommandSeen}
use Rattle.jobgroups.specs.declared.letters.Letters.{Letters}
use Rattle.jobgroups.specs.declared.letters.Letters.TheVariants.{OfLabel, OfStation}
use Rattle.jobgroups.specs.declared.letters.StationLetters.{StationLetters}
use Rattle.jobgroups.specs.declared.letters.StationLetters.TheVariants.{Xs, Xo, Xp, Xq, J1, Ws, Wr}
use Rattle.label.specs.Actions.{Action, action_for, bytes}
use Rattle.jobvalues.specs.Meaning.{four_digit_number, two_digit_number}

pub data Request : Type 0 where
  on_label : Action → Request
  issue : ℕ → Request
  begin_saving : ℕ → Request
  end_saving : Request
  recall : ℕ → Request
  empty_store : Request
  tell_status : Request
  reset : Request

abbrev pub request_for : StationLetters → List PartSeen → Request
request_for Xs ps = issue (four_digit_number (bytes 0 ps))
request_for Xo ps = begin_saving (two_digit_number (bytes 0 ps))
request_for Xp ps = end_saving
request_for Xq ps = recall (two_digit_number (bytes 0 ps))
request_for J1 ps = empty_store
request_for Ws ps = tell_status
request_for Wr ps = reset

abbrev pub request_by : Letters → List PartSeen → Request
request_by (OfLabel l) ps = on_label (action_for l ps)
request_by (OfStation l) ps = request_for l ps

abbrev pub request_of : CommandSeen → Request
request_of c = request_by c.letters c.parts
