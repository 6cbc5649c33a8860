-- Faults without a place.
--   unplaced r    the fault of a call that reads no command: no form, and places 0
use Rattle.faults.specs.declared.Refusal.{Refusal}
use Rattle.faults.specs.declared.Fault.{Fault}

abbrev pub unplaced : Refusal → Fault
unplaced r = record { refusal = r; form = 0; place = 0; next = 0 }
