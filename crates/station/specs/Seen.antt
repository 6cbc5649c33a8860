-- seen: what can be seen of a station, by the meanings of its store, its printer and its rules.
-- parts_of: what it is made of, as it is now.
use Rattle.stores.specs.declared.store.FormStore.{Ghosts as StoreGhosts}
use Rattle.printers.specs.declared.printer.Printer.{Ghosts as PrinterGhosts}
use Rattle.texts.specs.declared.rule.CountingRule.{Ghosts as RuleGhosts}
use Rattle.label.specs.Labels.{seen_label}
use Rattle.station.specs.Drafts.{drafts}
use Rattle.station.specs.Views.{ModeSeen, idle, saving, owing, View}
use Rattle.station.specs.declared.mode.Mode.{Mode}
use Rattle.station.specs.declared.mode.Mode.TheVariants.{Idle, Saving, Owing}
use Rattle.station.specs.declared.state.Parts.{Parts}
use Rattle.station.specs.declared.state.Station.{Station}

abbrev pub seen_mode : Mode → ModeSeen
seen_mode Idle = idle
seen_mode (Saving d) = saving d.number (drafts d)
seen_mode (Owing i) = owing i.left i.size

abbrev pub seen : {S P R Q : Type 0} → StoreGhosts S → PrinterGhosts P → RuleGhosts R → RuleGhosts Q
    → Station S P R Q → View
seen store printer first second s =
    record {
      forms = store.forms s.store;
      paper = printer.paper s.printer;
      first = first.wheels s.first;
      second = second.wheels s.second;
      label = seen_label s.label;
      mode = seen_mode s.mode;
      ordered = s.ordered;
    }

abbrev pub parts_of : {S P R Q : Type 0} → Station S P R Q → Parts S P R Q
parts_of s = record { store = s.store; printer = s.printer; first = s.first; second = s.second }
