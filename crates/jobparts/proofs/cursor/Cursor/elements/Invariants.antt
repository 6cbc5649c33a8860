use Rattle.std.proofs.Common.{◌≡◌, ◌-◌}
use Rattle.jobparts.specs.Items.{list_at}
use Rattle.jobparts.proofs.Listing.{behind}
use Rattle.jobparts.proofs.cursor.Cursor.elements.Given as goal

abbrev pub invariant-loop : goal.invariant-loop
invariant-loop l =
    (list_at l.list l.further l.fn.self.body.now l.fn.self.at
    ≡ behind l.list (l.further - l.counter) l.self.body.now l.self.at) × (l.self.body ≡ l.fn.self.body)
