-- What a ledger in code represents.
use Rattle.rk_world.specs.Ledger.{Ledger}
use Rattle.rk_ledger.specs.declared.ledger_lane.LedgerLane.TheInside.{Inside}

-- the ledger that the fields are
abbrev pub ledger_of : Inside → Ledger
ledger_of lane = record {
  clients = lane.clients.last_calls;
  asked = lane.asked;
  requests = lane.clients.requests;
  journal = lane.journal;
  marks = lane.marks.items;
}
