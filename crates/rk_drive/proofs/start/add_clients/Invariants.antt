use Rattle.std.proofs.Common.{[], ◌∷◌}
use Rattle.std.specs.List.{range_with_len}
use Rattle.rk_lane.specs.LaneState.{IsSameLane}
use Rattle.rk_cluster.specs.Faults.{LanesGoOn}
use Rattle.rk_shared_lanes.specs.Kept.{HasClients, IsSoundOrSpent}
use Rattle.rk_shared_lanes.specs.Together.{IsUnasked}
use Rattle.rk_drive.proofs.start.add_clients.Given as goal

abbrev pub invariant-loop-index : goal.invariant-loop-index
invariant-loop-index g l = record {
  same : IsSameLane l.fn.lane l.lane;
  unasked : IsUnasked l.lane;
  clients : HasClients (range_with_len 1 l.index) l.lane.ledger;
  counts : LanesGoOn g.R.Replica.faults [] (l.fn.lane ∷ []) (l.lane ∷ []);
  sound : IsSoundOrSpent g.R.Replica.segments l.fn.lane → IsSoundOrSpent g.R.Replica.segments l.lane;
}
