use Rattle.rk_shared_lanes.proofs.Words.{◌≡◌, true, is_some, IsSameLane, Comes, started, first_turned}
use Rattle.rk_shared_lanes.proofs.kept.KeptLane.turn_nodes.Given as goal

abbrev pub invariant-loop-index : goal.invariant-loop-index
invariant-loop-index g l = record {
  came : Comes g.R.Replica.segments l.fn.self l.self (first_turned g.R.Replica.segments l.index) started;
  runs : is_some l.self.running ≡ true;
  lane : IsSameLane l.fn.self l.self;
  end : l.index-end ≡ l.fn.self.masters;
}
