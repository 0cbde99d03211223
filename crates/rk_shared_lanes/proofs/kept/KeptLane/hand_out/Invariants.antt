use Rattle.rk_shared_lanes.proofs.Words.{◌≡◌, true, None, is_some, IsSameLane, IsHandingOut}
use Rattle.rk_shared_lanes.proofs.kept.KeptLane.hand_out.Given as goal

abbrev pub invariant-messages : goal.invariant-messages
invariant-messages g l = record {
  out : IsHandingOut g.R.Replica.segments l.fn.self l.self None;
  runs : is_some l.self.running ≡ true;
  lane : IsSameLane l.fn.self l.self;
}
