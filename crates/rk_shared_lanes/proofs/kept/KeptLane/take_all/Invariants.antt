use Rattle.rk_shared_lanes.proofs.Words.{◌≡◌, true, is_some, IsSameLane}
use Rattle.rk_attempts.proofs.Attempting.{IsTaking}
use Rattle.rk_shared_lanes.proofs.kept.KeptLane.take_all.Given as goal

abbrev pub invariant-loop-number : goal.invariant-loop-number
invariant-loop-number g l = record {
  taking : IsTaking g.R.Replica.segments l.fn.self l.self l.fn.pass.session l.pass.session l.numbers l.number-index;
  counted : l.pass.counted ≡ true;
  runs : is_some l.self.running ≡ true;
  client : l.pass.session.client ≡ l.fn.pass.session.client;
  lane : IsSameLane l.fn.self l.self;
}
