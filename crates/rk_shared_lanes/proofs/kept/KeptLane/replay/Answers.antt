use Rattle.rk_shared_lanes.proofs.Turned.{not_spent, replay_hands, replay_passes}
use Rattle.rk_shared_lanes.proofs.kept.KeptLane.replay.Goals as goal

pub returns-then-not-is_replayed-clause-came : goal.returns-then-not-is_replayed-clause-came
returns-then-not-is_replayed-clause-came g c =
    replay_passes g.R.Replica.segments c.args.self.now c.args.number c.is_replayed.result
    (not_spent c.args.self.now c.lane.result.now c.spent.result c.lane.ensures c.spent.ensures.spent c.if-spent.false)
    c.is_replayed.ensures c.if-not-is_replayed.true

pub returns-clause-came : goal.returns-clause-came
returns-clause-came g c =
    replay_hands g.R.Replica.segments c.args.self.now c.hand.new.self c.args.number c.is_replayed.result c.hand.result c.is_replayed.ensures c.if-not-is_replayed.false
    c.hand.ensures.came
