use Rattle.rk_shared_lanes.proofs.Turned.{crashed_passes, living_turns}
use Rattle.rk_shared_lanes.proofs.kept.KeptLane.turn_master.Goals as goal

pub returns-then-crashed-clause-came : goal.returns-then-crashed-clause-came
returns-then-crashed-clause-came g c =
    crashed_passes g.R.Replica.segments c.args.self.now c.lane.result.now c.args.master c.crashed.result c.requires.runs c.lane.ensures c.crashed.ensures c.if-crashed.true

pub returns-clause-came : goal.returns-clause-came
returns-clause-came g c =
    living_turns g.R.Replica.segments c.args.self.now c.lane.result.now c.act.new.self c.args.master c.crashed.result c.act.result c.lane.ensures c.crashed.ensures
    c.if-crashed.false c.act.ensures.came
