use Rattle.std.proofs.lemmas.Result.{err_from_is_err_and}
use Rattle.rk_shared_lanes.proofs.Turned.{ends_well, same_then, turn_handed, turn_stopped}
use Rattle.rk_shared_lanes.proofs.kept.KeptLane.turn.Goals as goal

pub returns-in_err-turn_nodes-clause-came : goal.returns-in_err-turn_nodes-clause-came
returns-in_err-turn_nodes-clause-came g c =
    let lost = err_from_is_err_and c.from_residual.result c.from_residual.ensures.1 in
    rw (lost.1, lost.2)
    (turn_stopped g.R.Replica.segments c.args.self.now c.lane.result.now c.turn_nodes.new.self c.in_err-turn_nodes.field-0.0 c.lane.ensures c.spent.ensures.masters
    c.in_err-turn_nodes.ensures.came)

pub returns-in_err-hand_out-clause-came : goal.returns-in_err-hand_out-clause-came
returns-in_err-hand_out-clause-came g c =
    let lost = err_from_is_err_and c.from_residual-in_err-hand_out.result c.from_residual-in_err-hand_out.ensures.1 in
    rw (lost.1, lost.2)
    (λ worn stops. turn_handed g.R.Replica.segments c.args.self.now c.lane.result.now c.turn_nodes.new.self c.hand_out.new.self worn c.lane.ensures c.spent.ensures.masters
    c.in_ok-turn_nodes.ensures.came (c.in_err-hand_out.ensures.came worn stops))

pub returns-in_err-hand_out-clause-lane : goal.returns-in_err-hand_out-clause-lane
returns-in_err-hand_out-clause-lane g c = same_then c.args.self.now c.turn_nodes.new.self c.hand_out.new.self c.turn_nodes.ensures.lane c.hand_out.ensures.lane

pub returns-clause-came : goal.returns-clause-came
returns-clause-came g c =
    λ worn ends. turn_handed g.R.Replica.segments c.args.self.now c.lane.result.now c.turn_nodes.new.self c.hand_out.new.self worn c.lane.ensures c.spent.ensures.masters
    c.in_ok-turn_nodes.ensures.came (c.in_ok-hand_out.ensures.came worn (ends_well c.numbers_of.result c.numbers_of.ensures.err worn ends))

pub returns-clause-left : goal.returns-clause-left
returns-clause-left g c = c.numbers_of.ensures.numbers

pub returns-clause-lane : goal.returns-clause-lane
returns-clause-lane g c = same_then c.args.self.now c.turn_nodes.new.self c.hand_out.new.self c.turn_nodes.ensures.lane c.hand_out.ensures.lane
