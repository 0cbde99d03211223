use Rattle.rk_shared_lanes.proofs.Words.{None, refl, err_from_is_err_and}
use Rattle.rk_attempts.proofs.Works.{handed_both}
use Rattle.rk_shared_lanes.proofs.Turned.{hand_stopped, same_then}
use Rattle.rk_shared_lanes.proofs.kept.KeptLane.hand.Goals as goal

pub returns-in_err-act-clause-came : goal.returns-in_err-act-clause-came
returns-in_err-act-clause-came g c =
    let lost = err_from_is_err_and c.from_residual.result c.from_residual.ensures.1 in
    rw (lost.1, lost.2)
    (hand_stopped g.R.Replica.segments c.args.self.now c.act.new.self c.args.number c.in_err-act.field-0.0 c.in_err-act.ensures.came)

pub returns-clause-came : goal.returns-clause-came
returns-clause-came g c =
    λ worn ends. handed_both g.R.Replica.segments c.args.self.now c.act.new.self c.act-2.new.self c.args.number worn
    (c.in_ok-act.ensures.came None refl) (c.act-2.ensures.came worn ends)

pub returns-clause-lane : goal.returns-clause-lane
returns-clause-lane g c = same_then c.args.self.now c.act.new.self c.act-2.new.self c.act.ensures.lane c.act-2.ensures.lane
