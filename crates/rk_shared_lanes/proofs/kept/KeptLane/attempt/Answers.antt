use Rattle.rk_shared_lanes.proofs.Words.{None, refl, err_from_is_err_and}
use Rattle.rk_shared_lanes.proofs.Attempted.{attempt_said, attempt_stopped, attempt_unasked}
use Rattle.rk_shared_lanes.proofs.Turned.{never_stops, same_then}
use Rattle.rk_shared_lanes.proofs.kept.KeptLane.attempt.Goals as goal

pub returns-in-Err-clause-came : goal.returns-in-Err-clause-came
returns-in-Err-clause-came g c =
    attempt_unasked g.R.Replica.segments c.args.self.now c.ask.new.self c.args.pass.now c.ask.new.pass c.in-Err.error c.refused.result c.requires.runs
    c.in-Err.ensures.refused c.in-Err.ensures.kept c.in-Err.ensures.same c.refused.ensures.refused c.refused.ensures.memory

pub returns-in_err-hand_sent-clause-came : goal.returns-in_err-hand_sent-clause-came
returns-in_err-hand_sent-clause-came g c =
    let lost = err_from_is_err_and c.from_residual.result c.from_residual.ensures.1 in
    rw (lost.1, lost.2)
    (attempt_stopped g.R.Replica.segments c.args.self.now c.ask.new.self c.args.pass.now.session c.ask.new.pass.session c.in-Ok.seen c.in-Ok.ensures.ok
    c.hand_sent.new.self c.in_err-hand_sent.field-0.0 c.in_err-hand_sent.ensures.came)

pub returns-in_err-numbers-clause-came : goal.returns-in_err-numbers-clause-came
returns-in_err-numbers-clause-came g c =
    let lost = err_from_is_err_and c.from_residual-in_err-numbers.result c.from_residual-in_err-numbers.ensures.1 in
    rw (lost.1, lost.2) (λ worn stops. absurd (never_stops c.in_err-numbers.field-0.0 worn c.in_err-numbers.ensures.err stops))

pub returns-clause-came : goal.returns-clause-came
returns-clause-came g c =
    attempt_said g.R.Replica.segments c.args.self.now c.ask.new.self c.args.pass.now.session c.ask.new.pass.session c.in-Ok.seen c.in-Ok.ensures.ok
    c.hand_sent.new.self c.take_all.new.self c.take_all.new.pass.session c.in_ok-numbers.numbers.items c.take_all.result (c.in_ok-hand_sent.ensures.came None refl)
    c.in_ok-numbers.ensures.numbers (rw c.deref.ensures.value at c.take_all.ensures.came) c.take_all.ensures.err

pub returns-clause-lane : goal.returns-clause-lane
returns-clause-lane g c =
    same_then c.args.self.now c.hand_sent.new.self c.take_all.new.self
    (same_then c.args.self.now c.ask.new.self c.hand_sent.new.self c.ask.ensures.lane c.hand_sent.ensures.lane) c.take_all.ensures.lane
