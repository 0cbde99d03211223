use Rattle.rk_shared_lanes.proofs.Words.{◌≡◌, ◌≤◌, ◌+◌, None, refl, ◌∙◌, arith, err_from_is_err_and}
use Rattle.rk_attempts.proofs.Works.{coordinator_turned, one_more_turned}
use Rattle.rk_shared_lanes.proofs.Turned.{all_turned, same_then, turns_stopped}
use Rattle.rk_shared_lanes.proofs.kept.KeptLane.turn_nodes.Goals as goal

pub returns-in_err-act-clause-came : goal.returns-in_err-act-clause-came
returns-in_err-act-clause-came g c =
    let lost = err_from_is_err_and c.from_residual.result c.from_residual.ensures.1 in
    let within : 0 ≤ c.args.self.now.masters = omega arith in
    rw (lost.1, lost.2)
    (turns_stopped g.R.Replica.segments c.args.self.now c.act.new.self 0 c.args.self.now.masters c.in_err-act.field-0.0 within
    (λ worn stops. coordinator_turned g.R.Replica.segments c.args.self.now c.act.new.self worn (c.in_err-act.ensures.came worn stops)))

pub loop-index-init : goal.loop-index-init
loop-index-init g c = record {
  came = coordinator_turned g.R.Replica.segments c.args.self.now c.act.new.self None (c.in_ok-act.ensures.came None refl);
  runs = c.in_ok-act.ensures.runs;
  lane = c.act.ensures.lane;
  end = c.masters-index-end.ensures ∙ c.act.ensures.lane.masters;
}

pub turn_master-requires-clause-there : goal.turn_master-requires-clause-there
turn_master-requires-clause-there g c = record {
  first = omega arith;
  last = omega (arith, c.loop-index-test.true, c.loop-index.invariant.end, c.loop-index.invariant.lane.masters);
}

pub loop-index-preserved : goal.loop-index-preserved
loop-index-preserved g c = record {
  came =
      one_more_turned g.R.Replica.segments c.args.self.now c.loop-index.self c.turn_master.new.self c.loop-index.index None c.loop-index.invariant.came
      (c.in_ok-turn_master.ensures.came None refl);
  runs = c.in_ok-turn_master.ensures.runs;
  lane = same_then c.args.self.now c.loop-index.self c.turn_master.new.self c.loop-index.invariant.lane c.turn_master.ensures.lane;
  end = c.loop-index.invariant.end;
}

pub returns-in_err-turn_master-clause-came : goal.returns-in_err-turn_master-clause-came
returns-in_err-turn_master-clause-came g c =
    let lost = err_from_is_err_and c.from_residual-in_err-turn_master.result c.from_residual-in_err-turn_master.ensures.1 in
    let within : c.loop-index.index + 1 ≤ c.args.self.now.masters = omega (arith, c.loop-index-test.true, c.loop-index.invariant.end) in
    rw (lost.1, lost.2)
    (turns_stopped g.R.Replica.segments c.args.self.now c.turn_master.new.self (c.loop-index.index + 1) c.args.self.now.masters c.in_err-turn_master.field-0.0 within
    (λ worn stops. one_more_turned g.R.Replica.segments c.args.self.now c.loop-index.self c.turn_master.new.self c.loop-index.index worn c.loop-index.invariant.came
    (c.in_err-turn_master.ensures.came worn stops)))

pub returns-in_err-turn_master-clause-lane : goal.returns-in_err-turn_master-clause-lane
returns-in_err-turn_master-clause-lane g c =
    same_then c.args.self.now c.loop-index.self c.turn_master.new.self c.loop-index.invariant.lane c.turn_master.ensures.lane

pub returns-clause-came : goal.returns-clause-came
returns-clause-came g c =
    let all : c.loop-index.index ≡ c.args.self.now.masters =
    omega (arith, c.loop-index-test.false, c.loop-index.auto.index-end, c.loop-index.invariant.end) in
    all_turned g.R.Replica.segments c.args.self.now c.loop-index.self c.loop-index.index c.args.self.now.masters all c.loop-index.invariant.came
