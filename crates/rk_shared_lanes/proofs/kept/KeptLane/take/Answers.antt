use Rattle.std.proofs.Common.{ap, is_some}
use Rattle.rk_shared_lanes.proofs.Attempted.{accepted, accepted_runs, forgotten, still_counted, take_said}
use Rattle.rk_shared_lanes.proofs.Turned.{same_then}
use Rattle.rk_shared_lanes.proofs.kept.KeptLane.take.Goals as goal

pub act-requires-clause-runs : goal.act-requires-clause-runs
act-requires-clause-runs g c =
    accepted_runs g.R.Replica.segments c.args.self.now c.accept.new.self c.args.pass.now c.accept.new.pass c.args.number c.accept.result c.requires.runs
    c.accept.ensures.ok c.accept.ensures.kept

pub returns-clause-came : goal.returns-clause-came
returns-clause-came g c =
    take_said g.R.Replica.segments c.args.self.now c.accept.new.self c.act.new.self c.args.pass.now.session c.accept.new.pass.session c.args.number c.in_ok-taken.taken c.said_by.result
    (accepted g.R.Replica.segments c.args.self.now c.accept.new.self c.args.pass.now c.accept.new.pass c.args.number c.accept.result c.in_ok-taken.taken c.requires.runs
    c.accept.ensures.ok c.accept.ensures.refused c.accept.ensures.kept c.accept.ensures.same c.in_ok-taken.ensures.taken c.in_ok-taken.ensures.none)
    (forgotten g.R.Replica.segments c.accept.new.self c.act.new.self c.args.number c.act.result c.act.ensures.came c.in_ok-unless_worn.ensures.ok)
    c.said_by.ensures

pub returns-clause-counted : goal.returns-clause-counted
returns-clause-counted g c =
    still_counted c.accept.result c.args.pass.now c.accept.new.pass c.in_ok-taken.taken c.said_by.result c.requires.counted c.accept.ensures.counted c.accept.ensures.same
    c.in_ok-taken.ensures.taken c.said_by.ensures

pub returns-clause-runs : goal.returns-clause-runs
returns-clause-runs g c =
    ap is_some
    (forgotten g.R.Replica.segments c.accept.new.self c.act.new.self c.args.number c.act.result c.act.ensures.came c.in_ok-unless_worn.ensures.ok).1.comes.is

pub returns-clause-lane : goal.returns-clause-lane
returns-clause-lane g c = same_then c.args.self.now c.accept.new.self c.act.new.self c.accept.ensures.lane c.act.ensures.lane

pub returns-in_err-unless_worn-clause-lane : goal.returns-in_err-unless_worn-clause-lane
returns-in_err-unless_worn-clause-lane g c = same_then c.args.self.now c.accept.new.self c.act.new.self c.accept.ensures.lane c.act.ensures.lane
