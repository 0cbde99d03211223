use Rattle.rk_attempts.proofs.Works.{event_of}
use Rattle.rk_shared_lanes.proofs.Turned.{event_runs}
use Rattle.rk_shared_lanes.proofs.kept.KeptLane.act.Goals as goal

pub returns-clause-came : goal.returns-clause-came
returns-clause-came g c =
    event_of g.R.Replica.segments g.R.Replica.faults c.args.self.now c.step-answer.new.self c.args.event c.step-answer.result c.heard.result c.requires.runs
    c.step-answer.ensures.ok c.step-answer.ensures.refused c.heard.ensures.ok c.heard.ensures.err

pub returns-clause-runs : goal.returns-clause-runs
returns-clause-runs g c =
    event_runs g.R.Replica.segments c.args.self.now c.step-answer.new.self c.args.event c.heard.result
    (event_of g.R.Replica.segments g.R.Replica.faults c.args.self.now c.step-answer.new.self c.args.event c.step-answer.result c.heard.result c.requires.runs
    c.step-answer.ensures.ok c.step-answer.ensures.refused c.heard.ensures.ok c.heard.ensures.err)
