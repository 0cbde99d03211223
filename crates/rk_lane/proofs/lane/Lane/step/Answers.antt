use Rattle.rk_lane.proofs.Words.{IfOk, IfSome, sym, subst, IsStepOf, MayComeTo, lane_of, LaneState}
use Rattle.rk_lane.proofs.Steps.{lane_after, may_come, step_after, where_some}
use Rattle.rk_lane.proofs.lane.Lane.step.Goals as goal

pub happen-answer-requires-clause-may : goal.happen-answer-requires-clause-may
happen-answer-requires-clause-may g c =
    may_come c.self.inside c.args.event c.if-self.false c.self.invariant
    (subst (λ (lane : LaneState g.row.R.Denot). MayComeTo lane c.args.event) (sym c.self.view_is) c.requires)

pub invariant_of-self : goal.invariant_of-self
invariant_of-self g c =
    lane_after g.R.Replica.segments g.R.Replica.faults c.self.inside c.args.event c.happen-answer.new.parts c.happen-answer.new.backups c.if-self.false c.self.invariant
    c.happen-answer.result c.out_of_memory-self-inside.result c.out_of_memory-self-inside.ensures c.happen-answer.ensures.ok c.happen-answer.ensures.err

pub returns-clause-ok : goal.returns-clause-ok
returns-clause-ok g c =
    subst
    (λ (lane : LaneState g.row.R.Denot). IfSome lane.running (λ _. IfOk c.happen-answer.result (IsStepOf g.R.Replica.segments g.R.Replica.faults c.args.event lane
    (lane_of (record c.self.inside { parts = c.happen-answer.new.parts; backups = c.happen-answer.new.backups; spent = c.out_of_memory-self-inside.result })))))
    c.self.view_is
    (where_some (lane_of c.self.inside).running _
    (step_after g.R.Replica.segments g.R.Replica.faults c.self.inside c.args.event c.happen-answer.new.parts c.happen-answer.new.backups c.if-self.false c.self.invariant
    c.happen-answer.result c.out_of_memory-self-inside.result c.out_of_memory-self-inside.ensures
    (may_come c.self.inside c.args.event c.if-self.false c.self.invariant
    (subst (λ (lane : LaneState g.row.R.Denot). MayComeTo lane c.args.event) (sym c.self.view_is) c.requires))
    c.happen-answer.ensures.ok))
