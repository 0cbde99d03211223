use Rattle.rk_lane.proofs.Words.{IfOk, IfSome, sym, subst, IsArrivalIn, IsStepOf, lane_of, LaneState}
use Rattle.rk_world.specs.declared.event.Event.TheVariants as events
use Rattle.rk_lane.proofs.Steps.{arrived_there, lane_after, step_after, where_some}
use Rattle.rk_lane.proofs.lane.Lane.deliver.Goals as goal

pub deliver-answer-requires-clause-there : goal.deliver-answer-requires-clause-there
deliver-answer-requires-clause-there g c =
    arrived_there c.self.inside c.args.arrival c.if-self.false
    (subst (λ (lane : LaneState g.row.R.Denot). IsArrivalIn lane c.args.arrival) (sym c.self.view_is) c.requires)

pub invariant_of-self : goal.invariant_of-self
invariant_of-self g c =
    lane_after g.R.Replica.segments g.R.Replica.faults c.self.inside (events.Deliver c.args.arrival.number) c.deliver-answer.new.parts c.deliver-answer.new.backups
    c.if-self.false c.self.invariant c.deliver-answer.result c.out_of_memory-self-inside.result c.out_of_memory-self-inside.ensures c.deliver-answer.ensures.ok
    c.deliver-answer.ensures.err

pub returns-clause-ok : goal.returns-clause-ok
returns-clause-ok g c =
    subst
    (λ (lane : LaneState g.row.R.Denot). IfSome lane.running (λ _. IfOk c.deliver-answer.result (IsStepOf g.R.Replica.segments g.R.Replica.faults (events.Deliver c.args.arrival.number) lane
    (lane_of (record c.self.inside { parts = c.deliver-answer.new.parts; backups = c.deliver-answer.new.backups; spent = c.out_of_memory-self-inside.result })))))
    c.self.view_is
    (where_some (lane_of c.self.inside).running _
    (step_after g.R.Replica.segments g.R.Replica.faults c.self.inside (events.Deliver c.args.arrival.number) c.deliver-answer.new.parts c.deliver-answer.new.backups c.if-self.false
    c.self.invariant c.deliver-answer.result c.out_of_memory-self-inside.result c.out_of_memory-self-inside.ensures (record { may = tt; calm = tt }) c.deliver-answer.ensures.ok))
