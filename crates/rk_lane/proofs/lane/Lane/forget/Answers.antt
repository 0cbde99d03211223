use Rattle.rk_lane.proofs.Words.{IfOk, IfSome, ◌∙◌, sym, subst, IsStepOf, lane_of, LaneState}
use Rattle.rk_world.specs.declared.event.Event.TheVariants as events
use Rattle.rk_lane.proofs.Steps.{lane_after, not_spent, step_after, where_some}
use Rattle.rk_lane.proofs.lane.Lane.forget.Goals as goal

pub invariant_of-self : goal.invariant_of-self
invariant_of-self g c =
    lane_after g.R.Replica.segments g.R.Replica.faults c.self.inside (events.Forget c.args.number) c.lose.new.parts c.self.inside.backups c.if-self.false c.self.invariant
    c.lose.result c.self.inside.spent (c.if-self.false ∙ sym (not_spent c.lose.result c.lose.ensures.free)) c.lose.ensures.ok c.lose.ensures.err

pub returns-clause-ok : goal.returns-clause-ok
returns-clause-ok g c =
    subst
    (λ (lane : LaneState g.row.R.Denot). IfSome lane.running (λ _. IfOk c.lose.result (IsStepOf g.R.Replica.segments g.R.Replica.faults (events.Forget c.args.number) lane
    (lane_of (record c.self.inside { parts = c.lose.new.parts })))))
    c.self.view_is
    (where_some (lane_of c.self.inside).running _
    (step_after g.R.Replica.segments g.R.Replica.faults c.self.inside (events.Forget c.args.number) c.lose.new.parts c.self.inside.backups c.if-self.false c.self.invariant
    c.lose.result c.self.inside.spent (c.if-self.false ∙ sym (not_spent c.lose.result c.lose.ensures.free)) (record { may = tt; calm = tt }) c.lose.ensures.ok))
