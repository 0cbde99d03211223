use Rattle.rk_lane.proofs.Words.{sym, subst, IfOk-weaker, MayAct, IsArrivalIn, lane_of, IsSameLane, LaneState, IsVisitOf}
use Rattle.rk_world.specs.Calls as calls
use Rattle.rk_lane.proofs.Acting.{acts_there, acts_by_answer}
use Rattle.rk_lane.proofs.LaneVisits.{same_by_visit, visit_in_lane}
use Rattle.rk_lane.proofs.Steps.{arrived_there}
use Rattle.rk_lane.proofs.lane.Lane.take.Goals as goal

pub take-requires-clause-may : goal.take-requires-clause-may
take-requires-clause-may g c =
    acts_there c.self.inside.parts c.args.session.now (c.self.invariant.kept c.if-self.false)
    (subst (λ (lane : LaneState g.row.R.Denot). MayAct lane.masters c.args.session.now) (sym c.self.view_is) c.requires.acts)

pub take-requires-clause-there : goal.take-requires-clause-there
take-requires-clause-there g c =
    arrived_there c.self.inside c.args.arrival c.if-self.false
    (subst (λ (lane : LaneState g.row.R.Denot). IsArrivalIn lane c.args.arrival) (sym c.self.view_is) c.requires.arrives)

pub returns-clause-acts : goal.returns-clause-acts
returns-clause-acts g c =
    acts_by_answer c.self.inside.parts c.take.new.parts c.args.arrival.number c.args.session.now c.take.new.session c.take.result (c.self.invariant.kept c.if-self.false)
    (subst (λ (lane : LaneState g.row.R.Denot). MayAct lane.masters c.args.session.now) (sym c.self.view_is) c.requires.acts)
    c.take.ensures.ok c.take.ensures.parts c.take.ensures.session

pub returns-clause-ok : goal.returns-clause-ok
returns-clause-ok g c =
    IfOk-weaker c.take.result _ _
    (λ seen visited.
    subst (λ lane. IsVisitOf (λ w. calls.accept w c.args.arrival.number c.args.session.now) lane (lane_of (record c.self.inside { parts = c.take.new.parts })) c.take.new.session seen)
    c.self.view_is
    (visit_in_lane (λ w. calls.accept w c.args.arrival.number c.args.session.now) c.self.inside c.take.new.parts c.take.new.session seen c.if-self.false c.self.invariant.count visited))
    c.take.ensures.ok

pub returns-clause-lane : goal.returns-clause-lane
returns-clause-lane g c =
    subst (λ lane. IsSameLane lane (lane_of (record c.self.inside { parts = c.take.new.parts }))) c.self.view_is
    (same_by_visit (λ w. calls.accept w c.args.arrival.number c.args.session.now) c.self.inside c.take.new.parts c.take.new.session c.take.result c.take.ensures.ok c.take.ensures.parts)
