use Rattle.rk_lane.proofs.Words.{sym, subst, IfOk-weaker, MayAct, lane_of, IsSameLane, LaneState, IsVisitOf}
use Rattle.rk_world.specs.Calls as calls
use Rattle.rk_lane.proofs.Acting.{acts_there, acts_by_turn}
use Rattle.rk_lane.proofs.LaneVisits.{same_by_visit, visit_in_lane}
use Rattle.rk_lane.proofs.lane.Lane.ask.Goals as goal

pub ask-requires-clause-may : goal.ask-requires-clause-may
ask-requires-clause-may g c =
    acts_there c.self.inside.parts c.args.session.now (c.self.invariant.kept c.if-self.false)
    (subst (λ (lane : LaneState g.row.R.Denot). MayAct lane.masters c.args.session.now) (sym c.self.view_is) c.requires)

pub returns-clause-acts : goal.returns-clause-acts
returns-clause-acts g c =
    acts_by_turn c.self.inside.parts c.ask.new.parts c.args.session.now c.ask.new.session c.ask.result (c.self.invariant.kept c.if-self.false)
    (subst (λ (lane : LaneState g.row.R.Denot). MayAct lane.masters c.args.session.now) (sym c.self.view_is) c.requires)
    c.ask.ensures.ok c.ask.ensures.parts c.ask.ensures.turned

pub returns-clause-ok : goal.returns-clause-ok
returns-clause-ok g c =
    IfOk-weaker c.ask.result _ _
    (λ seen visited.
    subst (λ lane. IsVisitOf (λ w. calls.ask w c.args.session.now) lane (lane_of (record c.self.inside { parts = c.ask.new.parts })) c.ask.new.session seen)
    c.self.view_is
    (visit_in_lane (λ w. calls.ask w c.args.session.now) c.self.inside c.ask.new.parts c.ask.new.session seen c.if-self.false c.self.invariant.count visited))
    c.ask.ensures.ok

pub returns-clause-lane : goal.returns-clause-lane
returns-clause-lane g c =
    subst (λ lane. IsSameLane lane (lane_of (record c.self.inside { parts = c.ask.new.parts }))) c.self.view_is
    (same_by_visit (λ w. calls.ask w c.args.session.now) c.self.inside c.ask.new.parts c.ask.new.session c.ask.result c.ask.ensures.ok c.ask.ensures.parts)
