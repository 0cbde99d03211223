use Rattle.rk_lane.proofs.Words.{sym, subst, IfOk-weaker, MayAct, lane_of, IsSameLane, LaneState, IsVisitOf}
use Rattle.rk_world.specs.Calls as calls
use Rattle.rk_lane.proofs.Acting.{acts_there, acts_by_answer}
use Rattle.rk_lane.proofs.LaneVisits.{same_by_visit, visit_in_lane}
use Rattle.rk_lane.proofs.lane.Lane.accept.Goals as goal

pub accept-requires-clause-may : goal.accept-requires-clause-may
accept-requires-clause-may g c =
    acts_there c.self.inside.parts c.args.session.now (c.self.invariant.kept c.if-self.false)
    (subst (λ (lane : LaneState g.row.R.Denot). MayAct lane.masters c.args.session.now) (sym c.self.view_is) c.requires)

pub returns-clause-acts : goal.returns-clause-acts
returns-clause-acts g c =
    acts_by_answer c.self.inside.parts c.accept.new.parts c.args.number c.args.session.now c.accept.new.session c.accept.result (c.self.invariant.kept c.if-self.false)
    (subst (λ (lane : LaneState g.row.R.Denot). MayAct lane.masters c.args.session.now) (sym c.self.view_is) c.requires)
    c.accept.ensures.ok c.accept.ensures.parts c.accept.ensures.session

pub returns-clause-ok : goal.returns-clause-ok
returns-clause-ok g c =
    IfOk-weaker c.accept.result _ _
    (λ seen visited.
    subst (λ lane. IsVisitOf (λ w. calls.accept w c.args.number c.args.session.now) lane (lane_of (record c.self.inside { parts = c.accept.new.parts })) c.accept.new.session seen)
    c.self.view_is
    (visit_in_lane (λ w. calls.accept w c.args.number c.args.session.now) c.self.inside c.accept.new.parts c.accept.new.session seen c.if-self.false c.self.invariant.count visited))
    c.accept.ensures.ok

pub returns-clause-lane : goal.returns-clause-lane
returns-clause-lane g c =
    subst (λ lane. IsSameLane lane (lane_of (record c.self.inside { parts = c.accept.new.parts }))) c.self.view_is
    (same_by_visit (λ w. calls.accept w c.args.number c.args.session.now) c.self.inside c.accept.new.parts c.accept.new.session c.accept.result c.accept.ensures.ok c.accept.ensures.parts)
