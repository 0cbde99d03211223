use Rattle.rk_shared_lanes.proofs.Words.{◌≡◌, Bool, true, ℕ, not, ap, subst, ◌∙◌, accept, Session, MayAct, LaneState, IsVisitOf, is_answer}
use Rattle.rk_shared_lanes.proofs.Words.{PassState}
use Rattle.std.proofs.Common.{◌&&◌}
use Rattle.rk_shared_lanes.proofs.Accepting.{client_same, kept_accepted, pass_accepted}
use Rattle.rk_shared_lanes.proofs.kept.KeptLane.accept.Goals as goal

pub invariant_of-self-2 : goal.invariant_of-self-2
invariant_of-self-2 g c = (
  c.self.invariant.0,
  kept_accepted g.R.Replica.segments g.R.Replica.faults g.N.Roster.tells g.N.Roster.masters g.N.Roster.backups g.N.Roster.clients g.N.Roster.counts c.self.inside.lane c.accept.new.self c.accept.ensures.lane c.args.number
      (record { session = c.pass.inside.session; counted = c.pass.inside.counted }) c.accept.new.session c.in_ok-seen.seen c.in_ok-seen.ensures.ok c.pass.invariant.may
      (c.self.inside.accepted.parts, c.self.inside.accepted.amount) (c.self.inside.asked.parts, c.self.inside.asked.amount) (c.self.inside.number.parts, c.self.inside.number.amount) c.self.invariant.1
      (c.count_answered.new.accepted.parts, c.count_answered.new.accepted.amount) c.count_answered.ensures.accepted.0 c.count_answered.ensures.accepted.1,
)

pub invariant_of-pass-2 : goal.invariant_of-pass-2
invariant_of-pass-2 g c =
    let counted : c.pass.inside.counted ≡ true = ap (λ (pass : PassState). pass.counted) c.pass.view_is ∙ c.requires in
    pass_accepted g.R.Replica.segments g.R.Replica.faults g.N.Roster.tells g.N.Roster.masters g.N.Roster.backups g.N.Roster.clients g.N.Roster.counts c.self.inside.lane c.accept.new.self c.accept.ensures.lane c.args.number
    (record { session = c.pass.inside.session; counted = c.pass.inside.counted }) c.accept.new.session c.in_ok-seen.seen c.in_ok-seen.ensures.ok c.pass.invariant.may
    (c.self.inside.accepted.parts, c.self.inside.accepted.amount) (c.self.inside.asked.parts, c.self.inside.asked.amount) (c.self.inside.number.parts, c.self.inside.number.amount) c.self.invariant.1
    g.N.Roster.makes (c.pass.inside.got.parts, c.pass.inside.got.amount) (c.pass.inside.made.parts, c.pass.inside.made.amount) (c.count_answered.new.got.parts, c.count_answered.new.got.amount)
    c.count_answered.new.counted c.pass.invariant counted
    (subst (λ (count : ℕ). MayAct count c.accept.new.session) (c.accept.ensures.lane.masters ∙ c.self.invariant.1.masters_are) c.in_ok-seen.ensures.acts)
    c.count_answered.ensures.got.0 c.count_answered.ensures.got.1
    (c.count_answered.ensures.counted ∙ ap (λ (b : Bool). b && not (is_answer c.in_ok-seen.seen.taken)) counted)

pub returns-clause-ok : goal.returns-clause-ok
returns-clause-ok g c =
    subst (λ (session : Session). IsVisitOf (λ w. accept w c.args.number session) c.args.self.now c.accept.new.self c.accept.new.session c.in_ok-seen.seen)
    (ap (λ (pass : PassState). pass.session) c.pass.view_is)
    (subst (λ (lane : LaneState g.row.R.Denot). IsVisitOf (λ w. accept w c.args.number c.pass.inside.session) lane c.accept.new.self c.accept.new.session c.in_ok-seen.seen)
    c.self.view_is c.in_ok-seen.ensures.ok)

pub returns-clause-client : goal.returns-clause-client
returns-clause-client g c =
    client_same g.R.Replica.segments g.R.Replica.faults g.N.Roster.tells g.N.Roster.masters g.N.Roster.backups g.N.Roster.clients g.N.Roster.counts c.self.inside.lane c.accept.new.self c.accept.ensures.lane c.args.number
    (record { session = c.pass.inside.session; counted = c.pass.inside.counted }) c.accept.new.session c.in_ok-seen.seen c.in_ok-seen.ensures.ok c.pass.invariant.may
    (c.self.inside.accepted.parts, c.self.inside.accepted.amount) (c.self.inside.asked.parts, c.self.inside.asked.amount) (c.self.inside.number.parts, c.self.inside.number.amount) c.self.invariant.1
    ∙ ap (λ (pass : PassState). pass.session.client) c.pass.view_is
