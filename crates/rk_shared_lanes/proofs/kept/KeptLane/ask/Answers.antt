use Rattle.rk_shared_lanes.proofs.Words.{Bool, ℕ, sym, ap, subst, ◌∙◌, MayAct, IsPass, PassState}
use Rattle.rk_shared_lanes.proofs.Asking.{counted_here, kept_asked, pass_asked, pass_kept, session_same, suits_in, turned_or_not}
use Rattle.rk_shared_lanes.proofs.kept.KeptLane.ask.Goals as goal

pub invariant_of-pass : goal.invariant_of-pass
invariant_of-pass g c =
    let pass : PassState = record { session = c.pass.inside.session; counted = c.pass.inside.counted } in
    pass_kept g.N.Roster.tells g.N.Roster.masters g.N.Roster.makes pass c.ask.new.session (turned_or_not c.pass.inside.session c.ask.new.session c.in_err-seen.ensures.turned)
    (subst (λ (count : ℕ). MayAct count c.ask.new.session) (c.ask.ensures.lane.masters ∙ c.self.invariant.1.masters_are) c.in_err-seen.ensures.acts)
    (c.pass.inside.got.parts, c.pass.inside.got.amount) (c.pass.inside.made.parts, c.pass.inside.made.amount) c.pass.invariant

pub invariant_of-self-2 : goal.invariant_of-self-2
invariant_of-self-2 g c =
    let pass : PassState = record { session = c.pass.inside.session; counted = c.pass.inside.counted } in
    let suits = suits_in c.self.inside.lane c.args.self.now pass c.args.pass.now c.in_ok-seen.ensures.ok.before c.self.view_is c.pass.view_is c.in_ok-seen.ensures.ok.was c.requires.suits in (
      c.self.invariant.0,
      kept_asked g.R.Replica.segments g.R.Replica.faults g.N.Roster.tells g.N.Roster.masters g.N.Roster.backups g.N.Roster.clients g.N.Roster.counts c.self.inside.lane c.ask.new.self c.ask.ensures.lane pass c.ask.new.session c.in_ok-seen.seen
          c.in_ok-seen.ensures.ok suits
          (c.self.inside.accepted.parts, c.self.inside.accepted.amount) (c.self.inside.asked.parts, c.self.inside.asked.amount) (c.self.inside.number.parts, c.self.inside.number.amount)
          (c.count_asked.new.asked.parts, c.count_asked.new.asked.amount) c.pass.invariant.may c.self.invariant.1 c.count_asked.ensures.asked.0 c.count_asked.ensures.asked.1,
    )

pub invariant_of-pass-2 : goal.invariant_of-pass-2
invariant_of-pass-2 g c =
    let pass : PassState = record { session = c.pass.inside.session; counted = c.pass.inside.counted } in
    let suits = suits_in c.self.inside.lane c.args.self.now pass c.args.pass.now c.in_ok-seen.ensures.ok.before c.self.view_is c.pass.view_is c.in_ok-seen.ensures.ok.was c.requires.suits in
    subst (λ (counted : Bool). IsPass g.N.Roster.tells g.N.Roster.masters g.N.Roster.makes (record { session = c.ask.new.session; counted = counted }) (c.pass.inside.got.parts, c.pass.inside.got.amount)
    (c.count_asked.new.made.parts, c.count_asked.new.made.amount)) (sym c.count_asked.ensures.counted)
    (pass_asked g.N.Roster.tells g.N.Roster.masters g.N.Roster.makes pass c.ask.new.session
    (session_same g.R.Replica.segments g.R.Replica.faults g.N.Roster.tells g.N.Roster.masters g.N.Roster.backups g.N.Roster.clients g.N.Roster.counts c.self.inside.lane c.ask.new.self c.ask.ensures.lane pass c.ask.new.session c.in_ok-seen.seen
    c.in_ok-seen.ensures.ok suits)
    (subst (λ (count : ℕ). MayAct count c.ask.new.session) (c.ask.ensures.lane.masters ∙ c.self.invariant.1.masters_are) c.in_ok-seen.ensures.acts)
    (c.pass.inside.got.parts, c.pass.inside.got.amount) (c.pass.inside.made.parts, c.pass.inside.made.amount) (c.count_asked.new.made.parts, c.count_asked.new.made.amount)
    c.pass.invariant c.count_asked.ensures.made.0 c.count_asked.ensures.made.1
    (counted_here g.R.Replica.segments g.R.Replica.faults g.N.Roster.tells g.N.Roster.masters g.N.Roster.backups g.N.Roster.clients g.N.Roster.counts c.self.inside.lane c.ask.new.self c.ask.ensures.lane pass c.ask.new.session c.in_ok-seen.seen
    c.in_ok-seen.ensures.ok suits).pending)

pub returns-clause-client : goal.returns-clause-client
returns-clause-client g c =
    let pass : PassState = record { session = c.pass.inside.session; counted = c.pass.inside.counted } in
    let suits = suits_in c.self.inside.lane c.args.self.now pass c.args.pass.now c.in_ok-seen.ensures.ok.before c.self.view_is c.pass.view_is c.in_ok-seen.ensures.ok.was c.requires.suits in
    (session_same g.R.Replica.segments g.R.Replica.faults g.N.Roster.tells g.N.Roster.masters g.N.Roster.backups g.N.Roster.clients g.N.Roster.counts c.self.inside.lane c.ask.new.self c.ask.ensures.lane pass c.ask.new.session c.in_ok-seen.seen
    c.in_ok-seen.ensures.ok suits).client
    ∙ ap (λ (it : PassState). it.session.client) c.pass.view_is
