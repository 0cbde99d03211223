use Rattle.rk_shared_lanes.proofs.Words.{◌≡◌, ℕ, Err, Some, sym, subst, next_call, IsLawfulCall, PassState}
use Rattle.std.proofs.Common.{◌↔◌}
use Rattle.rk_session.specs.declared.error.AskError.TheVariants as errors
use Rattle.rk_world.specs.Client.{busy}
use Rattle.rk_shared_lanes.proofs.Calling.{calling_uncounted, pass_calling}
use Rattle.rk_shared_lanes.proofs.pass.Pass.ask.Goals as goal

pub invariant_of-self : goal.invariant_of-self
invariant_of-self g c =
    pass_calling g.N.Roster.tells g.N.Roster.masters g.N.Roster.makes c.self.inside.session c.self.inside.counted (c.self.inside.got.parts, c.self.inside.got.amount)
    (c.self.inside.made.parts, c.self.inside.made.amount) c.self.invariant c.args.table c.args.key c.args.op c.ask.new.self c.ask.result
    (subst (λ (pass : PassState). IsLawfulCall (next_call pass.session c.args.table c.args.key c.args.op)) (sym c.self.view_is) c.requires.lawful)
    (subst (λ (pass : PassState). g.N.Roster.tells → g.N.Roster.makes (next_call pass.session c.args.table c.args.key c.args.op)) (sym c.self.view_is) c.requires.makes) c.ask.ensures.ok
    c.ask.ensures.free c.ask.ensures.err

pub returns-clause-counted : goal.returns-clause-counted
returns-clause-counted g c =
    calling_uncounted g.N.Roster.tells g.N.Roster.masters g.N.Roster.makes c.self.inside.session c.self.inside.counted (c.self.inside.got.parts, c.self.inside.got.amount)
    (c.self.inside.made.parts, c.self.inside.made.amount) c.self.invariant c.ask.result c.ask.ensures.free

pub returns-clause-busy : goal.returns-clause-busy
returns-clause-busy g c =
    subst (λ (pass : PassState). (seq : ℕ) → (c.ask.result ≡ Err (errors.Busy seq)) ↔ (busy pass.session ≡ Some seq)) c.self.view_is c.ask.ensures.busy
