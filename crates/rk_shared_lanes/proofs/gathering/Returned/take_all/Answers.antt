use Rattle.rk_shared_lanes.proofs.Words.{List, arith, subst, sym, common_steps, Session}
use Rattle.rk_shared_lanes.proofs.Taking.{AreReturned, one_more_returned}
use Rattle.rk_shared_lanes.proofs.gathering.Returned.take_all.Goals as goal

pub loop-pass-preserved : goal.loop-pass-preserved
loop-pass-preserved g c = record {
  count = grind (arith, common_steps);
  room = grind (arith, common_steps);
  sessions = grind (arith, common_steps);
  returned =
      subst (λ (sessions : List Session). AreReturned g.N.Roster.tells g.N.Roster.masters g.N.Roster.makes sessions
      (c.take.new.self.got.parts, c.take.new.self.got.amount) (c.take.new.self.made.parts, c.take.new.self.made.amount)) (sym c.take.ensures.sessions)
      (one_more_returned g.N.Roster.tells g.N.Roster.masters g.N.Roster.makes c.loop-pass.self.sessions.items c.in-Some.pass.session
      (c.loop-pass.self.got.parts, c.loop-pass.self.got.amount) (c.loop-pass.self.made.parts, c.loop-pass.self.made.amount)
      (c.take.new.self.got.parts, c.take.new.self.got.amount) (c.take.new.self.made.parts, c.take.new.self.made.amount) c.take.ensures.got
      c.take.ensures.made c.take.ensures.acts c.take.ensures.orderly c.take.ensures.calls c.loop-pass.invariant.returned);
}
