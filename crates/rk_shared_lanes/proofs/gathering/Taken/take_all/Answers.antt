use Rattle.rk_shared_lanes.proofs.Words.{List, arith, subst, sym, common_steps, LaneState}
use Rattle.rk_shared_lanes.proofs.Taking.{AreTaken, one_more_taken}
use Rattle.rk_shared_lanes.proofs.gathering.Taken.take_all.Goals as goal

pub loop-lock-preserved : goal.loop-lock-preserved
loop-lock-preserved g c = record {
  count = grind (arith, common_steps);
  room = grind (arith, common_steps);
  taken =
      subst (λ (lanes : List (LaneState g.row.R.Denot)). AreTaken g.R.Replica.segments g.R.Replica.faults g.N.Roster.tells g.N.Roster.masters g.N.Roster.backups g.N.Roster.clients g.N.Roster.counts lanes
      (c.take.new.self.accepted.parts, c.take.new.self.accepted.amount) (c.take.new.self.asked.parts, c.take.new.self.asked.amount)
      (c.take.new.self.number.parts, c.take.new.self.number.amount)) (sym c.take.ensures.lanes)
      (one_more_taken g.R.Replica.segments g.R.Replica.faults g.N.Roster.tells g.N.Roster.masters g.N.Roster.backups g.N.Roster.clients g.N.Roster.counts c.loop-lock.self.lanes.items c.into_inner.result
      (c.loop-lock.self.accepted.parts, c.loop-lock.self.accepted.amount) (c.loop-lock.self.asked.parts, c.loop-lock.self.asked.amount)
      (c.loop-lock.self.number.parts, c.loop-lock.self.number.amount) (c.take.new.self.accepted.parts, c.take.new.self.accepted.amount)
      (c.take.new.self.asked.parts, c.take.new.self.asked.amount) (c.take.new.self.number.parts, c.take.new.self.number.amount) c.take.ensures.accepted
      c.take.ensures.asked c.take.ensures.number c.take.ensures.few c.take.ensures.roster c.take.ensures.counts c.take.ensures.counted c.take.ensures.sound
      c.loop-lock.invariant.taken);
}
