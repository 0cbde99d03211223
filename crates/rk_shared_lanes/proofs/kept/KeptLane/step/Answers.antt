use Rattle.std.proofs.Common.{refl}
use Rattle.rk_shared_lanes.proofs.Stepping.{kept_stepped, none_falls}
use Rattle.rk_shared_lanes.proofs.kept.KeptLane.step.Goals as goal

pub invariant_of-self : goal.invariant_of-self
invariant_of-self g c = (
  c.self.invariant.0,
  kept_stepped g.R.Replica.segments g.R.Replica.faults c.self.inside.lane c.step.new.self c.args.event c.step.ensures.lane g.N.Roster.tells g.N.Roster.masters g.N.Roster.backups g.N.Roster.clients g.N.Roster.counts
      (c.self.inside.accepted.parts, c.self.inside.accepted.amount) (c.self.inside.asked.parts, c.self.inside.asked.amount) (c.self.inside.number.parts, c.self.inside.number.amount)
      c.self.invariant.1
      (none_falls g.R.Replica.segments g.R.Replica.faults c.self.inside.lane c.step.new.self c.args.event c.step.ensures.lane c.step.result c.step.ensures.ok
      c.step.ensures.refused c.step.ensures.spent)
      c.requires.clients c.self.inside.lane.running refl c.step.result c.step.ensures.ok c.step.ensures.refused c.step.ensures.spent,
)
