use Rattle.rk_lane.proofs.Words.{◌≡◌, length, IfSome, subst, LaneState, running_of}
use Rattle.rk_lane.proofs.Lanes.{unless_spent}
use Rattle.rk_lane.proofs.Quiet.{masters_counted}
use Rattle.rk_lane.proofs.lane.Lane.spent.Goals as goal

pub returns-clause-masters : goal.returns-clause-masters
returns-clause-masters g c =
    subst (λ (lane : LaneState g.row.R.Denot). IfSome lane.running (λ running. running.coordinator.masters ≡ lane.masters)) c.self.view_is
    (unless_spent (λ running. running.coordinator.masters ≡ length c.self.inside.parts.masters.items) c.self.inside.spent (running_of c.self.inside.parts)
    (λ living. masters_counted c.self.inside.parts (c.self.invariant.kept living)))
