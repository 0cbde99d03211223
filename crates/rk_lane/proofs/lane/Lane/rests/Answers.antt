use Rattle.std.proofs.Common.{ℕ, IfSome, sym, subst}
use Rattle.rk_types.specs.NumberMap.{NumberMap}
use Rattle.rk_outside.specs.Segments.{Segments}
use Rattle.rk_lane.specs.Lane.{lane_of}
use Rattle.rk_lane.specs.LaneState.{LaneState, world_with}
use Rattle.rk_lane.specs.Parts.{running_of, world_of}
use Rattle.rk_lane.specs.Resting.{IsResting}
use Rattle.rk_lane.proofs.Lanes.{unless_spent}
use Rattle.rk_lane.proofs.lane.Lane.rests.Goals as goal

pub returns-then-not-self : goal.returns-then-not-self
returns-then-not-self g c = λ rests.
    subst (λ (lane : LaneState g.row.R.Denot). IfSome lane.running (λ running. (stored : NumberMap Segments) → IsResting (world_with lane running stored))) c.self.view_is
    (unless_spent (λ running. (stored : NumberMap Segments) → IsResting (world_with (lane_of c.self.inside) running stored)) c.self.inside.spent (running_of c.self.inside.parts)
    (λ living stored.
    subst (λ (count : ℕ). IsResting (record (world_of c.self.inside.parts stored) { backup_count = count })) (sym c.self.invariant.count) (c.rests.ensures rests stored)))
