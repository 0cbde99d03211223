use Rattle.std.proofs.Common.{◌≡◌, take}
use Rattle.std.specs.List.{flat_map}
use Rattle.rk_world.specs.CoordinatorStep.{row_duty}
use Rattle.rk_coordinator.proofs.coordinator_lane.duties.duties.Given as goal

abbrev pub invariant-loop-row : goal.invariant-loop-row
invariant-loop-row l = l.sends.items ≡ flat_map (λ row. row_duty l.lane row row.phase) (take l.row-index l.row-items)
