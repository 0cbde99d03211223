-- The rows that were looked at so far have no duty.
use Rattle.std.proofs.Common.{◌≡◌, drop}
use Rattle.std.specs.List.{flat_map}
use Rattle.rk_world.specs.Coordinator.{Coordinator}
use Rattle.rk_world.specs.CoordinatorStep.{row_duty}
use Rattle.rk_coordinator.proofs.coordinator_lane.duties.are_owned.Given as goal

abbrev pub invariant-loop-row : goal.invariant-loop-row
invariant-loop-row l = (coordinator : Coordinator)
    → flat_map (λ row. row_duty coordinator row row.phase) l.rows ≡ flat_map (λ row. row_duty coordinator row row.phase) (drop l.row-index l.rows)
