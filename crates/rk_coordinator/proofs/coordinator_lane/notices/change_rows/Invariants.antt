use Rattle.std.proofs.Common.{◌≡◌}
use Rattle.rk_coordinator.specs.Changes.{rows_after}
use Rattle.rk_coordinator.proofs.coordinator_lane.notices.change_rows.Given as goal

abbrev pub invariant-loop-change : goal.invariant-loop-change
invariant-loop-change l = l.map ≡ rows_after l.initial.map l.yielded
