use Rattle.std.proofs.Common.{◌≡◌, take}
use Rattle.rk_coordinator.specs.Lane.{marked}
use Rattle.rk_coordinator.specs.Changes.{changes_of}
use Rattle.rk_coordinator.proofs.coordinator_lane.notices.changes_of.Given as goal

abbrev pub invariant-loop-row : goal.invariant-loop-row
invariant-loop-row l = l.changes.items ≡ changes_of (marked l.lane l.dead) l.dead (take l.row-index l.row-items)
