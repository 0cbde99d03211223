use Rattle.std.proofs.Common.{◌≡◌, ◌+◌, ◌-◌, not, find}
use Rattle.std.specs.List.{range_with_len}
use Rattle.rk_world.specs.Coordinator.{is_noticed}
use Rattle.rk_coordinator.specs.Lane.{marked}
use Rattle.rk_coordinator.proofs.coordinator_lane.notices.lowest_left.Given as goal

abbrev pub invariant-loop-master : goal.invariant-loop-master
invariant-loop-master l =
    find (λ master. not (is_noticed (marked l.lane l.dead) master)) (range_with_len l.master (l.lane.masters + 1 - l.master))
    ≡ find (λ master. not (is_noticed (marked l.lane l.dead) master)) (range_with_len 1 l.lane.masters)
