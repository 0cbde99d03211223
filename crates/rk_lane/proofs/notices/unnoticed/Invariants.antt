use Rattle.rk_lane.proofs.Words.{◌≡◌, ◌+◌, ◌-◌, ◌++◌, filter, range_with_len, is_unnoticed}
use Rattle.rk_lane.proofs.notices.unnoticed.Given as goal

abbrev pub invariant-loop-index : goal.invariant-loop-index
invariant-loop-index l =
    l.masters.items ++ filter (is_unnoticed l.parts) (range_with_len (l.index + 1) (l.parts.coordinator.masters - l.index))
    ≡ filter (is_unnoticed l.parts) (range_with_len 1 l.parts.coordinator.masters)
