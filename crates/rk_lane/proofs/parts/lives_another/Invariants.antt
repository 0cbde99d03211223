use Rattle.rk_lane.proofs.Words.{◌≡◌, ◌+◌, ◌-◌, list_any, range_with_len}
use Rattle.rk_lane.proofs.Living.{is_beside}
use Rattle.rk_lane.proofs.parts.lives_another.Given as goal

-- of those so far none lives beside it
abbrev pub invariant-loop-index : goal.invariant-loop-index
invariant-loop-index l =
    list_any (is_beside l.parts l.master) (range_with_len 1 l.parts.coordinator.masters)
    ≡ list_any (is_beside l.parts l.master) (range_with_len (l.index + 1) (l.parts.coordinator.masters - l.index))
