use Rattle.rk_side_log.proofs.Words.{◌≡◌, ◌+◌, ◌≤◌, drop, begun}
use Rattle.rk_side_log.proofs.side_log.begun_by.Given as goal

abbrev pub invariant-loop-item : goal.invariant-loop-item
invariant-loop-item l = (l.count + begun l.room (drop l.item-index l.items) ≡ begun l.fn.room l.items) × (l.count ≤ l.item-index)
