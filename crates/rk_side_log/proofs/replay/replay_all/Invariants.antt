use Rattle.rk_side_log.proofs.Words.{◌≤◌, length, vec_capacity, LONGEST_SPELLED, side_replayed}
use Rattle.std.specs.Vec.Iter.{into_iter_items}
use Rattle.rk_side_log.proofs.Replaying.{GoesOn}
use Rattle.rk_side_log.proofs.replay.replay_all.Given as goal

abbrev pub invariant-loop-item : goal.invariant-loop-item
invariant-loop-item g l =
    GoesOn (side_replayed (g.T.RecordTable.items l.fn.table) l.fn.side.items l.fn.items.items) l.fn.side (g.T.RecordTable.items l.table) l.side l.tally (into_iter_items l.item-iterator)
    × (length (into_iter_items l.item-iterator) ≤ g.T.RecordTable.spare l.table)
    × (LONGEST_SPELLED ≤ vec_capacity l.spelling)
