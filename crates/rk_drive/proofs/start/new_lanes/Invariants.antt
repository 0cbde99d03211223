use Rattle.std.proofs.Common.{◌≡◌, ◌++◌}
use Rattle.std.specs.List.{All, range_with_len}
use Rattle.std.specs.Vec.Iter.{into_iter_items}
use Rattle.rk_types.specs.declared.hashing.TheConstants.{LANES}
use Rattle.rk_cluster.specs.Fresh.{AreEmpty}
use Rattle.rk_shared_lanes.specs.Together.{AllSoundOrSpent, IsOfRoster, IsUnasked, numbers_of}
use Rattle.rk_drive.specs.Beginning.{IsFresh, NoneFellSince}
use Rattle.rk_drive.specs.declared.start.TheConstants.{BACKUPS, MASTERS}
use Rattle.rk_drive.proofs.start.new_lanes.Given as goal

-- the lanes so far are prepared, and those that are left are fresh
abbrev pub invariant-loop-lane : goal.invariant-loop-lane
invariant-loop-lane g l = record {
  numbers : numbers_of l.lanes.items ++ numbers_of (into_iter_items l.lane-iterator) ≡ range_with_len 0 LANES;
  roster : All (IsOfRoster MASTERS BACKUPS (range_with_len 1 l.clients)) l.lanes.items;
  unasked : All IsUnasked l.lanes.items;
  fresh : All (IsFresh MASTERS BACKUPS) (into_iter_items l.lane-iterator);
  sound : AreEmpty g.R.Replica.segments l.fn.replicas.items → AllSoundOrSpent g.R.Replica.segments l.lanes.items;
  counts : NoneFellSince g.R.Replica.faults l.fn.replicas.items (l.lanes.items ++ into_iter_items l.lane-iterator);
  left : AreEmpty g.R.Replica.segments l.fn.replicas.items → AllSoundOrSpent g.R.Replica.segments (into_iter_items l.lane-iterator);
}
