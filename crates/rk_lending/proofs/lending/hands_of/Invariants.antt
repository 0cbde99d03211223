-- The hands of the lanes so far, and those that are left; there is room for these.
use Rattle.std.proofs.Common.{◌≡◌, ◌≤◌, ◌+◌, ◌++◌, length, map, vec_capacity}
use Rattle.std.specs.Vec.Iter.{into_iter_items}
use Rattle.rk_types.specs.declared.hashing.TheConstants.{LANES}
use Rattle.rk_lane.specs.LaneState.{replicas_of}
use Rattle.rk_lending.proofs.lending.hands_of.Given as goal

abbrev pub invariant-loop-lane : goal.invariant-loop-lane
invariant-loop-lane g l = record {
  hands : map (λ hand. hand.items) l.hands.items ++ map (λ lane. replicas_of lane.backups) (into_iter_items l.lane-iterator) ≡ map (λ lane. replicas_of lane.backups) l.fn.lanes.items;
  room : length l.hands.items + length (into_iter_items l.lane-iterator) ≤ LANES;
  capacity : LANES ≤ vec_capacity l.hands;
}
