use Rattle.std.specs.Vec.Iter.{into_iter_items}
use Rattle.rk_cluster.proofs.NewLanes.{IsMaking}
use Rattle.rk_cluster.proofs.cluster.fresh.new_lanes.Given as goal

abbrev pub invariant-loop-hand : goal.invariant-loop-hand
invariant-loop-hand g l = IsMaking g.R.Replica.segments l.masters l.fn.hands.items l.yielded (into_iter_items l.hand-iterator) l.lanes.items l.number
