use Rattle.std.specs.Vec.Iter.{into_iter_items}
use Rattle.rk_cluster.proofs.NewLanes.{making_one, one_made}
use Rattle.rk_cluster.proofs.cluster.fresh.new_lanes.Goals as goal

pub loop-hand-preserved : goal.loop-hand-preserved
loop-hand-preserved g c =
    let its = c.in_ok-new.ensures in
    rw c.in_ok-push.ensures.items
    (making_one g.R.Replica.segments c.args.masters c.args.hands.items c.loop-hand.yielded (into_iter_items c.loop-hand.hand-iterator) (into_iter_items c.next.new.self)
    c.loop-hand.lanes.items c.loop-hand.number c.in-Some.hand c.in_ok-new.field-0 c.in-Some.ensures.steps.0
    (one_made g.R.Replica.segments c.args.masters c.loop-hand.number c.in-Some.hand.items c.in_ok-new.field-0 its.runs its.number its.masters its.replicas its.world its.told)
    c.loop-hand.invariant)
