use Rattle.rk_cluster.proofs.Words.{◌≡◌, ◌++◌, map, into_iter_items, replicas_of}
use Rattle.rk_cluster.proofs.cluster.fresh.hands_of.Given as goal

abbrev pub invariant-loop-lane : goal.invariant-loop-lane
invariant-loop-lane g l =
    map (λ hand. hand.items) l.hands.items ++ map (λ lane. replicas_of lane.backups) (into_iter_items l.lane-iterator) ≡ map (λ lane. replicas_of lane.backups) l.fn.lanes.items
