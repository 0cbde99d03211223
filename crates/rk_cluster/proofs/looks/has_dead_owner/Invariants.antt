use Rattle.rk_cluster.proofs.Words.{false, take, has_dead_owner, LanesTell}
use Rattle.rk_cluster.proofs.looks.has_dead_owner.Given as goal

-- no owner has crashed in those so far
abbrev pub invariant-loop-lane : goal.invariant-loop-lane
invariant-loop-lane g l =
    LanesTell g.R.Replica.segments l.lanes (λ cluster. has_dead_owner cluster (take l.lane-index l.among) l.tablet) false
