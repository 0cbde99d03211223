use Rattle.rk_cluster.proofs.Words.{true, is_some, take, list_all, owner_in, LanesTell}
use Rattle.rk_cluster.proofs.looks.is_owned.Given as goal

-- it is owned in the lanes so far
abbrev pub invariant-loop-lane : goal.invariant-loop-lane
invariant-loop-lane g l =
    LanesTell g.R.Replica.segments l.lanes (λ cluster. list_all (λ w. is_some (owner_in w l.tablet)) (take l.lane-index cluster.lanes)) true
