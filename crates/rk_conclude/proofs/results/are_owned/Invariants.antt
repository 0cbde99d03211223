use Rattle.rk_conclude.proofs.Words.{true, take, list_all, LanesTell, is_owner, owner_at}
use Rattle.rk_conclude.proofs.results.are_owned.Given as goal

-- the master owns the tablet in the lanes so far
abbrev pub invariant-loop-lane : goal.invariant-loop-lane
invariant-loop-lane g l =
    LanesTell g.R.Replica.segments l.lanes (λ cluster. list_all (λ w. is_owner l.master (owner_at w)) (take l.lane-index cluster.lanes)) true
