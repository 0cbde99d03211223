use Rattle.rk_cluster.proofs.Words.{◌<◌, All, filter, not, range_with_len, LANES, is_owner, LanesTell}
use Rattle.rk_cluster.specs.Looks.{owner_at}
use Rattle.rk_cluster.proofs.looks.lanes_without.Given as goal

-- those among the lanes so far were found
abbrev pub invariant-loop-lane : goal.invariant-loop-lane
invariant-loop-lane g l =
    LanesTell g.R.Replica.segments l.lanes (λ cluster. filter (λ lane. not (is_owner l.master (owner_at cluster l.tablet lane))) (range_with_len 0 l.lane)) l.found.items
    × All (λ lane. lane < LANES) l.found.items
