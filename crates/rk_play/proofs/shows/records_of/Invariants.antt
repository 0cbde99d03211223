use Rattle.rk_play.proofs.Words.{true, flat_map, take, list_all, row_of, owner_in, LanesTell, items_of, lives_owner}
use Rattle.rk_play.proofs.shows.records_of.Given as goal

-- the records in the lanes so far; in each of them a master that lives owns the tablet
abbrev pub invariant-loop-lane : goal.invariant-loop-lane
invariant-loop-lane g l =
    LanesTell g.R.Replica.segments l.lanes (λ cluster. flat_map (λ w. items_of w (row_of w.coordinator.rows l.tablet)) (take l.lane-index cluster.lanes)) l.items.items
    × LanesTell g.R.Replica.segments l.lanes (λ cluster. list_all (λ w. lives_owner w (owner_in w l.tablet)) (take l.lane-index cluster.lanes)) true
