use Rattle.rk_play.proofs.Words.{flat_map, map, take, row_of, LanesTell, phase_of}
use Rattle.rk_play.proofs.shows.phases_of.Given as goal

-- the phases in the lanes so far
abbrev pub invariant-loop-lane : goal.invariant-loop-lane
invariant-loop-lane g l =
    LanesTell g.R.Replica.segments l.lanes (λ cluster. flat_map (λ w. phase_of (row_of w.coordinator.rows l.tablet)) (take l.lane-index cluster.lanes))
    (map (λ phase. phase.now) l.phases.items)
