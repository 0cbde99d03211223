use Rattle.rk_play.proofs.Words.{◌≡◌, All, length, map, take, journals_of, IsRisingAbove, LanesTell}
use Rattle.rk_play.proofs.shows.journals_of.Given as goal

-- the journals of the lanes so far
abbrev pub invariant-loop-lane : goal.invariant-loop-lane
invariant-loop-lane g l =
    LanesTell g.R.Replica.segments l.lanes (λ cluster. map (λ w. w.ledger.journal) (take l.lane-index cluster.lanes)) (journals_of l.journals.items)
    × (length l.journals.items ≡ l.lane-index)
    × All (IsRisingAbove 0) (journals_of l.journals.items)
