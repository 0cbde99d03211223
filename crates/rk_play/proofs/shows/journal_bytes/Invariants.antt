use Rattle.rk_play.proofs.Words.{◌-◌, ◌^◌, map, min, sum, take, value_bytes, LanesTell}
use Rattle.rk_play.proofs.shows.journal_bytes.Given as goal

-- the bytes in the journals so far
abbrev pub invariant-loop-lane : goal.invariant-loop-lane
invariant-loop-lane g l =
    LanesTell g.R.Replica.segments l.lanes (λ cluster. min (sum (map (λ w. value_bytes w.ledger.journal) (take l.lane-index cluster.lanes))) (2 ^ 64 - 1)) l.bytes
