use Rattle.rk_play.proofs.Words.{◌-◌, ◌^◌, map, min, sum, take, bytes_on, LanesTell}
use Rattle.rk_play.proofs.shows.wire_bytes.Given as goal

-- the bytes on the wires so far
abbrev pub invariant-loop-lane : goal.invariant-loop-lane
invariant-loop-lane g l =
    LanesTell g.R.Replica.segments l.lanes (λ cluster. min (sum (map (λ w. bytes_on w.wire) (take l.lane-index cluster.lanes))) (2 ^ 64 - 1)) l.bytes
