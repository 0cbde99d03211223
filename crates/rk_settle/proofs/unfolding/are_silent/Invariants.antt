use Rattle.std.proofs.Common.{true, take}
use Rattle.std.specs.List.{list_all}
use Rattle.rk_cluster.specs.Told.{LanesTell}
use Rattle.rk_settle.specs.Rest.{is_silent}
use Rattle.rk_settle.proofs.unfolding.are_silent.Given as goal

-- the wires so far are silent
abbrev pub invariant-loop-lane : goal.invariant-loop-lane
invariant-loop-lane g l = LanesTell g.R.Replica.segments l.lanes (λ cluster. list_all is_silent (take l.lane-index cluster.lanes)) true
