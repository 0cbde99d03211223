use Rattle.rk_cluster.proofs.Words.{All, take, is_quiet_lane, HoldsIn}
use Rattle.rk_cluster.proofs.cluster.quiet.are_quiet.Given as goal

abbrev pub invariant-loop-lane : goal.invariant-loop-lane
invariant-loop-lane g l = All (HoldsIn is_quiet_lane) (take l.lane-index l.lanes)
