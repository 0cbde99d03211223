use Rattle.rk_cluster.proofs.Takers.{IsCollecting}
use Rattle.rk_cluster.proofs.turning.live_in.Given as goal

abbrev pub invariant-loop-index : goal.invariant-loop-index
invariant-loop-index g l = IsCollecting l.at l.masters l.live.items l.index
