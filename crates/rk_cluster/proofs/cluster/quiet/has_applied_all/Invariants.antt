use Rattle.rk_cluster.proofs.Words.{[], range_with_len, Running, world_with}
use Rattle.rk_cluster.proofs.Resting.{rests}
use Rattle.rk_cluster.proofs.Testing.{HoldsSoFar}
use Rattle.rk_cluster.proofs.cluster.quiet.has_applied_all.Given as goal

abbrev pub invariant-loop-index : goal.invariant-loop-index
invariant-loop-index g l =
    HoldsSoFar (λ (running : Running). rests (world_with l.lane running [])) (range_with_len 1 l.masters) l.index l.lane.running
