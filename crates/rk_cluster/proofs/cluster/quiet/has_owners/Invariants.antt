use Rattle.rk_cluster.proofs.Words.{[], Row, Running, world_with}
use Rattle.rk_cluster.specs.Quiet.{is_owned_live}
use Rattle.rk_cluster.proofs.Testing.{HoldsSoFar}
use Rattle.rk_cluster.proofs.cluster.quiet.has_owners.Given as goal

abbrev pub invariant-loop-row : goal.invariant-loop-row
invariant-loop-row g l =
    HoldsSoFar (λ (running : Running) (row : Row). is_owned_live (world_with l.lane running []) row.phase) l.row-items l.row-index l.lane.running
