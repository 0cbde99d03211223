use Rattle.rk_cluster.proofs.Words.{All, subst, LANES, HasBackups, ClusterState}
use Rattle.rk_cluster.proofs.Counting.{each_backed}
use Rattle.rk_cluster.proofs.cluster.Cluster.backups.Goals as goal

pub returns-clause-each : goal.returns-clause-each
returns-clause-each g c =
    subst (λ (state : ClusterState g.row.R.Denot). All (HasBackups c.self.inside.backups) state.lanes) c.self.view_is
    (each_backed c.self.inside.backups c.self.inside.lanes.items LANES c.self.invariant.backups)
