-- A cluster to which a run of a new one leads.
use Rattle.std.specs.Prelude.{◌≤◌, ℕ, List}
use Rattle.rk_log.specs.declared.copied.TheConstants.{MOST_BACKUPS}
use Rattle.rk_world.specs.Cluster.{Cluster, Occurrence, new_cluster}
use Rattle.rk_world.specs.Premises.{MOST_MASTERS}
use Rattle.rk_cluster.specs.Effects.{RunsTo}

-- these occurrences are a run of a new cluster, with as many masters and backups as there may be, and lead to this one
pub record IsLedBy (occurred : List Occurrence) (cluster : Cluster) : Type 0 where
  pub masters : ℕ
  pub backups : ℕ
  pub few_masters : masters ≤ MOST_MASTERS
  pub backed : 1 ≤ backups
  pub few_backups : backups ≤ MOST_BACKUPS
  pub leads : RunsTo (new_cluster masters backups) occurred cluster
