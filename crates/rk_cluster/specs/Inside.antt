-- What a cluster in code stands for.
use Rattle.std.specs.Prelude.{◌≡◌, length, replicate}
use Rattle.rk_types.specs.declared.hashing.TheConstants.{LANES}
use Rattle.rk_world.specs.Premises.{IsMaster, MOST_MASTERS}
use Rattle.rk_cluster.specs.Masters.{backup_counts}
use Rattle.rk_cluster.specs.State.{ClusterState}
use Rattle.rk_cluster.specs.Steps.{AreLanes, MayAllAct}
use Rattle.rk_cluster.specs.declared.cluster.Cluster.TheInside.{Inside}

-- what contracts see of it
abbrev pub cluster_of : {R : Type 0} → Inside R → ClusterState R
cluster_of inside = record { lanes = inside.lanes.items; sessions = inside.sessions.entries }

-- there are eight lanes, numbered from 0, with as many masters each and as many backups, and each session may act in them
pub record IsCluster {R : Type 0} (inside : Inside R) : Type 0 where
  pub count : length inside.lanes.items ≡ LANES
  pub lanes : AreLanes inside.masters 0 inside.lanes.items
  pub masters : IsMaster MOST_MASTERS inside.masters
  pub backups : backup_counts inside.lanes.items ≡ replicate LANES inside.backups
  pub sessions : MayAllAct inside.masters inside.sessions.entries
