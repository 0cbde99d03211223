-- What a cluster to which a run has led answers: one map.
use Rattle.std.specs.Prelude.{◌<◌, ℕ}
use Rattle.rk_types.specs.declared.hashing.TheConstants.{LANES}
use Rattle.rk_world.specs.Cluster.{Cluster, HasOneHistory, IsQuietCluster, lane_at}
use Rattle.rk_world.specs.Stands.{Stands}

-- the answers of a cluster are those of one map: its journals make one lawful history that is ordered with the sessions; and if nothing is
-- left to do, what each backup stores of each tablet has just the records of that history
pub record IsOneMap (cluster : Cluster) : Type 0 where
  pub history : HasOneHistory cluster
  pub stored : IsQuietCluster cluster → (lane : ℕ) → lane < LANES → Stands (lane_at cluster lane)
