-- A script played is a run of a new cluster, and so it has one history.
use Rattle.std.specs.Prelude.{◌≡◌, ◌≤◌, ℕ}
use Rattle.rk_log.specs.declared.copied.TheConstants.{MOST_BACKUPS}
use Rattle.rk_world.specs.Cluster.{cluster_run, new_cluster}
use Rattle.rk_world.specs.ClusterRuns.{IsRun}
use Rattle.rk_world.specs.Premises.{MOST_MASTERS}
use Rattle.rk_play.specs.Played.{Played}
use Rattle.rk_scripts.specs.play.OneMap.{IsOneMap}
use Rattle.rk_scripts.specs.play.Steps.{AtEachCluster, AtEachStep, FinishesMoves, HasSoundLanes, OfEvents, RefusesJustly}

-- a script that was played began in a new cluster, and its cluster is what the occurrences made of that. These are a run: each may occur
-- when it does, each crash leaves another master alive, and replicas answer what they store. So the cluster is one map; in each cluster
-- passed each lane is sound; each migration that ends leaves the old tablet overlaid by later writes; and each refusal is justified
pub record IsHistorical (played : Played) : Type 0 where
  pub masters : ℕ
  pub backups : ℕ
  pub few_masters : masters ≤ MOST_MASTERS
  pub backed : 1 ≤ backups
  pub few_backups : backups ≤ MOST_BACKUPS
  pub cluster_is : played.cluster ≡ cluster_run (new_cluster masters backups) played.occurred
  pub run : IsRun (new_cluster masters backups) played.occurred
  pub one_map : IsOneMap played.cluster
  pub sound : AtEachCluster HasSoundLanes (new_cluster masters backups) played.occurred
  pub finished : AtEachStep (OfEvents FinishesMoves) (new_cluster masters backups) played.occurred
  pub justified : AtEachStep (OfEvents RefusesJustly) (new_cluster masters backups) played.occurred
