-- A cluster to which a run has led is one map.
use Rattle.std.proofs.Common.{List}
use Rattle.rk_scripts.proofs.Words.{Cluster, Occurrence}
use Rattle.rk_runs.proofs.history.Runs.{all_stand, has_history}
use Rattle.rk_scripts.specs.play.Led.{IsLedBy}
use Rattle.rk_scripts.specs.play.OneMap.{IsOneMap}

pub one_map : (occurred : List Occurrence) (cluster : Cluster) → IsLedBy occurred cluster → IsOneMap cluster
one_map occurred cluster led =
    search (has_history, all_stand, led.leads.is)
