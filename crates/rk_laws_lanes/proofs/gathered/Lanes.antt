-- The good lanes of a cluster: their journals are lawful, and legal.
use Rattle.std.proofs.Common.{ℕ, ◌<◌, length}
use Rattle.rk_inv_base.proofs.Words.{IsLegal, Cluster, lane_at}
use Rattle.rk_model.specs.History.{empty_map}
use Rattle.rk_model.specs.Merged.{merged, records_of}
use Rattle.rk_world.specs.Cluster.{journals_of}
use Rattle.rk_runs.proofs.history.Clusters.{ledgers_of}
use Rattle.rk_runs.proofs.history.Ordered.{IsLawfulLane}
use Rattle.rk_laws_lanes.specs.GoodLane.{IsGoodLane}
use Rattle.rk_laws_lanes.proofs.OfRuns.{in_runs}
use Rattle.rk_runs.proofs.history.Journals as journals

module _ (cluster : Cluster) (masters : ℕ) (good : (lane : ℕ) → lane < length cluster.lanes → IsGoodLane masters lane (lane_at cluster lane)) where
  pub lawful : (lane : ℕ) → IsLawfulLane lane (ledgers_of cluster lane)
  lawful = journals.lawful cluster (λ lane inside. in_runs (good lane inside))

  pub legal : IsLegal empty_map (records_of (merged (journals_of cluster)))
  legal = journals.legal cluster (λ lane inside. in_runs (good lane inside))
