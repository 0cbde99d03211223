-- Runs that lead from one cluster to another, one after the other, with what occurred.
use Rattle.rk_cluster.proofs.Words.{arith}
use Rattle.std.proofs.Common.{◌≡◌, List, [], ◌∷◌, ◌++◌, refl}
use Rattle.rk_world.specs.Cluster.{Cluster, ClusterMay, KeepsCalm, Occurrence, cluster_after, cluster_run}
use Rattle.rk_world.specs.ClusterRuns.{IsRun, ReplicasTell}
use Rattle.rk_cluster.specs.Effects.{RunsTo}

-- a run goes on where the first part of it ended
pub runs_join : (cluster : Cluster) (before after : List Occurrence) → cluster_run cluster (before ++ after) ≡ cluster_run (cluster_run cluster before) after
runs_join cluster [] after = refl
runs_join cluster (occurrence ∷ before) after = runs_join (cluster_after cluster occurrence) before after

pub run_on : (cluster : Cluster) (before after : List Occurrence) → IsRun cluster before → IsRun (cluster_run cluster before) after → IsRun cluster (before ++ after)
run_on cluster [] after first second = second
run_on cluster (occurrence ∷ before) after first second =
    (first.0, first.1, first.2, run_on (cluster_after cluster occurrence) before after first.3 second)

-- if nothing occurs
pub leads_nowhere : (cluster : Cluster) → RunsTo cluster [] cluster
leads_nowhere cluster = record { run = tt; is = refl }

-- if one thing occurs
pub leads_by : (cluster : Cluster) (occurrence : Occurrence) → ClusterMay cluster occurrence → KeepsCalm cluster occurrence → ReplicasTell cluster occurrence
    → RunsTo cluster (occurrence ∷ []) (cluster_after cluster occurrence)
leads_by cluster occurrence may calm tell = record { run = (may, calm, tell, tt); is = refl }

-- if one run follows another
pub leads_on : (before middle after : Cluster) (first second : List Occurrence) → RunsTo before first middle → RunsTo middle second after → RunsTo before (first ++ second) after
leads_on before middle after first second one two = grind (arith, run_on, runs_join)
