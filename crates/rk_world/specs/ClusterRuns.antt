-- Runs of a cluster: lists of occurrences that may come, in which replicas answer what they store.
use Rattle.std.specs.Prelude.{List, [], ◌∷◌, ⊤}
use Rattle.rk_world.specs.Cluster.{Cluster, ClusterMay, Happens, KeepsCalm, Occurrence, cluster_after, lane_at}
use Rattle.rk_world.specs.Replicas.{AllTell, IsTold}

-- if all backups of a lane report what they store, an event comes with what their replicas answer, one of which may fail
abbrev pub ReplicasTell : Cluster → Occurrence → Type 0
ReplicasTell cluster (Happens lane event called) = AllTell (lane_at cluster lane) → IsTold (lane_at cluster lane) event called
ReplicasTell cluster occurrence = ⊤

-- each of these may occur when it does, each crash among them comes only while another master lives, and replicas answer what they store
abbrev pub IsRun : Cluster → List Occurrence → Type 0
IsRun cluster [] = ⊤
IsRun cluster (occurrence ∷ later) =
    ClusterMay cluster occurrence × KeepsCalm cluster occurrence × ReplicasTell cluster occurrence
    × IsRun (cluster_after cluster occurrence) later
