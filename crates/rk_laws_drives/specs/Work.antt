-- Work: what occurs in a cluster while its clients ask nothing new.
use Rattle.std.specs.Prelude.{ℕ, Bool, true, false, ◌&&◌, List, [], ◌∷◌, is_some}
use Rattle.rk_types.specs.NumberMap.{get}
use Rattle.rk_world.specs.Cluster.{Accepts, Asks, Calls, Cluster, Happens, Joins, Occurrence, cluster_after}

-- whether a client has a session
abbrev pub has_session : Cluster → ℕ → Bool
has_session cluster client = is_some (get cluster.sessions client)

-- whether an occurrence is work: an event of a lane, or the turn or the answer of a client that has a session
abbrev pub is_work : Cluster → Occurrence → Bool
is_work cluster (Happens lane event called) = true
is_work cluster (Joins client) = false
is_work cluster (Calls client table key op) = false
is_work cluster (Asks lane client) = has_session cluster client
is_work cluster (Accepts lane number client) = has_session cluster client

-- whether occurrences are work, each in the cluster that those before it made
abbrev pub are_work : Cluster → List Occurrence → Bool
are_work cluster [] = true
are_work cluster (occurrence ∷ later) = is_work cluster occurrence && are_work (cluster_after cluster occurrence) later
