-- A cluster: the lanes, and the sessions of the clients that act in them. Its history is what the journals of all lanes make
-- together, and its callers are the sessions.
use Rattle.std.specs.Prelude.{◌<◌, ℕ, List, [], ◌∷◌, length, map, fold, None, Option, Some, Result, Ok, Err, IfSome, All, slice_index_or, slice_set, ⊤}
use Rattle.std.specs.Int.{w32}
use Rattle.std.specs.List.{range_with_len}
use Rattle.rk_types.specs.NumberMap.{NumberMap, get, get_or, insert}
use Rattle.rk_types.specs.declared.call.Op.{Op}
use Rattle.rk_types.specs.declared.hashing.TheConstants.{LANES}
use Rattle.rk_types.specs.declared.history.Placed.{Placed}
use Rattle.rk_model.specs.History.{IsLegal, empty_map}
use Rattle.rk_model.specs.Merged.{merged, records_of}
use Rattle.rk_model.specs.Ordered.{Caller, IsOrdered}
use Rattle.rk_entry.specs.Numbers.{IsNumber}
use Rattle.rk_world.specs.declared.error.StepError.{StepError}
use Rattle.rk_world.specs.declared.event.Event.{Event}
use Rattle.rk_world.specs.Backup.{Called}
use Rattle.rk_world.specs.Client.{busy, Session, new_session, session_calling, next_call}
use Rattle.rk_world.specs.World.{World, new_world, live_masters}
use Rattle.rk_world.specs.Step.{step, Stepped}
use Rattle.rk_world.specs.Calls.{ask, accept, Visited}
use Rattle.rk_world.specs.Premises.{MayHappen, MayCome, IsLawfulCall, IsAfterStart}
use Rattle.rk_world.specs.Runs.{IsCalmEvent}
use Rattle.rk_world.specs.Quiet.{IsQuiet}

-- a cluster: its lanes, lane 0 first, and the session of each client that has one
pub record Cluster : Type 0 where
  pub lanes : List World
  pub sessions : NumberMap Session

-- a cluster of eight lanes in which nothing has happened, with so many masters and backups
abbrev pub new_cluster : ℕ → ℕ → Cluster
new_cluster masters backups = record {
  lanes = map (λ lane. new_world lane masters backups) (range_with_len 0 LANES);
  sessions = [];
}

-- the world of a lane
abbrev pub lane_at : Cluster → ℕ → World
lane_at cluster lane = slice_index_or cluster.lanes lane (new_world lane 0 0)

-- the session of a client
abbrev pub session_at : Cluster → ℕ → Session
session_at cluster client = get_or (new_session client) cluster.sessions client

-- a lane is so
abbrev pub with_lane : Cluster → ℕ → World → Cluster
with_lane cluster lane w = record cluster { lanes = slice_set cluster.lanes lane w }

-- a client's session is so
abbrev pub with_session : Cluster → ℕ → Session → Cluster
with_session cluster client session = record cluster { sessions = insert cluster.sessions client session }

-- what happens in a cluster
pub data Occurrence : Type 0 where
  -- an event in a lane, with what the call of a replica came to
  Happens : (lane : ℕ) (event : Event) (called : Called) → Occurrence
  -- a client gets a session
  Joins : (client : ℕ) → Occurrence
  -- a client asks its next call; nothing of a lane changes
  Calls : (client table : ℕ) (key : List ℕ) (op : Op) → Occurrence
  -- a client takes its turn in a lane
  Asks : (lane client : ℕ) → Occurrence
  -- a client takes a message of a lane
  Accepts : (lane number client : ℕ) → Occurrence

-- the cluster after an event of a lane; a refused event changes nothing
abbrev pub cluster_stepped : Cluster → ℕ → Result Stepped StepError → Cluster
cluster_stepped cluster lane (Ok stepped) = with_lane cluster lane stepped.world
cluster_stepped cluster lane (Err error) = cluster

-- the cluster after a client's turn or answer in a lane; if that is refused, nothing changes
abbrev pub cluster_visited : Cluster → ℕ → ℕ → Result Visited StepError → Cluster
cluster_visited cluster lane client (Ok visited) =
    with_session (with_lane cluster lane visited.world) client visited.session
cluster_visited cluster lane client (Err error) = cluster

-- a client that has no session gets one
abbrev pub joined_by : Cluster → ℕ → Option Session → Cluster
joined_by cluster client None = with_session cluster client (new_session client)
joined_by cluster client (Some session) = cluster

-- a client whose last call is answered asks its next one
abbrev pub called_by_client : Cluster → ℕ → ℕ → List ℕ → Op → Option Session → Cluster
called_by_client cluster client table key op None = cluster
called_by_client cluster client table key op (Some session) =
    with_session cluster client (session_calling session table key op (busy session))

-- the cluster after something occurred
abbrev pub cluster_after : Cluster → Occurrence → Cluster
cluster_after cluster (Happens lane event called) =
    cluster_stepped cluster lane (step (lane_at cluster lane) event called)
cluster_after cluster (Joins client) = joined_by cluster client (get cluster.sessions client)
cluster_after cluster (Calls client table key op) =
    called_by_client cluster client table key op (get cluster.sessions client)
cluster_after cluster (Asks lane client) =
    cluster_visited cluster lane client (ask (lane_at cluster lane) (session_at cluster client))
cluster_after cluster (Accepts lane number client) =
    cluster_visited cluster lane client (accept (lane_at cluster lane) number (session_at cluster client))

-- the cluster after a list of occurrences
abbrev pub cluster_run : Cluster → List Occurrence → Cluster
cluster_run cluster occurrences = fold cluster_after cluster occurrences

-- what may occur in a cluster: an event that names what is there, and calls, turns and answers of sessions that may act, in lanes
-- that there are; a call that is asked comes after the start of the history of its lane
abbrev pub ClusterMay : Cluster → Occurrence → Type 0
ClusterMay cluster (Happens lane event called) =
    (lane < length cluster.lanes) × MayHappen (lane_at cluster lane) event × MayCome called
ClusterMay cluster (Joins client) = IsNumber w32 1 client
ClusterMay cluster (Calls client table key op) = IsLawfulCall (next_call (session_at cluster client) table key op)
ClusterMay cluster (Asks lane client) =
    (lane < length cluster.lanes)
    × IfSome (session_at cluster client).outstanding (IsAfterStart (lane_at cluster lane).base)
ClusterMay cluster (Accepts lane number client) = lane < length cluster.lanes

-- only a crash may break the calm
abbrev pub KeepsCalm : Cluster → Occurrence → Type 0
KeepsCalm cluster (Happens lane event called) = IsCalmEvent (lane_at cluster lane) event
KeepsCalm cluster occurrence = ⊤

-- each of these may occur when it does, and each crash among them comes only while another master lives
abbrev pub IsLawfulRun : Cluster → List Occurrence → Type 0
IsLawfulRun cluster [] = ⊤
IsLawfulRun cluster (occurrence ∷ later) =
    ClusterMay cluster occurrence × KeepsCalm cluster occurrence × IsLawfulRun (cluster_after cluster occurrence) later

-- ---- what the promises are about

-- the journals of the lanes, lane 0 first
abbrev pub journals_of : Cluster → List (List Placed)
journals_of cluster = map (λ w. w.ledger.journal) cluster.lanes

-- what each caller has: its receipts and its outstanding call
abbrev pub callers_of : Cluster → ℕ → Caller
callers_of cluster client =
    record { receipts = (session_at cluster client).receipts; outstanding = (session_at cluster client).outstanding }

-- the journals of a cluster merge into one legal history of one map that starts empty, and that history is ordered with the sessions:
-- each call that was acknowledged is in it once, in its caller's order
pub record HasOneHistory (cluster : Cluster) : Type 0 where
  pub legal : IsLegal empty_map (records_of (merged (journals_of cluster)))
  pub ordered : IsOrdered (journals_of cluster) (merged (journals_of cluster)) (callers_of cluster)

-- a cluster is quiet: each lane is, and no session has an outstanding call
abbrev pub IsQuietCluster : Cluster → Type 0
IsQuietCluster cluster =
    All (λ w. IsQuiet w.coordinator.rows w.crashed (live_masters w) (map (λ entry. entry.1) cluster.sessions)) cluster.lanes
