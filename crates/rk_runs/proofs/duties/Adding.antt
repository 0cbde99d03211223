-- Who has a session stays added in each lane, whatever occurs in a cluster, if nobody gets a session who was not added in each lane.
use Rattle.std.proofs.Common.{arith, ◌≡◌, ℕ, List, Option, Some, None, true, Err, Ok, Result}
use Rattle.rk_inv_base.proofs.Words.{each_insert, get, Op, Visited, accept, ask, Session, new_session, Accepts, Asks, Calls}
use Rattle.rk_inv_base.proofs.Words.{Cluster, Happens, Joins, Occurrence, called_by_client, cluster_after, cluster_stepped}
use Rattle.rk_inv_base.proofs.Words.{cluster_visited, joined_by, lane_at, session_at, with_lane, with_session, is_added}
use Rattle.rk_inv_base.proofs.Words.{world_stepped, world_visited, Stepped, step, World, StepError}
use Rattle.rk_inv_wellformed.proofs.lanes.Worlds.{HasClientsOf}
use Rattle.rk_runs.specs.duties.Added.{ActsAdded, AreAdded, IsAddedInAll, MayGetSession}
use Rattle.rk_runs.proofs.duties.Going.{answer_on, asked_turn_on, stepped_on}
use Rattle.rk_runs.proofs.duties.Lanes.{each_lane}

-- ---- a lane is another

module _ (cluster : Cluster) (lane : ℕ) (now : World) (has : HasClientsOf now.ledger (lane_at cluster lane).ledger) where
  -- who was added in each lane is so still
  added_still : (client : ℕ) → IsAddedInAll cluster client → IsAddedInAll (with_lane cluster lane now) client
  added_still client added =
      each_lane (λ (w : World). is_added w.ledger client ≡ true) cluster lane now (λ there. has client (added lane there)) added

  lane_added : AreAdded cluster → AreAdded (with_lane cluster lane now)
  lane_added all client session found = added_still client (all client session found)

-- ---- a session is another

session_added : (cluster : Cluster) (client : ℕ) (session : Session) → IsAddedInAll cluster client → AreAdded cluster → AreAdded (with_session cluster client session)
session_added cluster client session there all =
    each_insert (λ (c : ℕ) (s : Session). IsAddedInAll cluster c) cluster.sessions client session all there

-- a client that acts was added in each lane
actor_added : (cluster : Cluster) (client : ℕ) → MayGetSession cluster client → AreAdded cluster → IsAddedInAll cluster client
actor_added cluster client may all = grind arith

-- ---- all that may occur

stepped_added : (cluster : Cluster) (lane : ℕ) (result : Result Stepped StepError) → HasClientsOf (world_stepped (lane_at cluster lane) result).ledger (lane_at cluster lane).ledger
    → AreAdded cluster → AreAdded (cluster_stepped cluster lane result)
stepped_added cluster lane (Ok stepped) has all = lane_added cluster lane stepped.world has all
stepped_added cluster lane (Err error) has all = all

visited_added : (cluster : Cluster) (lane client : ℕ) (result : Result Visited StepError) → HasClientsOf (world_visited (lane_at cluster lane) result).ledger (lane_at cluster lane).ledger
    → IsAddedInAll cluster client → AreAdded cluster → AreAdded (cluster_visited cluster lane client result)
visited_added cluster lane client (Ok visited) has there all =
    search (session_added, with_lane, added_still, lane_added, visited.world, visited.session)
visited_added cluster lane client (Err error) has there all = all

joined_added : (cluster : Cluster) (client : ℕ) (found : Option Session) → IsAddedInAll cluster client → AreAdded cluster → AreAdded (joined_by cluster client found)
joined_added cluster client None there all = session_added cluster client (new_session client) there all
joined_added cluster client (Some session) there all = all

called_added : (cluster : Cluster) (client table : ℕ) (key : List ℕ) (op : Op) (found : Option Session) → get cluster.sessions client ≡ found
    → AreAdded cluster → AreAdded (called_by_client cluster client table key op found)
called_added cluster client table key op found is all = grind (arith, session_added)

pub added_after : (cluster : Cluster) (occurrence : Occurrence) → ActsAdded cluster occurrence → AreAdded cluster → AreAdded (cluster_after cluster occurrence)
added_after cluster (Happens lane event called) acts all =
    stepped_added cluster lane (step (lane_at cluster lane) event called) (stepped_on (lane_at cluster lane) event called).clients all
added_after cluster (Joins client) acts all = grind (arith, joined_added, actor_added, cluster.sessions)
added_after cluster (Calls client table key op) acts all = grind (arith, called_added, cluster.sessions)
added_after cluster (Asks lane client) acts all = grind (arith, visited_added, ask, lane_at, session_at, asked_turn_on, actor_added)
added_after cluster (Accepts lane number client) acts all =
    visited_added cluster lane client (accept (lane_at cluster lane) number (session_at cluster client))
    (answer_on (lane_at cluster lane) number (session_at cluster client)).clients (actor_added cluster client acts all) all
