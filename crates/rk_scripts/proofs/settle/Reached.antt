-- What holds of each cluster to which a run of a new one has led: its masters are caught up, no row is owned by a master that was noticed
-- dead, and its sessions are in order.
use Rattle.std.proofs.Common.{arith, ◌<◌, ℕ, List, [], ◌∷◌, sym, subst, Err, Ok, Option, None, Some, Result}
use Rattle.rk_scripts.proofs.Words.{in_order_insert, IsInOrder, LANES, Called, Visited, accept, ask, busy, new_session, session_calling}
use Rattle.rk_scripts.proofs.Words.{Cluster, Occurrence, cluster_after, cluster_run, cluster_visited, lane_at, new_cluster, session_at}
use Rattle.rk_scripts.proofs.Words.{refusal, world_stepped, step, stepped_by, World, StepError, Event, AllCaughtUp, NoDeadOwner}
use Rattle.rk_inv_lanes.proofs.Headlines.{caught_accepted, caught_asked, caught_new}
use Rattle.rk_inv_lanes.proofs.applied.Lanes.{caught_event}
use Rattle.rk_runs.proofs.duties.Rows.{IsFree}
use Rattle.rk_runs.proofs.duties.Runs.{IsKeptByLanes, free_kept, lanes_in_run}
use Rattle.rk_scripts.proofs.play.Reaching.{IsReached}

-- ---- masters are caught up

caught_stepped : (w : World) (event : Event) (called : Called) → AllCaughtUp w → AllCaughtUp (world_stepped w (step w event called))
caught_stepped w event called caught = go (refusal w event)
  where
    go : (refused : Option StepError) → AllCaughtUp (world_stepped w (stepped_by w event called refused))
    go None = caught_event w event called caught
    go (Some error) = caught

caught_kept : IsKeptByLanes AllCaughtUp
caught_kept = search (caught_new, caught_stepped, caught_asked, caught_accepted)

-- ---- sessions are in order

visited_ordered : (cluster : Cluster) (lane client : ℕ) (answer : Result Visited StepError) → IsInOrder cluster.sessions → IsInOrder (cluster_visited cluster lane client answer).sessions
visited_ordered cluster lane client (Ok visited) order = in_order_insert cluster.sessions client visited.session order
visited_ordered cluster lane client (Err error) order = order

ordered_after : (cluster : Cluster) (occurrence : Occurrence) → IsInOrder cluster.sessions → IsInOrder (cluster_after cluster occurrence).sessions
ordered_after cluster occurrence order =
    grind (arith, step, lane_at, visited_ordered, ask, session_at, accept, in_order_insert, new_session, session_calling, busy)

ordered_run : (cluster : Cluster) (list : List Occurrence) → IsInOrder cluster.sessions → IsInOrder (cluster_run cluster list).sessions
ordered_run cluster [] order = order
ordered_run cluster (occurrence ∷ later) order = ordered_run (cluster_after cluster occurrence) later (ordered_after cluster occurrence order)

-- ---- clusters that a run has led to

module _ (masters backups : ℕ) (cluster : Cluster) (reached : IsReached masters backups cluster) where
  -- what lanes keep each lane has
  pub reached_lane : (P : World → Type 0) → IsKeptByLanes P → (lane : ℕ) → lane < LANES → P (lane_at cluster lane)
  reached_lane P kept lane inside = subst (λ (it : Cluster). P (lane_at it lane)) (sym reached.is)
      (lanes_in_run masters backups reached.few_masters reached.backed reached.few_backups P kept reached.before reached.run lane inside)

  -- its masters are caught up
  pub reached_caught : (lane : ℕ) → lane < LANES → AllCaughtUp (lane_at cluster lane)
  reached_caught = reached_lane AllCaughtUp caught_kept

  -- no dead master owns a row
  pub reached_free : (lane : ℕ) → lane < LANES → NoDeadOwner (lane_at cluster lane).coordinator
  reached_free = reached_lane IsFree free_kept

  -- its sessions are in order
  pub reached_ordered : IsInOrder cluster.sessions
  reached_ordered = subst (λ (it : Cluster). IsInOrder it.sessions) (sym reached.is) (ordered_run (new_cluster masters backups) reached.before tt)
