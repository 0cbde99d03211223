-- Runs of a new cluster: its clients do their duties, and no row is owned by a master that was noticed dead.
use Rattle.std.proofs.Common.{◌≡◌, ◌+◌, ◌<◌, ◌≤◌, ℕ, true, List, [], ◌∷◌, Some, length, sym, subst, arith, Err, Ok, Result}
use Rattle.rk_inv_base.proofs.Words.{length-map-range_with_len, hash_of, Call, LANES, MOST_BACKUPS, Visited, accept, ask, Session}
use Rattle.rk_inv_base.proofs.Words.{call_lane, Accepts, Asks, Calls, Cluster, Happens, Joins, Occurrence, called_by_client, cluster_after}
use Rattle.rk_inv_base.proofs.Words.{cluster_run, cluster_stepped, cluster_visited, joined_by, lane_at, new_cluster, session_at, IsRun}
use Rattle.rk_inv_base.proofs.Words.{is_added, MOST_MASTERS, world_stepped, world_visited, Stepped, step, World, new_world, StepError}
use Rattle.rk_inv_base.proofs.Words.{Event, Called}
use Rattle.std.proofs.lemmas.List.FromFn.{get_or-map-range_with_len}
use Rattle.std.proofs.lemmas.Nat.{mod_below}
use Rattle.rk_runs.proofs.history.Clusters.{IsGood, IsGoodLane}
use Rattle.rk_runs.proofs.history.Histories.{good_run}
use Rattle.rk_runs.proofs.history.Runs.{Lasts, clients_keep, events_keep, good_after, within}
use Rattle.rk_runs.specs.duties.Owners.{NoDeadOwner}
use Rattle.rk_runs.specs.duties.Worn.{IsWornFor}
use Rattle.rk_runs.proofs.duties.Asking.{client_sends, client_worn}
use Rattle.rk_runs.proofs.duties.Lanes.{EachLane, each_lane}
use Rattle.rk_runs.proofs.duties.Rows.{IsFree, accepted_free, asked_free, new_free, stepped_free}

-- ---- what lanes have in runs

-- something of a lane that it has at its start, and keeps whatever happens there between good events
pub record IsKeptByLanes (P : World → Type 0) : Type 0 where
  pub starts : (lane masters backups : ℕ) → P (new_world lane masters backups)
  pub steps : (masters lane : ℕ) (w : World) → IsGoodLane Lasts masters lane w → (event : Event) (called : Called) → P w → P (world_stepped w (step w event called))
  pub asks : (w : World) (session : Session) → P w → P (world_visited w (ask w session))
  pub accepts : (w : World) (number : ℕ) (session : Session) → P w → P (world_visited w (accept w number session))

module _ (P : World → Type 0) (kept : IsKeptByLanes P) (masters : ℕ) where
  visits_keep : (cluster : Cluster) (lane client : ℕ) (result : Result Visited StepError) → (lane < length cluster.lanes → P (world_visited (lane_at cluster lane) result))
      → EachLane P cluster → EachLane P (cluster_visited cluster lane client result)
  visits_keep cluster lane client (Ok visited) new each = each_lane P cluster lane visited.world new each
  visits_keep cluster lane client (Err error) new each = each

  occurs_keeps : (cluster : Cluster) → IsGood Lasts masters cluster → EachLane P cluster → (occurrence : Occurrence) → EachLane P (cluster_after cluster occurrence)
  occurs_keeps cluster good each (Happens lane event called) = go (step (lane_at cluster lane) event called)
      (λ there. kept.steps masters lane (lane_at cluster lane) (good.lanes lane there) event called (each lane there))
    where
      go : (result : Result Stepped StepError) → (lane < length cluster.lanes → P (world_stepped (lane_at cluster lane) result)) → EachLane P (cluster_stepped cluster lane result)
      go (Ok stepped) new = each_lane P cluster lane stepped.world new each
      go (Err error) new = each
  occurs_keeps cluster good each (Joins client) = grind (arith, joined_by, cluster.sessions)
  occurs_keeps cluster good each (Calls client table key op) = grind (arith, called_by_client, cluster.sessions)
  occurs_keeps cluster good each (Asks lane client) = grind (arith, visits_keep, ask, lane_at, session_at)
  occurs_keeps cluster good each (Accepts lane number client) = grind (arith, visits_keep, accept, lane_at, session_at)

  run_keeps : (cluster : Cluster) (list : List Occurrence) → IsGood Lasts masters cluster → IsRun cluster list → EachLane P cluster → EachLane P (cluster_run cluster list)
  run_keeps cluster [] good run each = each
  run_keeps cluster (occurrence ∷ later) good run each = run_keeps (cluster_after cluster occurrence) later
      (good_run Lasts masters events_keep clients_keep (λ w lasts. lasts.0.tell) cluster (occurrence ∷ []) good (run.0, run.1, run.2, tt))
      run.3 (occurs_keeps cluster good each occurrence)

-- no row is owned by a master that was noticed dead
pub free_kept : IsKeptByLanes IsFree
free_kept = grind (arith, new_free, stepped_free, asked_free, accepted_free)

-- ---- runs

module _ (masters backups : ℕ) (few : masters ≤ MOST_MASTERS) (backed : 1 ≤ backups) (few_backups : backups ≤ MOST_BACKUPS) where
  abbrev start : Cluster
  start = new_cluster masters backups

  start_long : length start.lanes ≡ LANES
  start_long = length-map-range_with_len (λ (lane : ℕ). new_world lane masters backups) 0 LANES

  -- what lanes keep each lane has
  pub lanes_in_run : (P : World → Type 0) → IsKeptByLanes P → (list : List Occurrence) → IsRun start list → (lane : ℕ) → lane < LANES → P (lane_at (cluster_run start list) lane)
  lanes_in_run P kept list run lane inside =
      run_keeps P kept masters start list (good_after masters backups few backed few_backups [] tt) run
      (λ q there.
      subst P
      (sym
      (get_or-map-range_with_len (λ (number : ℕ). new_world number masters backups) 0 LANES q q (new_world q 0 0)
      (omega (arith, there, start_long)) (omega arith)))
      (kept.starts q masters backups))
      lane (within masters backups few backed few_backups list lane inside)

  -- no row is owned by a master that was noticed dead
  pub free_in_run : (list : List Occurrence) (lane : ℕ) → IsRun start list → lane < LANES → NoDeadOwner (lane_at (cluster_run start list) lane).coordinator
  free_in_run list lane run inside = lanes_in_run IsFree free_kept list run lane inside

  -- a client does its duty
  pub sends_in_run : (list : List Occurrence) (lane client : ℕ) (call : Call) (visited : Visited) → IsRun start list
      → (session_at (cluster_run start list) client).outstanding ≡ Some call → call_lane call ≡ lane
      → ask (lane_at (cluster_run start list) lane) (session_at (cluster_run start list) client) ≡ Ok visited
      → visited.world.wire.sent ≡ (lane_at (cluster_run start list) lane).wire.sent + 1
  sends_in_run list lane client call visited run out here is =
      client_sends Lasts masters (cluster_run start list) (good_after masters backups few backed few_backups list run) lane client
      (within masters backups few backed few_backups list lane (subst (λ (l : ℕ). l < LANES) here (mod_below (hash_of call.key) LANES (omega arith)))) call out here visited is

  pub worn_in_run : (list : List Occurrence) (lane client : ℕ) (error : StepError) → IsRun start list
      → is_added (lane_at (cluster_run start list) lane).ledger client ≡ true
      → ask (lane_at (cluster_run start list) lane) (session_at (cluster_run start list) client) ≡ Err error
      → IsWornFor (lane_at (cluster_run start list) lane) (session_at (cluster_run start list) client) error
  worn_in_run list lane client error run added refused =
      client_worn Lasts masters (cluster_run start list) (good_after masters backups few backed few_backups list run) lane client added error refused
