-- Runs of a new cluster: all lanes stay sound, they have one history, and what was acknowledged stays.
use Rattle.std.proofs.Common.{◌≡◌, ℕ, ◌<◌, ◌≤◌, List, [], ◌∷◌, ◌++◌, Option, Some, length, map, refl, sym, subst, ◌∙◌, arith, true, All}
use Rattle.rk_inv_base.proofs.Words.{All-weaker, length-map-range_with_len, LANES, Placed, Receipt, MOST_BACKUPS, Base, no_base, Cluster}
use Rattle.rk_inv_base.proofs.Words.{Occurrence, cluster_after, cluster_run, lane_at, new_cluster, session_at, IsRun, IsWellFormed}
use Rattle.rk_inv_base.proofs.Words.{MOST_MASTERS, HasRoom, world_stepped, stepped_by, World, new_world, StepError, IsTruth, truths, view}
use Rattle.rk_inv_base.proofs.Words.{IsSound}
use Rattle.rk_world.specs.Cluster.{HasOneHistory, IsQuietCluster}
use Rattle.rk_world.specs.Runs.{Accepts, Asks, Happens}
use Rattle.rk_world.specs.Stands.{Stands}
use Rattle.rk_inv_lanes.specs.room.Kept.{IsKept}
use Rattle.rk_inv_lanes.proofs.room.Events.{kept_event, room_left}
use Rattle.rk_inv_lanes.proofs.Headlines.{kept_accepted, kept_asked, kept_new, quiet_stands_in_room, all_after, all_new, own_where_all_tell}
use Rattle.rk_inv_lanes.proofs.Below.{sealed_accepted, sealed_asked, sealed_event, sealed_new, tell_accepted, tell_asked, tell_event}
use Rattle.rk_inv_lanes.proofs.Below.{tell_new, sound_event}
use Rattle.rk_inv_lanes.specs.stands.Backups.{AllBackupsTell}
use Rattle.rk_inv_lanes.specs.Below.{IsSteady}
use Rattle.rk_runs.specs.history.Runs.{IsKeptIn}
use Rattle.rk_runs.proofs.history.Clusters.{IsGood, IsGoodLane}
use Rattle.rk_runs.proofs.history.Histories.{good_run, good_start, one_history}
use Rattle.rk_runs.proofs.history.Lanes.{ClientsKeep, EventsKeep}
use Rattle.rk_runs.proofs.history.Staying.{lanes_stay, records_stay}

-- what is so of a lane from its start on, beside the invariant
abbrev pub Lasts : World → Type 0
Lasts w = IsSteady w × AllBackupsTell w × IsKept w

-- events leave lanes room, and keep them sound and steady
pub events_keep : EventsKeep Lasts
events_keep w event called sound formed room (steady, all, kept) may come told calm none =
    let fits = room_left w event called sound formed room kept may none come calm in (
      fits,
      sound_event w event called sound
          (record {
            formed = formed;
            room = room;
            fits = fits;
            may = may;
            comes = come;
            calm = calm;
            none = none;
            told = told;
            steady = steady;
          }),
      (
        record {
          tell = tell_event w event called steady.tell;
          sealed = sealed_event w event called formed steady.sealed;
        },
        subst (λ (refused : Option StepError). AllBackupsTell (world_stepped w (stepped_by w event called refused))) none
            (all_after w (Happens event called) all),
        kept_event w event called sound formed room kept may none,
      ),
    )

-- and so do clients
pub clients_keep : ClientsKeep Lasts
clients_keep = record {
  asks = λ w session lasts. (
    record { tell = tell_asked w session lasts.0.tell; sealed = sealed_asked w session lasts.0.sealed },
    all_after w (Asks session) lasts.1,
    kept_asked w session lasts.2,
  );
  accepts = λ w number session lasts. (
    record { tell = tell_accepted w number session lasts.0.tell; sealed = sealed_accepted w number session lasts.0.sealed },
    all_after w (Accepts number session) lasts.1,
    kept_accepted w number session lasts.2,
  );
}

-- a run goes on where the first part of it ended
runs_join : (cluster : Cluster) (before after : List Occurrence) → cluster_run cluster (before ++ after) ≡ cluster_run (cluster_run cluster before) after
runs_join cluster [] after = refl
runs_join cluster (occurrence ∷ before) after = runs_join (cluster_after cluster occurrence) before after

module _ (masters backups : ℕ) (few : masters ≤ MOST_MASTERS) (backed : 1 ≤ backups) (few_backups : backups ≤ MOST_BACKUPS) where
  abbrev start : Cluster
  start = new_cluster masters backups

  pub lasts_start : (lane : ℕ) → Lasts (new_world lane masters backups)
  lasts_start lane = search (tell_new, sealed_new, all_new, kept_new)

  pub good_after : (list : List Occurrence) → IsRun start list → IsGood Lasts masters (cluster_run start list)
  good_after list run =
      good_run Lasts masters events_keep clients_keep (λ w lasts. lasts.0.tell) start list
      (good_start Lasts masters backups few backed few_backups lasts_start) run

  -- each lane is there
  pub within : (list : List Occurrence) (lane : ℕ) → lane < LANES → lane < length (cluster_run start list).lanes
  within list lane inside = grind (arith, lanes_stay, length-map-range_with_len, new_world)

  lane_good : (list : List Occurrence) → IsRun start list → (lane : ℕ) → lane < LANES → IsGoodLane Lasts masters lane (lane_at (cluster_run start list) lane)
  lane_good list run lane inside = (good_after list run).lanes lane (within list lane inside)

  pub all_sound : (list : List Occurrence) → IsRun start list → (lane : ℕ) → lane < LANES → IsSound (lane_at (cluster_run start list) lane)
  all_sound list run lane inside = (lane_good list run lane inside).sound

  pub all_formed : (list : List Occurrence) → IsRun start list → (lane : ℕ) → lane < LANES → IsWellFormed (lane_at (cluster_run start list) lane)
  all_formed list run lane inside = (lane_good list run lane inside).formed

  pub all_have_room : (list : List Occurrence) → IsRun start list → (lane : ℕ) → lane < LANES → HasRoom (lane_at (cluster_run start list) lane)
  all_have_room list run lane inside = (lane_good list run lane inside).room

  pub has_history : (list : List Occurrence) → IsRun start list → HasOneHistory (cluster_run start list)
  has_history list run = one_history Lasts masters (cluster_run start list) (good_after list run)

  pub all_true : (list : List Occurrence) → IsRun start list → (lane : ℕ) → lane < LANES
      → All (λ row. IsTruth no_base row.range (truths (view (lane_at (cluster_run start list) lane)) row) (lane_at (cluster_run start list) lane).ledger.journal)
      (lane_at (cluster_run start list) lane).coordinator.rows
  all_true list run lane inside =
      let good = lane_good list run lane inside in
      subst
      (λ (base : Base). All (λ row. IsTruth base row.range (truths (view (lane_at (cluster_run start list) lane)) row) (lane_at (cluster_run start list) lane).ledger.journal)
      (lane_at (cluster_run start list) lane).coordinator.rows)
      good.base_is good.sound.truth.true

  -- if nothing is left to do the stored logs alone give the map
  pub all_stand : (list : List Occurrence) → IsRun start list → IsQuietCluster (cluster_run start list) → (lane : ℕ) → lane < LANES → Stands (lane_at (cluster_run start list) lane)
  all_stand list run quiet lane inside =
      let good = lane_good list run lane inside in
      quiet_stands_in_room (lane_at (cluster_run start list) lane) (map (λ entry. entry.1) (cluster_run start list).sessions) good.sound good.formed
      good.room (own_where_all_tell (lane_at (cluster_run start list) lane) good.steady.1)
      (quiet lane (new_world lane 0 0) (within list lane inside))

  -- what a receipt records is in the journal, whatever comes after
  pub acknowledged : (before after : List Occurrence) (client : ℕ) → IsRun start before → All (IsKeptIn (cluster_run start (before ++ after))) (session_at (cluster_run start before) client).receipts
  acknowledged before after client run =
      All-weaker (IsKeptIn (cluster_run start before)) (IsKeptIn (cluster_run start (before ++ after)))
      (λ (receipt : Receipt) kept.
      let old : Placed = record { call = receipt.call; outcome = receipt.outcome; stamp = receipt.stamp; accepted = true } in
      let still = records_stay (cluster_run start before) after receipt.lane receipt.place old kept in
      subst (λ (cluster : Cluster). IsKeptIn cluster receipt) (sym (runs_join start before after))
      (still.stands ∙ (λ i. Some (record { call = still.call i; outcome = still.outcome i; stamp = still.stamp i; accepted = still.kept refl i }))))
      (session_at (cluster_run start before) client).receipts ((good_after before run).agree client).recorded
