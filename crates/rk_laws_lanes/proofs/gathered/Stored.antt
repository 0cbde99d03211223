-- If a gathered lane is quiet, its backups store what the one history has of it.
use Rattle.std.proofs.Common.{◌≡◌, ℕ, ◌<◌, List, length, sym, ap, ◌∙◌, subst, All}
use Rattle.rk_inv_base.proofs.Words.{All-weaker, Segments, Row, live_after, map_after, HasOwnKeys, IsRisingAbove, journal_of, lane_of_key}
use Rattle.rk_inv_base.proofs.Words.{Placed, Base, base_map, Session, Cluster, lane_at, World}
use Rattle.rk_model.specs.History.{empty_map, record_of}
use Rattle.rk_model.specs.Merged.{merged, records_of}
use Rattle.rk_model.proofs.Lanes.{map_after_merged}
use Rattle.rk_world.specs.Cluster.{journals_of}
use Rattle.rk_world.specs.Quiet.{IsQuiet}
use Rattle.rk_world.specs.Stands.{Stands, StandsIn}
use Rattle.rk_world.specs.World.{live_masters}
use Rattle.rk_runs.proofs.Below.{quiet_stands_in_room}
use Rattle.rk_runs.proofs.Below.{own_where_all_tell}
use Rattle.rk_laws_lanes.specs.GoodLane.{IsGoodLane}
use Rattle.rk_laws_lanes.specs.gathered.StoredHistory.{HistoryIsStored, StoresHistory}
use Rattle.rk_laws_lanes.proofs.gathered.Lanes.{lawful}
use Rattle.rk_runs.proofs.history.Clusters.{ledgers_of}
use Rattle.rk_runs.proofs.history.Journals.{journals_are}

module _ (masters : ℕ) (cluster : Cluster) (good : (lane : ℕ) → lane < length cluster.lanes → IsGoodLane masters lane (lane_at cluster lane)) where
  -- the one history has of a key what the journal of the key's lane has
  same_record : (lane table : ℕ) (key : List ℕ) → lane_of_key key ≡ lane
      → live_after empty_map (ledgers_of cluster lane).journal table key ≡ live_after empty_map
      (records_of (merged (journals_of cluster))) table key
  same_record lane table key here =
      let journals : List (List Placed) = journals_of cluster in
      let one =
      map_after_merged empty_map journals table key
      (λ lane. subst (IsRisingAbove 0) (sym (journals_are cluster lane)) (lawful cluster masters good lane).rising)
      (λ lane. subst (HasOwnKeys lane) (sym (journals_are cluster lane)) (lawful cluster masters good lane).own_keys) in
      ap (λ (journal : List Placed). record_of (map_after empty_map journal table key))
      (sym (journals_are cluster lane) ∙ ap (journal_of journals) (sym here))
      ∙ ap record_of (sym one)

  module _ (lane : ℕ) (inside : lane < length cluster.lanes) (sessions : List Session) where
    abbrev w : World
    w = lane_at cluster lane

    pub stored : IsQuiet w.coordinator.rows w.crashed (live_masters w) sessions → HistoryIsStored cluster lane w
    stored quiet =
        let its = good lane inside in
        let stands : Stands w = quiet_stands_in_room w sessions its.sound its.formed its.room (own_where_all_tell w its.told) quiet in
        All-weaker (λ (row : Row). All (λ (backup : ℕ × Segments). StandsIn w row backup.1) w.backups)
        (λ (row : Row). All (λ (backup : ℕ × Segments). StoresHistory cluster lane row backup.1) w.backups)
        (λ row each.
        All-weaker (λ (backup : ℕ × Segments). StandsIn w row backup.1) (λ (backup : ℕ × Segments). StoresHistory cluster lane row backup.1)
        (λ backup agree table key within here.
        agree table key within
        ∙ ap (λ (base : Base). live_after (base_map base) w.ledger.journal table key) its.base_is
        ∙ same_record lane table key here)
        w.backups each)
        w.coordinator.rows stands
