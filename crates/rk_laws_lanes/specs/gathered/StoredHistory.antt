-- What backups store of one history.
use Rattle.std.specs.Prelude.{◌≡◌, ℕ, true, All, List}
use Rattle.rk_model.specs.History.{empty_map, live_after}
use Rattle.rk_model.specs.Merged.{lane_of_key, merged, records_of}
use Rattle.rk_overlay.specs.Live.{live as live_items}
use Rattle.rk_world.specs.Cluster.{Cluster, journals_of}
use Rattle.rk_world.specs.Ends.{items_of}
use Rattle.rk_world.specs.Ranges.{has_key}
use Rattle.rk_world.specs.Stands.{stored_for}
use Rattle.rk_world.specs.World.{World}
use Rattle.rk_outside.specs.Segments.{Segments}
use Rattle.rk_tablet_map.specs.declared.row.Row.{Row}

-- what a backup of a lane stores of a row has just the records that the one history has of the keys of this lane in the row's range
abbrev pub StoresHistory : Cluster → ℕ → Row → Segments → Type 0
StoresHistory cluster lane row segments =
    (table : ℕ) (key : List ℕ) → has_key row.range table key ≡ true → lane_of_key key ≡ lane
    → live_items (items_of (stored_for segments row)) table key
    ≡ live_after empty_map (records_of (merged (journals_of cluster))) table key

-- each backup of a lane does, of each row
abbrev pub HistoryIsStored : Cluster → ℕ → World → Type 0
HistoryIsStored cluster lane w =
    All (λ row. All (λ backup. StoresHistory cluster lane row backup.1) w.backups) w.coordinator.rows
