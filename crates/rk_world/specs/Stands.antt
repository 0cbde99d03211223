-- What the replicas stand for: what a backup stores of a row has just the records of the history.
use Rattle.std.specs.Prelude.{List, All, drop}
use Rattle.std.specs.List.{flat_map}
use Rattle.rk_types.specs.declared.lineage.Member.{Member}
use Rattle.rk_types.specs.declared.range.Range.{Range}
use Rattle.rk_outside.specs.Segments.{Segments, bytes_of}
use Rattle.rk_model.specs.History.{live_after}
use Rattle.rk_entry.specs.Entries.{entries_of}
use Rattle.rk_entry.specs.declared.entry.Entry.{Entry}
use Rattle.rk_log.specs.Stored.{stored_entries}
use Rattle.rk_tablet_map.specs.Phase.{lineage_of}
use Rattle.rk_tablet_map.specs.declared.row.Row.{Row}
use Rattle.rk_overlay.specs.Live.{live as live_items}
use Rattle.rk_world.specs.Ranges.{AgreeIn}
use Rattle.rk_world.specs.Ends.{items_of}
use Rattle.rk_world.specs.Material.{material_of}
use Rattle.rk_world.specs.Base.{base_map}
use Rattle.rk_world.specs.Gather.{LAST_MAIN_SEGMENT}
use Rattle.rk_world.specs.World.{World}

-- what a backup stores of a member of a lineage that counts for a range
abbrev pub stored_material : Segments → Range → Member → List Entry
stored_material segments range member =
    material_of range (λ segment. entries_of (bytes_of (segments member.master segment)))
    (drop member.from (stored_entries LAST_MAIN_SEGMENT (segments member.master)))

-- what a backup stores that counts for a row
abbrev pub stored_for : Segments → Row → List Entry
stored_for segments row = flat_map (stored_material segments row.range) (lineage_of row.phase)

-- what a backup stores of a row's lineage has just the records of the history in the row's range
abbrev pub StandsIn : World → Row → Segments → Type 0
StandsIn w row segments =
    AgreeIn row.range (live_items (items_of (stored_for segments row)))
    (live_after (base_map w.base) w.ledger.journal)

-- the replicas of all backups stand for the records of the history
abbrev pub Stands : World → Type 0
Stands w = All (λ row. All (λ backup. StandsIn w row backup.1) w.backups) w.coordinator.rows
