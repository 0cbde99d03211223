-- A tablet begins to move: when that is refused, and its row then.
use Rattle.std.specs.Prelude.{ℕ, ◌==◌, if◌then◌else◌, Option, Some, None}
use Rattle.rk_tablet_map.specs.Rows.{row_of}
use Rattle.rk_tablet_map.specs.declared.phase.Phase.{Phase}
use Rattle.rk_tablet_map.specs.declared.phase.Phase.TheVariants.{Owned, Opening}
use Rattle.rk_tablet_map.specs.declared.row.Row.{Row}
use Rattle.rk_world.specs.declared.error.MoveError.{MoveError}
use Rattle.rk_world.specs.declared.error.MoveError.TheVariants as moves
use Rattle.rk_world.specs.Coordinator.{Coordinator, is_noticed, with_term}

-- why a row cannot move to a master, in the order of the tests
abbrev pub migrate_fault_by : Coordinator → Row → Phase → ℕ → Option MoveError
migrate_fault_by coordinator row (Owned master from) to =
    if master == to then Some (moves.SameMaster to)
    else if is_noticed coordinator to then Some (moves.DeadMaster to)
    else None
migrate_fault_by coordinator row _ to = Some (moves.NotOwned row.term)

-- why a row, if there is one, cannot move to a master
abbrev pub migrate_fault_of : Coordinator → Option Row → ℕ → Option MoveError
migrate_fault_of coordinator None to = Some moves.NoTablet
migrate_fault_of coordinator (Some row) to = migrate_fault_by coordinator row row.phase to

-- why a tablet cannot move to a master
abbrev pub migrate_fault : Coordinator → ℕ → ℕ → Option MoveError
migrate_fault coordinator tablet to = migrate_fault_of coordinator (row_of coordinator.rows tablet) to

-- a row begins to move, at the next term
abbrev pub migration_begun : Coordinator → Row → ℕ → ℕ → ℕ → Coordinator
migration_begun coordinator row master from to = with_term coordinator row (Opening master from to None)

-- a tablet that is owned begins to move
abbrev pub migrating : Coordinator → Row → Phase → ℕ → Coordinator
migrating coordinator row (Owned master from) to = migration_begun coordinator row master from to
migrating coordinator row _ to = coordinator

-- a row, if there is one, begins to move
abbrev pub row_migrated : Coordinator → Option Row → ℕ → Coordinator
row_migrated coordinator None to = coordinator
row_migrated coordinator (Some row) to = migrating coordinator row row.phase to

-- a tablet begins to move
abbrev pub tablet_migrated : Coordinator → ℕ → ℕ → Coordinator
tablet_migrated coordinator tablet to = row_migrated coordinator (row_of coordinator.rows tablet) to
