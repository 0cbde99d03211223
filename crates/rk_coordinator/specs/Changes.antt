-- The rows that change at a notice.
use Rattle.std.specs.Prelude.{ℕ, ◌+◌, List, Option, Some, None, fold}
use Rattle.std.specs.List.{flat_map}
use Rattle.std.specs.Option.{option_to_list}
use Rattle.rk_tablet_map.specs.Rows.{changed_rows}
use Rattle.rk_tablet_map.specs.declared.phase.Phase.{Phase}
use Rattle.rk_tablet_map.specs.declared.row.Row.{Row}
use Rattle.rk_world.specs.Coordinator.{Coordinator}
use Rattle.rk_world.specs.Notices.{phase_noticed}
use Rattle.rk_coordinator.specs.declared.coordinator_lane.notices.Change.{Change}

-- a row at its next term, if its phase changes
abbrev pub change_of : Row → Option Phase → Option Change
change_of row None = None
change_of row (Some phase) = Some (record { tablet = row.tablet; term = row.term + 1; phase = phase })

-- the changes of rows once a master is marked as dead
abbrev pub changes_of : Coordinator → ℕ → List Row → List Change
changes_of marked dead rows = flat_map (λ row. option_to_list (change_of row (phase_noticed marked dead row.phase))) rows

-- the rows after changes, one after the other
abbrev pub rows_after : List Row → List Change → List Row
rows_after rows changes = fold (λ now change. changed_rows now change.tablet change.term change.phase) rows changes
