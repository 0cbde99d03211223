-- A tablet is split: when that is refused, its rows then, and what its owner makes of it.
use Rattle.std.specs.Prelude.{ℕ, ◌+◌, ◌&&◌, Bool, nat_le, nat_lt, if◌then◌else◌, Option, Some, None}
use Rattle.std.specs.Option.{option_map}
use Rattle.rk_types.specs.declared.range.Range.{Range}
use Rattle.rk_transfer.specs.declared.role.Role.TheVariants as roles
use Rattle.rk_tablet_map.specs.Rows.{row_of, split_fault, split_rows, changed_rows}
use Rattle.rk_tablet_map.specs.declared.phase.Phase.{Phase}
use Rattle.rk_tablet_map.specs.declared.phase.Phase.TheVariants.{Owned}
use Rattle.rk_tablet_map.specs.declared.row.Row.{Row}
use Rattle.rk_world.specs.declared.error.MoveError.{MoveError}
use Rattle.rk_world.specs.declared.error.MoveError.TheVariants as moves
use Rattle.rk_world.specs.Ranges.{range_below, range_from}
use Rattle.rk_world.specs.Tablet.{Tablet, without_merged}
use Rattle.rk_world.specs.Master.{Master, tablet_at, with_tablet}
use Rattle.rk_world.specs.Coordinator.{Coordinator}
use Rattle.rk_world.specs.World.{World, master_at, has_crashed, with_master, with_coordinator}

-- why a row cannot be split, in the order of the tests
abbrev pub tablet_split_fault_by : Coordinator → Row → Phase → ℕ → ℕ → Option MoveError
tablet_split_fault_by coordinator row (Owned master from) at new = option_map moves.Map (split_fault coordinator.rows row.tablet at new)
tablet_split_fault_by coordinator row _ at new = Some (moves.NotOwned row.term)

-- why a row, if there is one, cannot be split
abbrev pub tablet_split_fault_of : Coordinator → Option Row → ℕ → ℕ → Option MoveError
tablet_split_fault_of coordinator None at new = Some moves.NoTablet
tablet_split_fault_of coordinator (Some row) at new = tablet_split_fault_by coordinator row row.phase at new

-- why a tablet cannot be split
abbrev pub tablet_split_fault : Coordinator → ℕ → ℕ → ℕ → Option MoveError
tablet_split_fault coordinator tablet at new = tablet_split_fault_of coordinator (row_of coordinator.rows tablet) at new

-- a tablet is split: both rows have its phase, at the next term
abbrev pub with_rows_split : Coordinator → Row → ℕ → ℕ → Coordinator
with_rows_split coordinator row at new = record coordinator {
  rows =
      changed_rows (changed_rows (split_rows coordinator.rows row.tablet at new) row.tablet (row.term + 1) row.phase)
      new (row.term + 1) row.phase;
}

-- a row, if there is one, is split
abbrev pub rows_split_of : Coordinator → Option Row → ℕ → ℕ → Coordinator
rows_split_of coordinator None at new = coordinator
rows_split_of coordinator (Some row) at new = with_rows_split coordinator row at new

-- a tablet is split at a hash
abbrev pub rows_split : Coordinator → ℕ → ℕ → ℕ → Coordinator
rows_split coordinator tablet at new = rows_split_of coordinator (row_of coordinator.rows tablet) at new

-- a tablet is served from now on with another range, at another term
abbrev pub with_half : Tablet → Range → ℕ → Tablet
with_half tablet range term = record (without_merged tablet) {
  handover = record { role = roles.Serving; term = term; range = range; counter = tablet.handover.counter };
}

-- both parts of a tablet are served at the new term, with its counter and its completions
abbrev pub with_halves : Master → ℕ → Tablet → ℕ → ℕ → ℕ → Master
with_halves master number tablet at new term =
    with_tablet (with_tablet master number (with_half tablet (range_below tablet.handover.range at) term)) new
    (with_half tablet (range_from tablet.handover.range at) term)

-- whether both parts of a range have a hash, if it is split at this one
abbrev pub has_parts : Range → ℕ → Bool
has_parts range at = nat_lt range.first at && nat_le at range.last

-- a tablet is split at a hash, if both parts have one
abbrev pub with_split : Master → ℕ → ℕ → ℕ → ℕ → Master
with_split master number at new term =
    let tablet = tablet_at master number in
    if has_parts tablet.handover.range at then with_halves master number tablet at new term else master

-- the owner of a split tablet serves both parts, if it lives
abbrev pub owner_split : World → ℕ → Phase → ℕ → ℕ → ℕ → World
owner_split w tablet (Owned master from) at new term =
    if has_crashed w master then w else with_master w master (with_split (master_at w master) tablet at new term)
owner_split w tablet _ at new term = w

-- the owner of a row, if there is one, serves both parts of the tablet
abbrev pub row_split : World → Option Row → ℕ → ℕ → World
row_split w None at new = w
row_split w (Some row) at new = owner_split w row.tablet row.phase at new (row.term + 1)

-- a tablet is split
abbrev pub tablet_split : World → ℕ → ℕ → ℕ → World
tablet_split w tablet at new =
    with_coordinator (row_split w (row_of w.coordinator.rows tablet) at new)
    (rows_split w.coordinator tablet at new)
