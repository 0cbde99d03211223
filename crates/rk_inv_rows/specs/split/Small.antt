-- What a split makes of rows.
use Rattle.std.specs.Prelude.{ℕ, ◌+◌, List}
use Rattle.rk_tablet_map.specs.Rows.{lower_part, placed, replaced, upper_part}
use Rattle.rk_tablet_map.specs.declared.row.Row.{Row}
use Rattle.rk_transfer.specs.declared.handover.Handover.{Handover}
use Rattle.rk_transfer.specs.declared.role.Role.TheVariants as roles
use Rattle.rk_types.specs.declared.range.Range.{Range}
use Rattle.rk_world.specs.Splits.{owner_split, with_rows_split}
use Rattle.rk_world.specs.World.{World, with_coordinator}

-- the halves of a row, at the next term
abbrev pub lower_row : Row → ℕ → Row
lower_row row at = record (lower_part row at) { term = row.term + 1 }

abbrev pub upper_row : Row → ℕ → ℕ → Row
upper_row row at new = record (upper_part row at new) { term = row.term + 1 }

-- the rows with both halves in the place of a row
abbrev pub rows_halved : List Row → Row → ℕ → ℕ → List Row
rows_halved rows row at new =
    replaced new (upper_row row at new)
    (replaced row.tablet (lower_row row at) (placed (upper_part row at new) (replaced row.tablet (lower_part row at) rows)))

-- a half of a tablet is served from now on, with the tablet's counter
abbrev pub as_half : Handover → Range → ℕ → Handover
as_half handover range term = record { role = roles.Serving; term = term; range = range; counter = handover.counter }

-- an owned row is split, and its owner, if it lives, serves both halves
abbrev pub row_split_in : World → Row → ℕ → ℕ → World
row_split_in w row at new =
    with_coordinator (owner_split w row.tablet row.phase at new (row.term + 1)) (with_rows_split w.coordinator row at new)
