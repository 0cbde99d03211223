-- What the records and the items of a worker become when items are replayed.
use Rattle.std.specs.Prelude.{ℕ, List, [], ◌∷◌, ◌++◌, fold, if◌then◌else◌, slice_set}
use Rattle.rk_types.specs.declared.held.Held.{Held}
use Rattle.rk_table.specs.Items.{found, is_newer, with_newer}
use Rattle.rk_world.specs.Master.{Master, with_tablet}
use Rattle.rk_world.specs.Pulls.{with_pulling}
use Rattle.rk_world.specs.Tablet.{Tablet}

-- the records, and the items of a worker
pub record Replayed : Type 0 where
  pub records : List Held
  pub items : List Held

-- an item goes to both if it is newer than what the records have of its key
abbrev pub with_replayed : Replayed → Held → Replayed
with_replayed now item =
    if is_newer item (found item.table item.key now.records)
    then record { records = with_newer item now.records; items = now.items ++ item ∷ [] }
    else now

-- items are replayed into records and the items of a worker, one after the other
abbrev pub side_replayed : List Held → List Held → List Held → Replayed
side_replayed records side items = fold with_replayed (record { records = records; items = side }) items

-- a master that has these records, and in a tablet these items of a worker
abbrev pub master_with : Master → ℕ → Tablet → ℕ → Replayed → Master
master_with master number tablet worker now =
    with_tablet (record master { records = now.records }) number
    (with_pulling tablet (record tablet.pulling { sides = slice_set tablet.pulling.sides worker now.items }))
