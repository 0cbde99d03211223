-- What contracts see of a sorted table.
use Rattle.std.specs.Prelude.{ℕ, ◌-◌, List, vec_len, vec_capacity}
use Rattle.rk_types.specs.declared.held.Held.{Held}
use Rattle.rk_table.specs.declared.sorted.SortedTable.{SortedTable}

-- its items, in scan order
abbrev pub items_of : SortedTable → List Held
items_of table = table.slots.items

-- how many more items it has room for
abbrev pub spare_of : SortedTable → ℕ
spare_of table = vec_capacity table.slots - vec_len table.slots
