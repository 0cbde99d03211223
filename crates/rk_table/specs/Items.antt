-- The items of a table, as a list in scan order: what is found in it, and how it changes.
use Rattle.std.specs.Prelude.{ℕ, Bool, true, not, ◌==◌, ◌&&◌, nat_lt, if◌then◌else◌, List, ◌∷◌, ◌++◌, Option, Some, None, is_some, bytes_eq, filter, find}
use Rattle.rk_types.specs.declared.held.Held.{Held}
use Rattle.rk_types.specs.declared.range.Range.{Range}
use Rattle.rk_types.specs.Range.{has}
use Rattle.rk_table.specs.Order.{item_hash, is_before}

-- whether an item is that of a key of a table
abbrev pub is_at : ℕ → List ℕ → Held → Bool
is_at table key item = item.table == table && bytes_eq item.key key

-- the item of a key of a table
abbrev pub found : ℕ → List ℕ → List Held → Option Held
found table key items = find (is_at table key) items

-- whether an item is newer than the item that is there; if none is there, it is
abbrev pub is_newer : Held → Option Held → Bool
is_newer item None = true
is_newer item (Some old) = nat_lt old.version item.version

-- the items with this one at its place; one with its key is gone
abbrev pub with_item : Held → List Held → List Held
with_item item items =
    filter (λ other. is_before other item) items ++ item ∷ filter (λ other. is_before item other) items

-- the items after one was put: it is at its place if it is newer than what was there, and otherwise nothing changes
abbrev pub with_newer : Held → List Held → List Held
with_newer item items =
    if is_newer item (found item.table item.key items) then with_item item items else items

-- whether an item's table and hash are in a range
abbrev pub is_in : Range → Held → Bool
is_in range item = has range item.table (item_hash item)

-- whether an item is in a range and is no tombstone
abbrev pub is_live_in : Range → Held → Bool
is_live_in range item = is_some item.value && is_in range item

-- the live items of a range
abbrev pub live_in : Range → List Held → List Held
live_in range items = filter (is_live_in range) items

-- the items with this hash
abbrev pub at_hash : ℕ → List Held → List Held
at_hash hash items = filter (λ item. item_hash item == hash) items

-- the items outside a range
abbrev pub without : Range → List Held → List Held
without range items = filter (λ item. not (is_in range item)) items
