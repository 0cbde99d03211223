-- What a history starts from.
use Rattle.std.specs.Prelude.{ℕ, map, List, [], ◌∷◌, ◌++◌, Option, Some, None}
use Rattle.rk_types.specs.declared.call.Ended.{Ended}
use Rattle.rk_types.specs.declared.held.Held.{Held}
use Rattle.rk_types.specs.declared.range.Range.{Range}
use Rattle.rk_model.specs.History.{Map}
use Rattle.rk_model.specs.Machine.{Entry as MapEntry, live, gone, never}
use Rattle.rk_entry.specs.declared.entry.Entry.{Entry}
use Rattle.rk_entry.specs.declared.entry.Entry.TheVariants as entries
use Rattle.rk_overlay.specs.Newest.{newest}
use Rattle.rk_world.specs.Ends.{item_end}
use Rattle.rk_world.specs.Material.{counting, as_entries}

-- what a history starts from: the items that were there, and the last end of each client
pub record Base : Type 0 where
  pub items : List Held
  pub ends : List Ended

-- nothing was there
abbrev pub no_base : Base
no_base = record { items = []; ends = [] }

-- the entry of the map that an item leaves
abbrev pub map_entry_of : Held → Option (List ℕ) → MapEntry
map_entry_of item (Some value) = live item.version value
map_entry_of item None = gone item.version

-- the entry of the map that the newest item of a key leaves, if there is one
abbrev pub newest_entry : Option Held → MapEntry
newest_entry None = never
newest_entry (Some item) = map_entry_of item item.value

-- the map that a base leaves: of each key its newest item
abbrev pub base_map : Base → Map
base_map base table key = newest_entry (newest base.items table key)

-- the ends that a base records: those that it has, and those of the calls that left its items
abbrev pub ends_told : Base → List Ended
ends_told base = base.ends ++ map item_end base.items

-- what a base has of a range, as the entries of a log: the items, and one entry with the ends
abbrev pub base_entries : Base → Range → List Entry
base_entries base range =
    counting range (as_entries base.items)
    ++ entries.Carried (record { range = range; term = 0; floor = 1; ends = base.ends }) ∷ []
