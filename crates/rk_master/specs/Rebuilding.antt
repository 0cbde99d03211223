-- What a rebuild needs of a master in code, and what it takes of the own log.
use Rattle.std.specs.Prelude.{◌≡◌, ℕ, ◌-◌, true, nat_lt, if◌then◌else◌, List, [], drop, fold, slice_index_or}
use Rattle.std.specs.List.{All}
use Rattle.rk_types.specs.NumberMap.{NumberMap, get_or, insert}
use Rattle.rk_types.specs.declared.held.Held.{Held}
use Rattle.rk_types.specs.declared.range.Range.{Range}
use Rattle.rk_entry.specs.Entries.{entries_of}
use Rattle.rk_entry.specs.Lawful.{IsLawfulEntry}
use Rattle.rk_entry.specs.Lists.{is_among}
use Rattle.rk_entry.specs.declared.entry.Entry.{Entry}
use Rattle.rk_entry.specs.declared.lists.TheConstants.{FIRST_SIDE_SEGMENT}
use Rattle.rk_log.specs.Log.{Log, with_entry}
use Rattle.rk_world.specs.Master.{Master}
use Rattle.rk_world.specs.Material.{as_entries, material_of, side_entries}
use Rattle.rk_master.specs.Sides.{items_of_sides}

-- each entry of its log can be spelled
abbrev pub CanBeSpelled : Master → Type 0
CanBeSpelled master = All IsLawfulEntry master.log.entries

-- a log with these items at its end
abbrev pub with_items : Log → List Held → Log
with_items log items = fold with_entry log (as_entries items)

-- the entries of the side segment of this number, given the bytes of each, from the first one on
abbrev pub side_read : List (List ℕ) → ℕ → List Entry
side_read sides number =
    if nat_lt number FIRST_SIDE_SEGMENT then [] else entries_of (slice_index_or sides (number - FIRST_SIDE_SEGMENT) [])

-- what was read, with one more side segment
abbrev pub with_side_read : List (List ℕ) → NumberMap (List Entry) → ℕ → NumberMap (List Entry)
with_side_read sides read number = insert read number (side_read sides number)

-- the entries of each of these side segments were read
abbrev pub AreRead : NumberMap (List Entry) → List (List ℕ) → List ℕ → Type 0
AreRead read sides numbers = (number : ℕ) → is_among number numbers ≡ true → get_or [] read number ≡ side_read sides number

-- what counts for a range of a log from a place on
abbrev pub own_counted : Log → Range → ℕ → List Entry
own_counted log range from = material_of range (side_entries (items_of_sides log.sides)) (drop from log.entries)
