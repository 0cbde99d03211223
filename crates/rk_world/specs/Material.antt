-- Material: the entries of logs that count for a range of hashes.
use Rattle.std.specs.Prelude.{ℕ, ◌-◌, Bool, true, false, bytes_eq, ◌==◌, ◌&&◌, nat_lt, if◌then◌else◌, List, [], ◌∷◌, ◌++◌, filter, fold, drop, slice_index_or, map}
use Rattle.std.specs.List.{flat_map}
use Rattle.rk_types.specs.Range.{meets}
use Rattle.rk_types.specs.declared.held.Held.{Held}
use Rattle.rk_types.specs.declared.range.Range.{Range}
use Rattle.rk_entry.specs.Lists.{is_among}
use Rattle.rk_entry.specs.declared.entry.Entry.{Entry}
use Rattle.rk_entry.specs.declared.entry.Entry.TheVariants as entries
use Rattle.rk_entry.specs.declared.lists.TheConstants.{FIRST_SIDE_SEGMENT}
use Rattle.rk_overlay.specs.Newest.{is_of}
use Rattle.rk_world.specs.Ranges.{has_key, has_all}
use Rattle.rk_world.specs.declared.work.Mark.{Mark}
use Rattle.rk_world.specs.Marks.{unmarked_from}

-- whether an entry counts for a range: an item or a refusal whose key is in it, or a Carried whose range has all of it
abbrev pub counts : Range → Entry → Bool
counts range (entries.Held held) = has_key range held.table held.key
counts range (entries.Refused refused) = has_key range refused.table refused.key
counts range (entries.Carried carried) = has_all carried.range range
counts range (entries.Joined joined) = false

-- the entries that count for a range
abbrev pub counting : Range → List Entry → List Entry
counting range entries = filter (counts range) entries

-- whether an entry concerns a key: an item or a refusal of the key does, and a Carried concerns every key
abbrev pub tells_of : ℕ → List ℕ → Entry → Bool
tells_of table key (entries.Held held) = is_of table key held
tells_of table key (entries.Refused refused) = refused.table == table && bytes_eq refused.key key
tells_of table key (entries.Carried carried) = true
tells_of table key (entries.Joined joined) = false

-- the entries that concern a key
abbrev pub of_key : ℕ → List ℕ → List Entry → List Entry
of_key table key entries = filter (tells_of table key) entries

-- the side segments that an entry makes part of the log for a range
abbrev pub named_by : Range → Entry → List ℕ
named_by range (entries.Held held) = []
named_by range (entries.Refused refused) = []
named_by range (entries.Carried carried) = []
named_by range (entries.Joined joined) = if meets joined.range range then joined.segments else []

-- the numbers with one more, unless it is among them
abbrev pub with_number : List ℕ → ℕ → List ℕ
with_number numbers number = if is_among number numbers then numbers else numbers ++ number ∷ []

-- the side segments that entries make part of the log for a range, each once
abbrev pub named : Range → List Entry → List ℕ
named range entries = fold with_number [] (flat_map (named_by range) entries)

-- whether an entry is a Joined of a range
abbrev pub is_joined_in : Range → Entry → Bool
is_joined_in range (entries.Joined joined) = meets joined.range range
is_joined_in range _ = false

-- the Joined entries of a range from a place on
abbrev pub joined_from : Range → ℕ → List Entry → List Entry
joined_from range from list = filter (is_joined_in range) (drop from list)

-- what counts for a range of these entries of a log: those that count themselves, and then those of the side segments
-- that they name; `side` gives the entries of each side segment
abbrev pub material_of : Range → (ℕ → List Entry) → List Entry → List Entry
material_of range side entries = counting range entries ++ counting range (flat_map side (named range entries))

-- items as the entries of a log
abbrev pub as_entries : List Held → List Entry
as_entries items = map entries.Held items

-- the entries of the side segment of this number; `sides` has the items of each, from the first one on
abbrev pub side_entries : List (List Held) → ℕ → List Entry
side_entries sides number =
    if nat_lt number FIRST_SIDE_SEGMENT then [] else as_entries (slice_index_or sides (number - FIRST_SIDE_SEGMENT) [])

-- what counts for a range of these entries of a log: those from a place on that bear no mark, and the items of the side
-- segments that they name
abbrev pub log_material : Range → List Mark → List (List Held) → ℕ → List Entry → List Entry
log_material range marks sides place entries = material_of range (side_entries sides) (unmarked_from marks place entries)
