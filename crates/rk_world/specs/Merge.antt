-- What a rebuilding master merges of what it gathered: the newest items, a floor, and the last end of each client.
use Rattle.std.specs.Prelude.{ℕ, ◌+◌, Bool, not, ◌==◌, ◌&&◌, nat_lt, max, if◌then◌else◌, List, [], ◌∷◌, ◌++◌, filter, fold, map, Option, Some, None, bytes_eq}
use Rattle.std.specs.List.{flat_map, list_any}
use Rattle.rk_types.specs.NumberMap.{get}
use Rattle.rk_types.specs.declared.call.Ended.{Ended}
use Rattle.rk_types.specs.declared.held.Held.{Held}
use Rattle.rk_entry.specs.declared.entry.Entry.{Entry}
use Rattle.rk_entry.specs.declared.entry.Entry.TheVariants as entries
use Rattle.rk_done.specs.Completions.{ended_of, completions_from}
use Rattle.rk_done.specs.declared.completion.Completion.{Completion}
use Rattle.rk_overlay.specs.Overlay.{newest_items}
use Rattle.rk_world.specs.declared.work.Merged.{Merged}
use Rattle.rk_world.specs.Ends.{told, items_of}

-- whether an item of this key and version is among these
abbrev pub has_version : List Held → Held → Bool
has_version items item =
    list_any (λ other. other.table == item.table && bytes_eq other.key item.key && (other.version == item.version)) items

-- the newest items of all, in order of their versions, except those that the own entries have
abbrev pub copies_of : List Held → List Held → List Held
copies_of own all = filter (λ item. not (has_version own item)) (newest_items all)

-- a floor, raised by an entry: it is above the version of an item, and not below the floor of a Carried
abbrev pub floor_by : ℕ → Entry → ℕ
floor_by floor (entries.Held held) = max floor (held.version + 1)
floor_by floor (entries.Refused refused) = floor
floor_by floor (entries.Carried carried) = max floor carried.floor
floor_by floor (entries.Joined joined) = floor

-- the least number that is above each version and not below each floor, and at least 1
abbrev pub floor_of : List Entry → ℕ
floor_of entries = fold floor_by 1 entries

-- whether an end is of the same call as another one
abbrev pub is_same_call : Ended → Ended → Bool
is_same_call a b = a.client == b.client && (a.seq == b.seq)

-- whether the second end is of a later call of the first one's client
abbrev pub is_outrun_by : Ended → Ended → Bool
is_outrun_by a b = a.client == b.client && nat_lt a.seq b.seq

-- whether the place of an end is here: no end is of a later call of its client, and none of a later member, and none before it
-- here, is of the same call
abbrev pub is_placed : List Ended → List Ended → List Ended → Ended → Bool
is_placed all later seen end =
    not (list_any (is_outrun_by end) all) && not (list_any (is_same_call end) (later ++ seen))

-- the ends of one member that have their place there, behind those that were seen of it
abbrev pub placed_ends : List Ended → List Ended → List Ended → List Ended → List Ended
placed_ends all later seen [] = []
placed_ends all later seen (end ∷ ends) =
    if is_placed all later seen end
    then end ∷ placed_ends all later (seen ++ end ∷ []) ends
    else placed_ends all later (seen ++ end ∷ []) ends

-- the ends of members that have their place there, member by member
abbrev pub ends_by_place : List Ended → List (List Ended) → List Ended
ends_by_place all [] = []
ends_by_place all (ends ∷ later) = placed_ends all (flat_map (λ told. told) later) [] ends ++ ends_by_place all later

-- the end that counts for a call is the first that is recorded of it
abbrev pub first_told : Ended → Option Completion → Ended
first_told end None = end
first_told end (Some last) = ended_of (end.client, last)

-- the last end of each client, in the order of the members that record it last, and within a member by place
abbrev pub merged_ends : List (List Entry) → List Ended
merged_ends members =
    let all = flat_map told members in
    map (λ end. first_told end (get (completions_from [] all) end.client)) (ends_by_place all (map told members))

-- what a rebuild makes of its own entries and of what counts of each member
abbrev pub merge : List Entry → List (List Entry) → Merged
merge own members =
    let all = flat_map (λ entries. entries) members in
    record { copies = copies_of (items_of own) (items_of all); floor = floor_of all; ends = merged_ends members }
