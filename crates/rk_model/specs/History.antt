-- A history: records in the order in which they took effect, and the map that they leave.
use Rattle.std.specs.Prelude.{◌≡◌, ℕ, ◌<◌, ◌==◌, ◌&&◌, Bool, List, [], ◌∷◌, length, take, filter, slice_get, Option, Some, None, IfSome, ⊤, bytes_eq, if◌then◌else◌}
use Rattle.rk_types.specs.declared.history.Placed.{Placed}
use Rattle.rk_model.specs.Machine.{Entry, never, live, gone, Allowed, change_of}

-- a map: what is at each key of each table
abbrev pub Map : Type 0
Map = ℕ → List ℕ → Entry

-- the map of no records
abbrev pub empty_map : Map
empty_map table key = never

-- a map with another entry at one key
abbrev pub with_entry : Map → ℕ → List ℕ → Entry → Map
with_entry map table key entry t k = if t == table && bytes_eq k key then entry else map t k

-- a map after a change at one key, if there is one
abbrev pub with_change : Map → ℕ → List ℕ → Option Entry → Map
with_change map table key None = map
with_change map table key (Some entry) = with_entry map table key entry

-- a map after one more record
abbrev pub map_with : Map → Placed → Map
map_with map placed =
    with_change map placed.call.table placed.call.key (change_of placed.call.op placed.outcome)

-- the map after a history that started from a map
abbrev pub map_after : Map → List Placed → Map
map_after start [] = start
map_after start (placed ∷ history) = map_after (map_with start placed) history

-- each record has an outcome that the map before it allows
abbrev pub IsLegal : Map → List Placed → Type 0
IsLegal start [] = ⊤
IsLegal start (placed ∷ history) =
    Allowed (start placed.call.table placed.call.key) placed.call.op placed.outcome
    × IsLegal (map_with start placed) history

-- the version and value of the record that an entry has
abbrev pub record_of : Entry → Option (ℕ × List ℕ)
record_of never = None
record_of (live version value) = Some (version, value)
record_of (gone version) = None

-- the records after a history, without those that were removed
abbrev pub live_after : Map → List Placed → ℕ → List ℕ → Option (ℕ × List ℕ)
live_after start history table key = record_of (map_after start history table key)

-- whether a record is of this table and key
abbrev pub is_at : ℕ → List ℕ → Placed → Bool
is_at table key placed = placed.call.table == table && bytes_eq placed.call.key key

-- the records that a history has of one key of a table
abbrev pub records_at : ℕ → List ℕ → List Placed → List Placed
records_at table key history = filter (is_at table key) history

-- a record that leaves the map as it is, as a read does
abbrev pub ChangesNothing : Placed → Type 0
ChangesNothing placed = change_of placed.call.op placed.outcome ≡ None

-- a record that a map allows
abbrev pub IsAllowedIn : Map → Placed → Type 0
IsAllowedIn map placed = Allowed (map placed.call.table placed.call.key) placed.call.op placed.outcome

-- the place of the first record that the map before it does not allow
pub record IsFirstWrong (history : List Placed) (place : ℕ) : Type 0 where
  pub within : place < length history
  pub legal_before : IsLegal empty_map (take place history)
  pub wrong :
      IfSome (slice_get history place) (λ placed. IsAllowedIn (map_after empty_map (take place history)) placed → ⊥)
