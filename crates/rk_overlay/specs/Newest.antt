-- The newest item of each key of each table.
use Rattle.std.specs.Prelude.{◌≡◌, ℕ, ◌<◌, ◌≤◌, Bool, true, false, ◌&&◌, ◌==◌, nat_lt, if◌then◌else◌, bytes_eq, List, [], ◌∷◌, slice_index_or, Contains, Option, Some, None}
use Rattle.rk_types.specs.declared.held.Held.{Held}

-- whether an item is of the record with this table and key
abbrev pub is_of : ℕ → List ℕ → Held → Bool
is_of table key held = (held.table == table) && bytes_eq held.key key

-- what is found at each key of each table: an item, or nothing
abbrev pub Found : Type 0
Found = ℕ → List ℕ → Option Held

-- nothing is found anywhere
abbrev pub none_found : Found
none_found table key = None

-- the newer of what was found at a key and one more item of it, which is newer only with a greater version
abbrev pub newer_of : Option Held → Held → Held
newer_of None item = item
newer_of (Some old) item = if nat_lt old.version item.version then item else old

-- what is found after one more item
abbrev pub with_newer : Found → Held → Found
with_newer found item table key =
    if is_of table key item then Some (newer_of (found table key) item) else found table key

-- the newest items of what was found before and of a list, taken item by item
abbrev pub newest_from : Found → List Held → Found
newest_from found [] = found
newest_from found (item ∷ items) = newest_from (with_newer found item) items

-- the newest item of each key in a list
abbrev pub newest : List Held → Found
newest items = newest_from none_found items

-- an item of a record that is in a list, and none of the record there has a greater version
pub record IsNewest (items : List Held) (table : ℕ) (key : List ℕ) (item : Held) : Type 0 where
  pub stands : Contains items item
  pub of_record : is_of table key item ≡ true
  pub greatest : (other : Held) → Contains items other → is_of table key other ≡ true → other.version ≤ item.version

-- no item of a list is of the record
abbrev pub HasNone : List Held → ℕ → List ℕ → Type 0
HasNone items table key = (item : Held) → Contains items item → is_of table key item ≡ false

-- among the items before `end`, the one at `place` is of the record, none of the record has a greater version, and none
-- before it has the same
pub record IsNewestBefore (items : List Held) (table : ℕ) (key : List ℕ) (end place : ℕ) : Type 0 where
  pub within : place < end
  pub of_record : (d : Held) → is_of table key (slice_index_or items place d) ≡ true
  pub greatest : (k : ℕ) (d : Held) → k < end → is_of table key (slice_index_or items k d) ≡ true → (slice_index_or items k d).version ≤ (slice_index_or items place d).version
  pub first : (k : ℕ) (d : Held) → k < place → is_of table key (slice_index_or items k d) ≡ true → (slice_index_or items k d).version < (slice_index_or items place d).version

-- none of the items before `end` is of the record
abbrev pub HasNoneBefore : List Held → ℕ → List ℕ → ℕ → Type 0
HasNoneBefore items table key end = (k : ℕ) (d : Held) → k < end → is_of table key (slice_index_or items k d) ≡ false

-- the newest among the items before `end`, or none if none of them is of the record
abbrev pub IsBestBefore : List Held → ℕ → List ℕ → ℕ → Option ℕ → Type 0
IsBestBefore items table key end None = HasNoneBefore items table key end
IsBestBefore items table key end (Some place) = IsNewestBefore items table key end place
