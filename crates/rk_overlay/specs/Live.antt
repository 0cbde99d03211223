-- The records that a list of items leaves: each key whose newest item is no tombstone.
use Rattle.std.specs.Prelude.{◌≡◌, ℕ, List, Option, Some, None}
use Rattle.std.specs.Option.{option_map}
use Rattle.rk_types.specs.declared.held.Held.{Held}
use Rattle.rk_overlay.specs.Newest.{Found, none_found, newest_from, IsNewest}

-- the version and value of the record that an item makes; none for a tombstone, and if no item was found
abbrev pub record_of : Option Held → Option (ℕ × List ℕ)
record_of None = None
record_of (Some item) = option_map (λ value. (item.version, value)) item.value

-- the version and value of each record, after a list and what was found before it
abbrev pub live_from : Found → List Held → ℕ → List ℕ → Option (ℕ × List ℕ)
live_from found items table key = record_of (newest_from found items table key)

-- the version and value of each record in a list
abbrev pub live : List Held → ℕ → List ℕ → Option (ℕ × List ℕ)
live items = live_from none_found items

-- a record with a version and value: the newest item of its key in a list has them
pub record IsLive (items : List Held) (table : ℕ) (key : List ℕ) (version : ℕ) (value : List ℕ) : Type 0 where
  pub item : Held
  pub newest : IsNewest items table key item
  pub has_version : item.version ≡ version
  pub has_value : item.value ≡ Some value
