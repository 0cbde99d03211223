-- Cells in a slab, each with the number of the cell behind it: what a chain has, and what it is to be a table of chains.
use Rattle.std.specs.Prelude.{◌≡◌, ℕ, zero, suc, ◌+◌, ◌*◌, ◌/◌, ◌^◌, ◌<◌, ◌≤◌, List, [], ◌∷◌, length, Bool, false, Option, Some, None, is_some, count_by, slice_index_or}
use Rattle.std.specs.List.{AllByRecursion, flat_map}
use Rattle.rk_types.specs.declared.held.Held.{Held}
use Rattle.rk_types.specs.declared.hashing.TheConstants.{BUCKETS}
use Rattle.rk_types.specs.Hashing.{bucket_of}
use Rattle.rk_table.specs.Items.{is_at}
use Rattle.rk_table.specs.Order.{IsInScanOrder, Place, item_hash}
use Rattle.rk_bucket_table.specs.declared.cell.Cell.{Cell}
use Rattle.rk_bucket_table.specs.declared.cell.TheConstants.{END, MOST_PER_BUCKET}
use Rattle.rk_bucket_table.specs.declared.hashed.Place.{Place as Lent}

-- the place that it is
abbrev pub place_seen : Lent → Place
place_seen place = (place.bucket, place.hash, place.table, place.key.now)

-- the chain of a hash, if each bucket has so many chains: they part the values of the hash's high 32 bits evenly
abbrev pub chain_of : ℕ → ℕ → ℕ
chain_of per_bucket hash = bucket_of hash * per_bucket + (hash / 2 ^ 32) * per_bucket / 2 ^ 32

-- so many chains are as many for each bucket
pub record IsCountOfChains (per_bucket count : ℕ) : Type 0 where
  pub whole : count ≡ BUCKETS * per_bucket
  pub some : 0 < per_bucket
  pub most : per_bucket ≤ MOST_PER_BUCKET

-- the cells of a slab: one or none under each number
abbrev pub Cells : Type 0
Cells = List (Option Cell)

-- the cell of an item that has another one behind it
abbrev pub cell_of : Held → ℕ → Cell
cell_of item next = record { item = item; next = next }

-- how many cells are taken
abbrev pub taken : Cells → ℕ
taken cells = count_by is_some cells

-- the cell under a number
abbrev pub cell_at : Cells → ℕ → Option Cell
cell_at cells at = slice_index_or cells at None

-- whether a cell has an item of another one's key of its table
abbrev pub item_is_at : Held → Option Cell → Bool
item_is_at item None = false
item_is_at item (Some cell) = is_at item.table item.key cell.item

-- these are the items from one cell on up to another one
abbrev pub IsSegment : Cells → ℕ → List Held → ℕ → Type 0
IsSegment cells at [] to = at ≡ to
IsSegment cells at (item ∷ items) to =
    (next : ℕ) × (cell_at cells at ≡ Some (cell_of item next)) × IsSegment cells next items to

-- a cell's item, and what is behind it
abbrev pub followed : (ℕ → List Held) → Option Cell → List Held
followed behind None = []
followed behind (Some cell) = cell.item ∷ behind cell.next

-- the items that so many steps meet from a cell on
abbrev pub walked : Cells → ℕ → ℕ → List Held
walked cells zero at = []
walked cells (suc steps) at = followed (walked cells steps) (cell_at cells at)

-- the items from a cell on to the end of its chain
abbrev pub chain : Cells → ℕ → List Held
chain cells at = walked cells (length cells) at

-- from a cell on a chain comes to its end
abbrev pub IsChain : Cells → ℕ → Type 0
IsChain cells at = IsSegment cells at (chain cells at) END

-- so does each chain
abbrev pub AreChains : List ℕ → Cells → Type 0
AreChains heads cells = AllByRecursion (IsChain cells) heads

-- the items of all chains, one chain behind the other
abbrev pub items_in : List ℕ → Cells → List Held
items_in heads cells = flat_map (chain cells) heads

-- the items of some lists, one list behind the other
abbrev pub joined : List (List Held) → List Held
joined chains = flat_map (λ items. items) chains

-- each chain has the items of its list, from its head on to its end
abbrev pub AreLinked : Cells → List ℕ → List (List Held) → Type 0
AreLinked cells [] [] = Unit {0}
AreLinked cells [] (items ∷ chains) = ⊥
AreLinked cells (head ∷ heads) [] = ⊥
AreLinked cells (head ∷ heads) (items ∷ chains) = IsSegment cells head items END × AreLinked cells heads chains

-- each list, counted from a number on, has items of the chain of that number alone
abbrev pub ArePlaced : ℕ → ℕ → List (List Held) → Type 0
ArePlaced per_bucket number [] = Unit {0}
ArePlaced per_bucket number (items ∷ chains) =
    AllByRecursion (λ item. chain_of per_bucket (item_hash item) ≡ number) items
    × ArePlaced per_bucket (suc number) chains

-- a table: its chains have these items, each in the chain of its hash and all in scan order; and no cell is taken but
-- those of the chains, each once
pub record IsTable (per_bucket : ℕ) (heads : List ℕ) (cells : Cells) (chains : List (List Held)) : Type 0 where
  pub count : IsCountOfChains per_bucket (length heads)
  pub linked : AreLinked cells heads chains
  pub placed : ArePlaced per_bucket 0 chains
  pub order : IsInScanOrder (joined chains)
  pub all : length (joined chains) ≡ taken cells
  pub free : cell_at cells END ≡ None

-- a walk comes to the end of its chain, and of all chains behind
pub record IsRest (heads : List ℕ) (cells : Cells) (at : ℕ) : Type 0 where
  pub free : cell_at cells END ≡ None
  pub this : IsChain cells at
  pub behind : AreChains heads cells
