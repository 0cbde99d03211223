-- What the side logs of workers spell, and the items that are read back from their segments.
use Rattle.std.specs.Prelude.{ℕ, List, [], ◌∷◌, length, map, sum, slice_index_or, None}
use Rattle.rk_types.specs.declared.held.Held.{Held}
use Rattle.rk_entry.specs.Entries.{spelled_all}
use Rattle.rk_log.specs.Stored.{spelled_in}
use Rattle.rk_segment.specs.Segment.{NumberedBytes}
use Rattle.rk_world.specs.Ends.{items_of}
use Rattle.rk_world.specs.Material.{as_entries}

-- the entries of items, one after the other
abbrev pub spelled_items : List Held → List ℕ
spelled_items items = spelled_all (as_entries items)

-- how many bytes the items of workers take
abbrev pub unsealed_in : List (List Held) → ℕ
unsealed_in sides = sum (map (λ items. length (spelled_items items)) sides)

-- the bytes of each segment
abbrev pub bytes_in : List NumberedBytes → List (List ℕ)
bytes_in segments = map (λ segment. segment.bytes) segments

-- the items that segments with these bytes spell
abbrev pub items_read : List (List ℕ) → List Held
items_read segments = items_of (spelled_in segments)

-- the item that these bytes spell; if they spell none, one of zeros
unfoldable pub item_read : List ℕ → Held
item_read bytes =
    slice_index_or (items_read (bytes ∷ [])) 0 (record { table = 0; version = 0; client = 0; seq = 0; key = []; value = None })
