-- The side log of one worker: its items, and the segments that are made for it.
use Rattle.std.specs.Prelude.{◌≡◌, ℕ, suc, ◌+◌, ◌-◌, Bool, ◌&&◌, nat_lt, nat_le, if◌then◌else◌, List, [], ◌∷◌, ◌++◌, length, replicate, slice_index_or}
use Rattle.std.specs.List.{All}
use Rattle.rk_types.specs.Held.{spelled_of}
use Rattle.rk_types.specs.declared.held.Held.{Held}
use Rattle.rk_types.specs.declared.held.TheConstants.{SEGMENT_BYTES}
use Rattle.rk_entry.specs.Lawful.{IsLawfulHeld}
use Rattle.rk_log.specs.Cut.{cut, last_of}
use Rattle.rk_world.specs.Material.{as_entries}
use Rattle.rk_world.specs.SideLogs.{cut_items}

-- what contracts see of it: its items, and how many segments are made for it, with those that are still empty
pub record Side : Type 0 where
  pub items : List Held
  pub made : ℕ

-- it with no item, and no segment
abbrev pub no_side : Side
no_side = record { items = []; made = 0 }

-- it with one more item
abbrev pub with_last : Side → Held → Side
with_last side item = record side { items = side.items ++ item ∷ [] }

-- how many segments items fill
abbrev pub segments_of : List Held → ℕ
segments_of items = length (cut_items items)

-- how many more bytes the last of these segments takes, none if there is no segment
abbrev pub room_in : List (List ℕ) → ℕ
room_in [] = 0
room_in (bytes ∷ more) = SEGMENT_BYTES - length (last_of (bytes ∷ more))

-- how many more segments items begin, behind a last segment that takes so many bytes
abbrev pub begun : ℕ → List Held → ℕ
begun room [] = 0
begun room (item ∷ items) =
    if nat_le (spelled_of item) room
    then begun (room - spelled_of item) items
    else suc (begun (SEGMENT_BYTES - spelled_of item) items)

-- whether bytes fit into the last of the used segments, if one is used
abbrev pub fits_last : List (List ℕ) → ℕ → List ℕ → Bool
fits_last segments used bytes = nat_lt 0 used && nat_le (length (slice_index_or segments (used - 1) []) + length bytes) SEGMENT_BYTES

-- the place of the segment that takes bytes: the last used one if they fit, and else the first one behind it
abbrev pub place_for : List (List ℕ) → ℕ → List ℕ → ℕ
place_for segments used bytes = if fits_last segments used bytes then used - 1 else used

-- the first of these segments, as many as are used, spell these items, which are lawful, and those behind them are empty
pub record IsFilled (segments : List (List ℕ)) (used : ℕ) (items : List Held) : Type 0 where
  pub empty : ℕ
  pub lawful : All IsLawfulHeld items
  pub bytes_are : segments ≡ cut (as_entries items) ++ replicate empty []
  pub used_is : used ≡ length (cut (as_entries items))
