-- The items of the side segments of a log.
use Rattle.std.specs.Prelude.{◌≡◌, ℕ, List, map}
use Rattle.std.specs.List.{All}
use Rattle.rk_types.specs.declared.held.Held.{Held}
use Rattle.rk_entry.specs.Entries.{entries_of}
use Rattle.rk_entry.specs.Lawful.{IsLawfulHeld}
use Rattle.rk_side_log.specs.Spelled.{spelled_items}
use Rattle.rk_world.specs.Ends.{items_of}

-- the items that the bytes of a side segment spell
abbrev pub side_items : List ℕ → List Held
side_items bytes = items_of (entries_of bytes)

-- the items of each of these side segments
abbrev pub items_of_sides : List (List ℕ) → List (List Held)
items_of_sides sides = map side_items sides

-- the bytes of a side segment spell its items and nothing else, and these are lawful
pub record IsSpelled (bytes : List ℕ) : Type 0 where
  pub lawful : All IsLawfulHeld (side_items bytes)
  pub bytes_are : bytes ≡ spelled_items (side_items bytes)

-- so it is with each of these side segments
abbrev pub AreSpelled : List (List ℕ) → Type 0
AreSpelled sides = All IsSpelled sides
