-- The side logs of all workers.
use Rattle.std.specs.Prelude.{◌≤◌, ℕ, List, ◌++◌, map}
use Rattle.std.specs.List.{sum_by}
use Rattle.rk_types.specs.declared.held.Held.{Held}
use Rattle.rk_side_log.specs.Side.{Side, segments_of}

-- the items of each worker
abbrev pub items_of_each : List Side → List (List Held)
items_of_each sides = map (λ side. side.items) sides

-- how many segments are made for all of them
abbrev pub made_in : List Side → ℕ
made_in sides = sum_by (λ side. side.made) sides

-- enough segments are made to put these items at the end
abbrev pub HasSegmentsFor : List Held → Side → Type 0
HasSegmentsFor items side = segments_of (side.items ++ items) ≤ side.made
