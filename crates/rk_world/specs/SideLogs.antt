-- Side logs: how the items that a target pulled are cut into side segments.
use Rattle.std.specs.Prelude.{◌+◌, nat_le, if◌then◌else◌, List, [], ◌∷◌, ◌++◌, fold, map, sum}
use Rattle.std.specs.List.{flat_map}
use Rattle.rk_types.specs.Held.{spelled_of}
use Rattle.rk_types.specs.declared.held.Held.{Held}
use Rattle.rk_types.specs.declared.held.TheConstants.{SEGMENT_BYTES}

-- the item lists of side segments with one more item: in the last one if its entry fits, and else in one more
abbrev pub with_side_item : List (List Held) → Held → List (List Held)
with_side_item [] item = (item ∷ []) ∷ []
with_side_item (items ∷ []) item =
    if nat_le (sum (map spelled_of items) + spelled_of item) SEGMENT_BYTES
    then (items ++ item ∷ []) ∷ []
    else items ∷ (item ∷ []) ∷ []
with_side_item (items ∷ next ∷ more) item = items ∷ with_side_item (next ∷ more) item

-- the items of a worker, by the side segments that they fill
abbrev pub cut_items : List Held → List (List Held)
cut_items items = fold with_side_item [] items

-- the items of all workers, by the side segments that they fill, worker by worker
abbrev pub sealed_sides : List (List Held) → List (List Held)
sealed_sides sides = flat_map cut_items sides
