use Rattle.rk_rebuild.proofs.Words.{◌≡◌, ◌++◌, [], take, flat_map, counting, lent}
use Rattle.rk_types.specs.NumberMap.{get_or}
use Rattle.rk_rebuild.proofs.material.count_sides.Given as goal

-- those of the segments so far that count
abbrev pub invariant-loop-segment : goal.invariant-loop-segment
invariant-loop-segment l =
    lent l.counted.items
    ≡ lent l.fn.counted.items ++ counting l.range (flat_map (λ segment. get_or [] l.sides segment) (take l.segment-index l.segments))
