-- The ends that members record, merged.
use Rattle.std.specs.Prelude.{List, [], map}
use Rattle.std.specs.List.{flat_map}
use Rattle.rk_types.specs.NumberMap.{get}
use Rattle.rk_types.specs.declared.call.Ended.{Ended}
use Rattle.rk_done.specs.Completions.{completions_from}
use Rattle.rk_world.specs.Merge.{ends_by_place, first_told}

-- the last end of each client, of the ends that each member records
abbrev pub ends_told : List (List Ended) → List Ended
ends_told told =
    let all = flat_map (λ ends. ends) told in
    map (λ end. first_told end (get (completions_from [] all) end.client)) (ends_by_place all told)
