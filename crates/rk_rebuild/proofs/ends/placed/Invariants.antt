use Rattle.rk_rebuild.proofs.Words.{◌≡◌, List, [], take, flat_map, Ended, completions_from, ends_by_place}
use Rattle.rk_world.specs.Merge.{placed_ends}
use Rattle.rk_rebuild.proofs.ends.placed.Given as goal

-- the ends so far that have their place here
abbrev pub invariant-loop-end : goal.invariant-loop-end
invariant-loop-end l =
    (all : List Ended) (members : List (List Ended))
    → l.last ≡ completions_from [] all → l.later ≡ ends_by_place all members
    → l.ends.items ≡ placed_ends all (flat_map (λ ends. ends) members) [] (take l.end-index l.told)
