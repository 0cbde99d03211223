use Rattle.rk_rebuild.proofs.Words.{◌≡◌, List, take, map, not, filter, Held, HasVersions}
use Rattle.rk_world.specs.Merge.{has_version}
use Rattle.rk_rebuild.proofs.copies.lacking.Given as goal

-- the items so far that are lacking are copied
abbrev pub invariant-loop-item : goal.invariant-loop-item
invariant-loop-item l =
    (own : List Held) → HasVersions l.versions own
    → l.copies.items ≡ filter (λ item. not (has_version own item)) (map (λ item. item.now) (take l.item-index l.items))
