use Rattle.rk_side_log.proofs.Words.{◌≡◌, ◌+◌, ◌≤◌, ◌++◌, map, take, drop, replicate, vec_len, vec_capacity, All, IsLawfulHeld}
use Rattle.rk_side_log.proofs.Words.{sealed_sides, no_side, items_of_each, made_in, bytes_in, spelled_items}
use Rattle.rk_side_log.proofs.side_logs.seal_all.Given as goal

abbrev pub invariant-loop-side : goal.invariant-loop-side
invariant-loop-side l =
    (bytes_in l.sealed.items ≡ bytes_in l.initial.sealed.items ++ map spelled_items (sealed_sides (items_of_each (take l.side-index l.initial.sides))))
    × (vec_len l.sealed + made_in (drop l.side-index l.initial.sides) ≤ vec_capacity l.sealed)
    × (drop l.side-index l.sides ≡ drop l.side-index l.initial.sides)
    × (take l.side-index l.sides ≡ replicate l.side-index no_side)
    × All (λ side. All IsLawfulHeld side.items) (take l.side-index l.initial.sides)
