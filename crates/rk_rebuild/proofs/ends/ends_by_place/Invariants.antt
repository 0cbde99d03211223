use Rattle.rk_rebuild.proofs.Words.{◌≡◌, ◌≤◌, List, [], drop, length, Ended, completions_from, ends_by_place}
use Rattle.rk_rebuild.proofs.ends.ends_by_place.Given as goal

-- the ends that have their place at the members so far, which are the later ones
abbrev pub invariant-members : goal.invariant-members
invariant-members l =
    (l.at ≤ length l.told)
    × ((all : List Ended) → l.last ≡ completions_from [] all → l.ends.items ≡ ends_by_place all (drop l.at l.told))

abbrev pub decreases-members : goal.decreases-members
decreases-members l = l.at
