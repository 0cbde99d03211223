use Rattle.rk_rebuild.proofs.Words.{◌≡◌, take, flat_map, lent}
use Rattle.rk_rebuild.proofs.material.lend_all.Given as goal

abbrev pub invariant-loop-segment : goal.invariant-loop-segment
invariant-loop-segment l = lent l.entries.items ≡ flat_map (λ entries. entries) (take l.segment-index l.segments)
