use Rattle.rk_rebuild.proofs.Words.{◌≡◌, map, take, get}
use Rattle.rk_world.specs.Merge.{first_told}
use Rattle.rk_rebuild.proofs.ends.first_ends.Given as goal

abbrev pub invariant-loop-end : goal.invariant-loop-end
invariant-loop-end l = l.firsts.items ≡ map (λ end. first_told end (get l.last end.client)) (take l.end-index l.ends)
