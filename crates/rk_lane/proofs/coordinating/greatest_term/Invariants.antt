use Rattle.rk_lane.proofs.Words.{◌≡◌, map, take, greatest}
use Rattle.rk_lane.proofs.coordinating.greatest_term.Given as goal

abbrev pub invariant-loop-row : goal.invariant-loop-row
invariant-loop-row l = l.greatest ≡ greatest (map (λ row. row.term) (take l.row-index l.row-items))
