use Rattle.rk_lane.proofs.Words.{◌≡◌, map, range_with_len}
use Rattle.rk_lane.proofs.New.{new_at}
use Rattle.rk_lane.proofs.parts.new_masters.Given as goal

abbrev pub invariant-loop-index : goal.invariant-loop-index
invariant-loop-index l = l.made.items ≡ map (new_at l.backups) (range_with_len 1 l.index)
