use Rattle.rk_side_log.proofs.Words.{◌≡◌, take, made_in}
use Rattle.rk_side_log.proofs.side_logs.count_made.Given as goal

abbrev pub invariant-loop-side : goal.invariant-loop-side
invariant-loop-side l = l.count ≡ made_in (take l.side-index l.sides)
