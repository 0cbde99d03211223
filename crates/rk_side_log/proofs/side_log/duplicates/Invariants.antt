use Rattle.std.proofs.Common.{◌≡◌, take}
use Rattle.rk_side_log.proofs.side_log.duplicates.Given as goal

abbrev pub invariant-loop-segment : goal.invariant-loop-segment
invariant-loop-segment l = l.duplicates.items ≡ take l.segment-index l.segments
