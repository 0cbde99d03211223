-- The lines of the lanes so far are there.
use Rattle.std.proofs.Common.{◌≡◌, ◌++◌, map, take}
use Rattle.rk_lines.specs.Tablets.{lane_lines}
use Rattle.rk_lines.proofs.tablets.push_lanes.Given as goal

abbrev pub invariant-loop-lane : goal.invariant-loop-lane
invariant-loop-lane l = l.text.items ≡ l.fn.text.items ++ lane_lines l.tablet 0 (map (λ phase. phase.now) (take l.lane l.phases))
