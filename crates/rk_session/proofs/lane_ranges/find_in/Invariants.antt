use Rattle.std.proofs.Common.{◌≡◌, drop}
use Rattle.std.specs.List.{find}
use Rattle.rk_types.specs.Range.{has}
use Rattle.rk_session.proofs.lane_ranges.find_in.Given as goal

abbrev pub invariant-loop-located : goal.invariant-loop-located
invariant-loop-located l =
    find (λ located. has located.range l.table l.hash) l.ranges ≡ find (λ located. has located.range l.table l.hash) (drop l.located-index l.ranges)
