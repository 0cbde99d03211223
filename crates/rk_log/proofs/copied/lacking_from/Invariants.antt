use Rattle.std.proofs.Common.{◌≡◌, ◌+◌, ◌-◌, ◌≤◌, length, drop}
use Rattle.std.specs.List.{prefix_len}
use Rattle.rk_log.specs.Parts.{is_whole_at}
use Rattle.rk_log.proofs.copied.lacking_from.Given as goal

abbrev pub invariant-whole : goal.invariant-whole
invariant-whole l =
    (l.at ≤ length l.segments) × (l.at + prefix_len (is_whole_at l.backup) (drop l.at l.segments) ≡ l.from + prefix_len (is_whole_at l.backup) (drop l.from l.segments))

abbrev pub decreases-whole : goal.decreases-whole
decreases-whole l = length l.segments - l.at
