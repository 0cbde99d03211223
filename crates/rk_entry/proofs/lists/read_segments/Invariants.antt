use Rattle.std.proofs.Common.{◌≡◌, ◌≤◌, ◌-◌, []}
use Rattle.std.specs.List.{AllByRecursion}
use Rattle.rk_entry.specs.Lists.{read_segments}
use Rattle.rk_entry.proofs.lists.read_segments.Given as goal

-- what is still to be read completes what was read to all, and no number that was read is above the greatest
abbrev pub invariant-segments : goal.invariant-segments
invariant-segments l = record {
  read : read_segments (l.count - l.counter) l.segments l.rest ≡ read_segments l.count [] l.bytes;
  bound : AllByRecursion (λ number. number ≤ l.greatest) l.segments;
}
