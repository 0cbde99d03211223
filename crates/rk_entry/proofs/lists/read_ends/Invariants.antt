use Rattle.std.proofs.Common.{◌≡◌, ◌-◌, []}
use Rattle.rk_entry.specs.Lists.{read_ends}
use Rattle.rk_entry.proofs.lists.read_ends.Given as goal

-- what is still to be read completes what was read to all
abbrev pub invariant-ends : goal.invariant-ends
invariant-ends l = read_ends (l.count - l.counter) l.above l.ends l.rest ≡ read_ends l.count 0 [] l.bytes
