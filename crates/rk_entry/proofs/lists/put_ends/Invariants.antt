use Rattle.std.proofs.Common.{◌*◌, take}
use Rattle.rk_entry.specs.declared.kind.TheConstants.{END_BYTES}
use Rattle.rk_entry.specs.Numbers.{Gains}
use Rattle.rk_entry.specs.Lists.{ends_bytes}
use Rattle.rk_entry.proofs.lists.put_ends.Given as goal

abbrev pub invariant-ends : goal.invariant-ends
invariant-ends l = Gains l.fn.into l.into (ends_bytes (take l.end-index l.ends)) (END_BYTES * l.end-index)
