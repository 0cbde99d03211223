use Rattle.std.proofs.Common.{◌≡◌, ◌++◌, take}
use Rattle.rk_table.specs.Items.{live_in}
use Rattle.rk_table.proofs.walk.push_live.Given as goal

-- the live items so far are behind what was there
abbrev pub invariant-loop-slot : goal.invariant-loop-slot
invariant-loop-slot l = l.into.items ≡ l.fn.into.items ++ live_in l.range (take l.slot-index l.slots)
