use Rattle.std.proofs.Common.{◌≡◌, ◌≤◌, length, take}
use Rattle.rk_table.specs.Items.{live_in}
use Rattle.rk_table.proofs.walk.count_live.Given as goal

-- the live items so far are counted, and there are no more than slots so far
abbrev pub invariant-loop-slot : goal.invariant-loop-slot
invariant-loop-slot l = record {
  count : l.count ≡ length (live_in l.range (take l.slot-index l.slots));
  within : l.count ≤ l.slot-index;
}
