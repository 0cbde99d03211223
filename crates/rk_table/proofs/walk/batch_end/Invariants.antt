use Rattle.std.proofs.Common.{◌≡◌, ◌++◌, take, drop}
use Rattle.rk_table.specs.Items.{live_in}
use Rattle.rk_table.specs.Scans.{batch_of}
use Rattle.rk_table.proofs.walk.batch_end.Given as goal

-- the live items so far, and then the batch of what is wanted still, are the batch
abbrev pub invariant-loop-at : goal.invariant-loop-at
invariant-loop-at l =
    live_in l.range (take l.at l.slots) ++ batch_of l.wanted (live_in l.range (drop l.at l.slots)) ≡ batch_of l.fn.limit (live_in l.range l.slots)
