use Rattle.std.proofs.Common.{◌≡◌, length, take}
use Rattle.rk_ledger.proofs.recording.cut.Given as goal

abbrev pub invariant-cut : goal.invariant-cut
invariant-cut l = record {
  first : take l.length l.journal ≡ take l.length l.fn.journal;
}

abbrev pub decreases-cut : goal.decreases-cut
decreases-cut l = length l.journal
