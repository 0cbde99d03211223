use Rattle.rk_bucket_table.proofs.Words.{length, comes_before, chain, place_seen, IsPassed}
use Rattle.rk_bucket_table.proofs.seek.seek.Given as goal

abbrev pub invariant-chain : goal.invariant-chain
invariant-chain l = IsPassed l.cells.slots l.head (comes_before (place_seen l.place)) l.before l.at

abbrev pub decreases-chain : goal.decreases-chain
decreases-chain l = length (chain l.cells.slots l.at)
