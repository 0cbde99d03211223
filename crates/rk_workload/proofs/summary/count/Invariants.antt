use Rattle.std.proofs.Common.{◌≡◌, map, take}
use Rattle.rk_workload.specs.Summary.{counted}
use Rattle.rk_workload.proofs.summary.count.Given as goal

abbrev pub invariant-loop-receipt : goal.invariant-loop-receipt
invariant-loop-receipt l = l.counts ≡ counted (map (λ receipt. receipt.now) (take l.receipt-index l.receipts))
