use Rattle.std.proofs.Common.{◌≡◌, ◌++◌, map, take}
use Rattle.rk_conclude.proofs.auditing.push_receipts.Given as goal

-- those before, and those of the session so far
abbrev pub invariant-loop-receipt : goal.invariant-loop-receipt
invariant-loop-receipt l =
    map (λ receipt. receipt.now) l.receipts.items ≡ map (λ receipt. receipt.now) l.fn.receipts.items ++ take l.receipt-index l.session.receipts
