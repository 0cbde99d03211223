use Rattle.rk_conclude.proofs.Words.{◌≡◌, ◌++◌, map, receipts_in}
use Rattle.rk_conclude.proofs.auditing.receipts_of.Given as goal

-- the receipts so far, and those of the sessions that are left
abbrev pub invariant-loop-session : goal.invariant-loop-session
invariant-loop-session l = map (λ receipt. receipt.now) l.receipts.items ++ receipts_in l.session-iterator ≡ receipts_in l.sessions.entries
