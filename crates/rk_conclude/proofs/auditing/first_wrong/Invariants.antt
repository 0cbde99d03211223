use Rattle.rk_conclude.proofs.Words.{◌≡◌, ◌++◌, List, All, Receipt, IsRecorded, journals_of, receipts_in}
use Rattle.rk_conclude.proofs.auditing.first_wrong.Given as goal

-- the receipts of the sessions before those that are left are recorded
abbrev pub invariant-loop-session : goal.invariant-loop-session
invariant-loop-session l =
    (before : List Receipt) × (before ++ receipts_in l.session-iterator ≡ receipts_in l.sessions.entries) × All (IsRecorded (journals_of l.journals)) before
