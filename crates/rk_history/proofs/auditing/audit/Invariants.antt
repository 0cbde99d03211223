use Rattle.std.proofs.Common.{take}
use Rattle.std.specs.Prelude.{All}
use Rattle.rk_model.specs.Ordered.{IsRecorded}
use Rattle.rk_history.specs.Journals.{journals_of}
use Rattle.rk_history.proofs.auditing.audit.Given as goal

-- the receipts so far are recorded
abbrev pub invariant-loop-index : goal.invariant-loop-index
invariant-loop-index l = All (IsRecorded (journals_of l.journals)) (take l.index l.receipts)
