-- The law of receipts.
use Rattle.std.specs.Prelude.{ℕ, List, All}
use Rattle.rk_types.specs.declared.history.Placed.{Placed}
use Rattle.rk_model.specs.declared.line.Line.{Line}
use Rattle.rk_model.specs.Ordered.{Caller, IsOrdered, IsRecorded}

-- If a history is ordered with what the callers keep, an audit finds nothing wrong with the receipts of any of them.
pub ordered_receipts_agree : (journals : List (List Placed)) (history : List Line) (callers : ℕ → Caller)
    → IsOrdered journals history callers → (client : ℕ) → All (IsRecorded journals) (callers client).receipts
ordered_receipts_agree journals history callers ordered = ordered.recorded
