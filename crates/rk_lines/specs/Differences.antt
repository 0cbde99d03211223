-- A receipt that no record bears out, in a line.
use Rattle.std.specs.Prelude.{ℕ, List, ◌++◌, codes, decimal, if◌then◌else◌, Option, Some, None}
use Rattle.rk_types.specs.declared.call.Call.{Call}
use Rattle.rk_types.specs.declared.call.Outcome.{Outcome}
use Rattle.rk_types.specs.declared.history.Placed.{Placed}
use Rattle.rk_types.specs.declared.history.Receipt.{Receipt}
use Rattle.rk_lines.specs.History.{asked_text}
use Rattle.rk_lines.specs.Lines.{call_name, outcome_text}

-- a call with its stamp, and what it gave
abbrev pub answer_text : ℕ → Call → Outcome → List ℕ
answer_text stamp call outcome =
    decimal stamp ++ codes " " ++ call_name call.client call.seq
    ++ codes " " ++ asked_text call.op call.table call.key ++ codes " gives " ++ outcome_text outcome

-- the record at the place of a receipt, if an accepted record is there
abbrev pub kept_text : Option Placed → List ℕ
kept_text None = codes "none"
kept_text (Some placed) = if placed.accepted then answer_text placed.stamp placed.call placed.outcome else codes "none"

-- where a receipt says that its record is
abbrev pub place_text : ℕ → ℕ → List ℕ
place_text lane place = codes "audit differs " ++ decimal lane ++ (codes " " ++ decimal place)

-- a receipt beside the record at its lane and place
abbrev pub difference_line : Receipt → Option Placed → List ℕ
difference_line receipt kept =
    place_text receipt.lane receipt.place ++ codes " receipt " ++ answer_text receipt.stamp receipt.call receipt.outcome
    ++ codes " kept " ++ kept_text kept ++ codes "\n"
