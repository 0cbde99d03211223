-- The sessions of a cluster: their receipts, and how many calls they made.
use Rattle.std.specs.Prelude.{ℕ, List}
use Rattle.std.specs.List.{flat_map, sum_by}
use Rattle.rk_types.specs.NumberMap.{NumberMap}
use Rattle.rk_types.specs.declared.history.Receipt.{Receipt}
use Rattle.rk_world.specs.Client.{Session}

-- the receipts of all sessions
abbrev pub receipts_in : NumberMap Session → List Receipt
receipts_in sessions = flat_map (λ entry. entry.1.receipts) sessions

-- how many calls all sessions made
abbrev pub calls_in : NumberMap Session → ℕ
calls_in sessions = sum_by (λ entry. entry.1.last) sessions
