-- Made records: what the ends that a rebuild merged make of what was read of a row.
use Rattle.std.specs.Prelude.{ℕ, ◌==◌, ◌&&◌, Bool, false, not, List, Option, Some, None}
use Rattle.rk_types.specs.declared.call.Ended.{Ended}
use Rattle.rk_types.specs.declared.history.Placed.{Placed}
use Rattle.rk_world.specs.Journal.{has_record}
use Rattle.rk_world.specs.declared.ledger.LastCall.{LastCall}

-- a record but for its stamp
abbrev pub without_stamp : Placed → Placed
without_stamp placed = record placed { stamp = 0 }

-- whether the call with a seq is the last of its client, and has no record
abbrev pub waits_for : List Placed → ℕ → ℕ → Option LastCall → Bool
waits_for journal client seq None = false
waits_for journal client seq (Some last) = last.call.seq == seq && not (has_record journal client seq)

-- whether an end is that of a call that waits for its record
abbrev pub waits : (ℕ → Option LastCall) → List Placed → Ended → Bool
waits asked journal end = waits_for journal end.client end.seq (asked end.client)
