-- How many bytes the values of a journal have.
use Rattle.std.specs.Prelude.{ℕ, ◌+◌, List, length}
use Rattle.std.specs.List.{sum_by}
use Rattle.rk_types.specs.declared.call.Op.{Op}
use Rattle.rk_types.specs.declared.call.Op.TheVariants as ops
use Rattle.rk_types.specs.declared.call.Outcome.{Outcome}
use Rattle.rk_types.specs.declared.call.Outcome.TheVariants as outcomes
use Rattle.rk_types.specs.declared.history.Placed.{Placed}

-- the bytes of the value that an operation writes
abbrev pub written_bytes : Op → ℕ
written_bytes (ops.Put value) = length value
written_bytes (ops.CondPut expected value) = length value
written_bytes _ = 0

-- the bytes of the value that an outcome carries
abbrev pub found_bytes : Outcome → ℕ
found_bytes (outcomes.Found version value) = length value
found_bytes _ = 0

-- the bytes of the values of a record
abbrev pub record_bytes : Placed → ℕ
record_bytes placed = written_bytes placed.call.op + found_bytes placed.outcome

-- the bytes of the values of all records
abbrev pub value_bytes : List Placed → ℕ
value_bytes journal = sum_by record_bytes journal
