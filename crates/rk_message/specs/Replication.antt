-- The frames between masters and backups: Append and Stored.
use Rattle.std.specs.Prelude.{ℕ, ◌+◌, ◌++◌, List, length, Result, Ok}
use Rattle.std.specs.Int.{w32}
use Rattle.rk_entry.specs.declared.error.DecodeError.{DecodeError}
use Rattle.rk_entry.specs.Steps.{◌>>=◌}
use Rattle.rk_entry.specs.Numbers.{number_bytes, IsNumber, read_number}
use Rattle.rk_message.specs.declared.replication.Append.{Append}
use Rattle.rk_message.specs.declared.replication.Stored.{Stored}
use Rattle.rk_message.specs.declared.replication.TheConstants.{APPEND_BYTES}
use Rattle.rk_message.specs.Fields.{counted_bytes, read_last_bytes}

-- the segment, the place in it, and the bytes after their count
unfoldable pub append_bytes : Append → List ℕ
append_bytes append = number_bytes w32 append.segment ++ (number_bytes w32 append.at ++ counted_bytes append.bytes)

-- how many bytes an Append takes
abbrev pub append_count : Append → ℕ
append_count append = APPEND_BYTES + length append.bytes

-- any bytes at any place of any segment
abbrev pub IsLawfulAppend : Append → Type 0
IsLawfulAppend append = IsNumber w32 0 append.segment × IsNumber w32 0 append.at

-- an Append of `size` bytes, and the bytes after it
unfoldable pub read_append : ℕ → List ℕ → Result (Append × List ℕ) DecodeError
read_append size bytes = do
  segment ← read_number w32 bytes
  place ← read_number w32 segment.1
  kept ← read_last_bytes APPEND_BYTES size place.1
  Ok (record { segment = segment.0; at = place.0; bytes = kept.0 }, kept.1)

-- the segment, and how many of its bytes are kept
unfoldable pub stored_bytes : Stored → List ℕ
stored_bytes stored = number_bytes w32 stored.segment ++ number_bytes w32 stored.length

-- any length of any segment
abbrev pub IsLawfulStored : Stored → Type 0
IsLawfulStored stored = IsNumber w32 0 stored.segment × IsNumber w32 0 stored.length

-- a Stored, and the bytes after it
unfoldable pub read_stored : List ℕ → Result (Stored × List ℕ) DecodeError
read_stored bytes = do
  segment ← read_number w32 bytes
  kept ← read_number w32 segment.1
  Ok (record { segment = segment.0; length = kept.0 }, kept.1)
