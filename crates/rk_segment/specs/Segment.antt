-- What a segment is, and which bytes have no room in it.
use Rattle.std.specs.Prelude.{ℕ, ◌+◌, ◌≤◌, ◌++◌, List, length, nat_lt, if◌then◌else◌, Option, Some, None}
use Rattle.std.specs.Global.{Vec}
use Rattle.std.specs.Vec.{vec_len, vec_capacity}
use Rattle.rk_segment.specs.declared.segment.Full.{Full}
use Rattle.rk_types.specs.declared.held.TheConstants.{SEGMENT_BYTES}

-- a segment as contracts see it: its number, and its bytes from the first on
pub record NumberedBytes : Type 0 where
  pub number : ℕ
  pub bytes : List ℕ

-- the segment with these bytes at its end
abbrev pub appended : NumberedBytes → List ℕ → NumberedBytes
appended segment more = record segment { bytes = segment.bytes ++ more }

-- why these bytes have no room in the segment, if they have none
abbrev pub overflow : NumberedBytes → List ℕ → Option Full
overflow segment more =
    if nat_lt SEGMENT_BYTES (length segment.bytes + length more)
    then Some (record { length = length segment.bytes; more = length more })
    else None

-- memory for a whole segment has been taken, and the bytes are within it
pub record IsConsistent (bytes : Vec ℕ) : Type 0 where
  pub reserved : SEGMENT_BYTES ≤ vec_capacity bytes
  pub within : vec_len bytes ≤ SEGMENT_BYTES
