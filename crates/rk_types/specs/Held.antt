-- How many bytes the log entry of an item takes.
use Rattle.std.specs.Prelude.{ℕ, ◌+◌, List, length, nat_lt, if◌then◌else◌, Option, Some, None}
use Rattle.rk_types.specs.declared.held.Held.{Held}
use Rattle.rk_types.specs.declared.held.TheConstants.{LONGEST_SHORT_VALUE, BYTES_BEFORE_KEY}

-- the bytes after the key: none for a tombstone; else the length, the value, and a mark after a long value
abbrev pub spelled_value_of : Option (List ℕ) → ℕ
spelled_value_of None = 0
spelled_value_of (Some value) = 4 + length value + (if nat_lt LONGEST_SHORT_VALUE (length value) then 1 else 0)

-- the bytes of the whole entry
unfoldable pub spelled_of : Held → ℕ
spelled_of held = BYTES_BEFORE_KEY + length held.key + spelled_value_of held.value
