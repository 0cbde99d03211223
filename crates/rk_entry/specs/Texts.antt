-- Keys and values as bytes: a length, and that many printed characters.
use Rattle.std.specs.Prelude.{ℕ, List, length, take, drop, nat_lt, ◌++◌, not, if◌then◌else◌, Result, Err, is_some}
use Rattle.std.specs.Int.{w8, w32, is_in_range}
use Rattle.rk_types.specs.Text.{key_fault, value_fault}
use Rattle.rk_types.specs.declared.text.TheConstants.{LONGEST_KEY}
use Rattle.rk_entry.specs.declared.error.DecodeError.{DecodeError}
use Rattle.rk_entry.specs.declared.error.DecodeError.TheVariants.{Cut}
use Rattle.rk_entry.specs.declared.error.TheConstants.{BAD_KEY, BAD_VALUE}
use Rattle.rk_entry.specs.Steps.{◌>>=◌, unless}
use Rattle.rk_entry.specs.Numbers.{number_bytes, read_number}

-- a key after its length, which takes one byte
unfoldable pub key_bytes : List ℕ → List ℕ
key_bytes key = number_bytes w8 (length key) ++ key

-- a value after its length, which takes four bytes
unfoldable pub value_bytes : List ℕ → List ℕ
value_bytes value = number_bytes w32 (length value) ++ value

-- the length of a key, and the bytes after it
unfoldable pub read_key_length : List ℕ → Result (ℕ × List ℕ) DecodeError
read_key_length bytes = do
  count ← read_number w8 bytes
  unless (not (is_in_range 1 LONGEST_KEY count.0)) BAD_KEY count

-- a key of this length, and the bytes after it
unfoldable pub read_key : ℕ → List ℕ → Result (List ℕ × List ℕ) DecodeError
read_key count bytes =
    if nat_lt (length bytes) count then Err Cut
    else unless (is_some (key_fault (take count bytes))) BAD_KEY (take count bytes, drop count bytes)

-- the length of a value, which has `shortest` to `longest` bytes, and the bytes after it
unfoldable pub read_value_length : ℕ → ℕ → List ℕ → Result (ℕ × List ℕ) DecodeError
read_value_length shortest longest bytes = do
  count ← read_number w32 bytes
  unless (not (is_in_range shortest longest count.0)) BAD_VALUE count

-- a value of this length, and the bytes after it
unfoldable pub read_value : ℕ → List ℕ → Result (List ℕ × List ℕ) DecodeError
read_value count bytes =
    if nat_lt (length bytes) count then Err Cut
    else unless (is_some (value_fault (take count bytes))) BAD_VALUE (take count bytes, drop count bytes)
