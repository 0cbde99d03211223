-- Keys, values and numbers in calls; when one ends a body, the body's length is compared once its own length is known.
use Rattle.std.specs.Prelude.{ℕ, ◌+◌, List, Result}
use Rattle.std.specs.Int.{Width}
use Rattle.rk_types.specs.declared.text.TheConstants.{LONGEST_VALUE}
use Rattle.rk_entry.specs.declared.error.DecodeError.{DecodeError}
use Rattle.rk_entry.specs.Steps.{◌>>=◌}
use Rattle.rk_entry.specs.Numbers.{read_number}
use Rattle.rk_entry.specs.Texts.{read_key_length, read_key, read_value_length, read_value}
use Rattle.rk_entry.specs.Reading.{where_body_is}

-- a key after its length, and the bytes after it
unfoldable pub read_any_key : List ℕ → Result (List ℕ × List ℕ) DecodeError
read_any_key bytes = do
  count ← read_key_length bytes
  read_key count.0 count.1

-- the key after its length that ends a body of `size` bytes, of which `first` are not the key, and the bytes after it
unfoldable pub read_last_key : ℕ → ℕ → List ℕ → Result (List ℕ × List ℕ) DecodeError
read_last_key first size bytes = do
  any ← read_key_length bytes
  count ← where_body_is (first + any.0) size any
  read_key count.0 count.1

-- the value after its length that ends such a body, and the bytes after it
unfoldable pub read_last_value : ℕ → ℕ → List ℕ → Result (List ℕ × List ℕ) DecodeError
read_last_value first size bytes = do
  any ← read_value_length 0 LONGEST_VALUE bytes
  count ← where_body_is (first + any.0) size any
  read_value count.0 count.1

-- the number that ends a body of `size` bytes, which has to have `all`, and the bytes after it
unfoldable pub read_last_number : Width → ℕ → ℕ → List ℕ → Result (ℕ × List ℕ) DecodeError
read_last_number w all size bytes = do
  from ← where_body_is all size bytes
  read_number w from
