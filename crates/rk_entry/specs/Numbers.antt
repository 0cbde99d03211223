-- Numbers as bytes, the highest byte first.
use Rattle.std.specs.Prelude.{◌≡◌, ◌≤◌, ◌<◌, ◌+◌, ◌++◌, ◌^◌, ℕ, List, length, take, drop, nat_lt, if◌then◌else◌, Result, Ok, Err}
use Rattle.std.specs.Int.{Width, byte_len, from_be_bytes, to_be_bytes}
use Rattle.std.specs.Global.{Vec}
use Rattle.std.specs.Vec.{vec_len, vec_capacity}
use Rattle.rk_entry.specs.declared.error.DecodeError.{DecodeError}
use Rattle.rk_entry.specs.declared.error.DecodeError.TheVariants.{Cut}
use Rattle.rk_entry.specs.declared.error.TheConstants.{BAD_NUMBER}
use Rattle.rk_entry.specs.Steps.{◌>>=◌, unless}

-- the bytes of a number of this width
unfoldable pub number_bytes : Width → ℕ → List ℕ
number_bytes w n = to_be_bytes w n

-- a number of this width that is at least `least`
pub record IsNumber (w : Width) (least n : ℕ) : Type 0 where
  pub least_is : least ≤ n
  pub fits : n < 256 ^ byte_len w

-- a number of this width, and the bytes after it
unfoldable pub read_number : Width → List ℕ → Result (ℕ × List ℕ) DecodeError
read_number w bytes =
    if nat_lt (length bytes) (byte_len w) then Err Cut
    else Ok (from_be_bytes w (take (byte_len w) bytes), drop (byte_len w) bytes)

-- a number of this width that is at least `least`, and the bytes after it
unfoldable pub read_from : Width → ℕ → List ℕ → Result (ℕ × List ℕ) DecodeError
read_from w least bytes = do
  n ← read_number w bytes
  unless (nat_lt n.0 least) BAD_NUMBER n

-- there is room for this many more bytes, in memory that is taken already
abbrev pub HasRoom : Vec ℕ → ℕ → Type 0
HasRoom bytes count = vec_len bytes + count ≤ vec_capacity bytes

-- this many more bytes are at the end, in memory that was taken before
pub record Gains (old new : Vec ℕ) (more : List ℕ) (count : ℕ) : Type 0 where
  pub bytes : new.items ≡ old.items ++ more
  pub longer : vec_len new ≡ vec_len old + count
  pub capacity : vec_capacity old ≤ vec_capacity new
