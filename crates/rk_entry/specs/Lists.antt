-- Lists within entries: the ends of calls, and the numbers of side segments.
use Rattle.std.specs.Prelude.{ℕ, zero, suc, Bool, List, [], ◌∷◌, ◌++◌, ◌==◌, Result, Ok}
use Rattle.std.specs.List.{list_any, flat_map}
use Rattle.std.specs.Int.{w32}
use Rattle.rk_types.specs.declared.call.Ended.{Ended}
use Rattle.rk_entry.specs.declared.error.DecodeError.{DecodeError}
use Rattle.rk_entry.specs.declared.error.TheConstants.{BAD_CHOICE}
use Rattle.rk_entry.specs.declared.lists.TheConstants.{FIRST_SIDE_SEGMENT}
use Rattle.rk_entry.specs.Steps.{◌>>=◌, unless}
use Rattle.rk_entry.specs.Numbers.{number_bytes, read_from}
use Rattle.rk_entry.specs.Ends.{end_bytes, read_end}

-- the ends, one after the other
unfoldable pub ends_bytes : List Ended → List ℕ
ends_bytes ends = flat_map end_bytes ends

-- so many more ends behind those before, of which the last is of the client `above`, and the bytes after them
unfoldable pub read_ends : ℕ → ℕ → List Ended → List ℕ → Result (List Ended × List ℕ) DecodeError
read_ends zero above before bytes = Ok (before, bytes)
read_ends (suc count) above before bytes = do
  end ← read_end above bytes
  read_ends count end.0.client (before ++ end.0 ∷ []) end.1

-- the numbers, one after the other
unfoldable pub segments_bytes : List ℕ → List ℕ
segments_bytes segments = flat_map (number_bytes w32) segments

-- whether the number is in the list
abbrev pub is_among : ℕ → List ℕ → Bool
is_among number numbers = list_any (λ n. n == number) numbers

-- the number of a side segment that is none of those before, and the bytes after it
unfoldable pub read_segment : List ℕ → List ℕ → Result (ℕ × List ℕ) DecodeError
read_segment before bytes = do
  number ← read_from w32 FIRST_SIDE_SEGMENT bytes
  unless (is_among number.0 before) BAD_CHOICE number

-- so many more numbers of side segments behind those before, each once, and the bytes after them
unfoldable pub read_segments : ℕ → List ℕ → List ℕ → Result (List ℕ × List ℕ) DecodeError
read_segments zero before bytes = Ok (before, bytes)
read_segments (suc count) before bytes = do
  number ← read_segment before bytes
  read_segments count (before ++ number.0 ∷ []) number.1
