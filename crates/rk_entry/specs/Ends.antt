-- Ranges of hashes and ends of calls as bytes.
use Rattle.std.specs.Prelude.{◌<◌, ℕ, ◌++◌, List, [], ◌∷◌, ◌==◌, nat_lt, nat_le, if◌then◌else◌, Result, Ok, Err, ⊤}
use Rattle.std.specs.Int.{w8, w32, w64}
use Rattle.rk_types.specs.declared.range.Range.{Range}
use Rattle.rk_types.specs.declared.call.End.{End}
use Rattle.rk_types.specs.declared.call.End.TheVariants.{Written, Deleted, Absent, Mismatch}
use Rattle.rk_types.specs.declared.call.Ended.{Ended}
use Rattle.rk_entry.specs.declared.error.DecodeError.{DecodeError}
use Rattle.rk_entry.specs.declared.error.DecodeError.TheVariants.{Bad}
use Rattle.rk_entry.specs.declared.error.TheConstants.{BAD_NUMBER, BAD_CHOICE}
use Rattle.rk_entry.specs.declared.fields.ends.TheConstants.{WRITTEN, DELETED, ABSENT, MISMATCH}
use Rattle.rk_entry.specs.Steps.{◌>>=◌, unless}
use Rattle.rk_entry.specs.Numbers.{number_bytes, IsNumber, read_number, read_from}

-- the table, the first hash and the last
unfoldable pub range_bytes : Range → List ℕ
range_bytes range = number_bytes w64 range.table ++ (number_bytes w64 range.first ++ number_bytes w64 range.last)

-- a range of some hashes of a table
pub record IsLawfulRange (range : Range) : Type 0 where
  pub table : IsNumber w64 1 range.table
  pub first : IsNumber w64 0 range.first
  pub last : IsNumber w64 range.first range.last

-- a lawful range, and the bytes after it
unfoldable pub read_range : List ℕ → Result (Range × List ℕ) DecodeError
read_range bytes = do
  table ← read_from w64 1 bytes
  first ← read_number w64 table.1
  last ← read_from w64 first.0 first.1
  Ok (record { table = table.0; first = first.0; last = last.0 }, last.1)

-- the tag and the version of an outcome without a value
unfoldable pub outcome_bytes : End → List ℕ
outcome_bytes (Written version) = number_bytes w8 WRITTEN ++ number_bytes w64 version
outcome_bytes (Deleted version) = number_bytes w8 DELETED ++ number_bytes w64 version
outcome_bytes Absent = number_bytes w8 ABSENT ++ number_bytes w64 0
outcome_bytes (Mismatch version) = number_bytes w8 MISMATCH ++ number_bytes w64 version

-- a version that was made is at least 1, and a version that was met may be 0
abbrev pub IsLawfulOutcome : End → Type 0
IsLawfulOutcome (Written version) = IsNumber w64 1 version
IsLawfulOutcome (Deleted version) = IsNumber w64 1 version
IsLawfulOutcome Absent = ⊤
IsLawfulOutcome (Mismatch version) = IsNumber w64 0 version

-- an outcome whose version, at least `least`, makes it
unfoldable pub read_version : ℕ → (ℕ → End) → List ℕ → Result (End × List ℕ) DecodeError
read_version least outcome bytes = do
  version ← read_from w64 least bytes
  Ok (outcome version.0, version.1)

-- the version beside the tag Absent, which is 0
unfoldable pub read_absent : List ℕ → Result (End × List ℕ) DecodeError
read_absent bytes = do
  version ← read_number w64 bytes
  unless (nat_lt 0 version.0) BAD_NUMBER (Absent, version.1)

-- an outcome after its tag, and the bytes after it
unfoldable pub read_tagged : ℕ → List ℕ → Result (End × List ℕ) DecodeError
read_tagged tag bytes =
    if tag == WRITTEN then read_version 1 Written bytes
    else if tag == DELETED then read_version 1 Deleted bytes
    else if tag == ABSENT then read_absent bytes
    else if tag == MISMATCH then read_version 0 Mismatch bytes
    else Err (Bad BAD_CHOICE)

-- an outcome, and the bytes after it
unfoldable pub read_outcome : List ℕ → Result (End × List ℕ) DecodeError
read_outcome bytes = do
  tag ← read_number w8 bytes
  read_tagged tag.0 tag.1

-- the client, the seq and the outcome
unfoldable pub end_bytes : Ended → List ℕ
end_bytes e = number_bytes w32 e.client ++ (number_bytes w64 e.seq ++ outcome_bytes e.end)

-- the end of a client's call
pub record IsLawfulEnd (e : Ended) : Type 0 where
  pub client : IsNumber w32 1 e.client
  pub seq : IsNumber w64 1 e.seq
  pub outcome : IsLawfulOutcome e.end

-- the end of a call of a client above `above`, and the bytes after it
unfoldable pub read_end : ℕ → List ℕ → Result (Ended × List ℕ) DecodeError
read_end above bytes = do
  any ← read_from w32 1 bytes
  client ← unless (nat_le any.0 above) BAD_CHOICE any
  seq ← read_from w64 1 client.1
  outcome ← read_outcome seq.1
  Ok (record { client = client.0; seq = seq.0; end = outcome.0 }, outcome.1)

-- the clients rise from the first, which is above `above`: so each has one end
abbrev pub RiseAbove : ℕ → List Ended → Type 0
RiseAbove above [] = ⊤
RiseAbove above (e ∷ ends) = (above < e.client) × RiseAbove e.client ends
