-- The frames by which a master rebuilds a tablet: Rebuild, Read, Copy and Rebuilt.
use Rattle.std.specs.Prelude.{ℕ, ◌+◌, ◌*◌, ◌==◌, nat_lt, if◌then◌else◌, List, [], length, ◌++◌, Bool, true, false, Option, Some, None, is_some, Result, Ok}
use Rattle.std.specs.Int.{w8, w32, w64}
use Rattle.std.specs.List.{AllByRecursion}
use Rattle.std.specs.Option.{ok_or}
use Rattle.rk_types.specs.declared.lineage.Member.{Member}
use Rattle.rk_entry.specs.declared.error.DecodeError.{DecodeError}
use Rattle.rk_entry.specs.declared.error.DecodeError.TheVariants.{Bad}
use Rattle.rk_entry.specs.declared.error.TheConstants.{BAD_CHOICE}
use Rattle.rk_entry.specs.declared.kind.TheConstants.{END_BYTES}
use Rattle.rk_entry.specs.Steps.{◌>>=◌, unless}
use Rattle.rk_entry.specs.Numbers.{number_bytes, IsNumber, read_number}
use Rattle.rk_entry.specs.Ends.{range_bytes, IsLawfulEnd}
use Rattle.rk_message.specs.declared.rebuilding.Rebuild.{Rebuild}
use Rattle.rk_message.specs.declared.rebuilding.ReadSegment.{ReadSegment}
use Rattle.rk_message.specs.declared.rebuilding.CopySegment.{CopySegment}
use Rattle.rk_message.specs.declared.rebuilding.Rebuilt.{Rebuilt}
use Rattle.rk_message.specs.declared.rebuilding.TheConstants.{MEMBER_BYTES, REBUILD_BYTES, MISSING, PRESENT, COPY_BYTES, REBUILT_BYTES}
use Rattle.rk_message.specs.Fields.{tenure_bytes, IsLawfulTenure, read_tenure, read_bytes, counted_bytes, read_last_count, list_bytes, read_last_list, IsAnyRange, read_any_range}
use Rattle.rk_message.specs.Handover.{ends_bytes, read_last_ends}

-- ---- Rebuild

-- the master, and the place of the first entry of its log that counts
unfoldable pub member_bytes : Member → List ℕ
member_bytes member = number_bytes w8 member.master ++ number_bytes w64 member.from

-- any place of the log of any master
abbrev pub IsLawfulMember : Member → Type 0
IsLawfulMember member = IsNumber w8 0 member.master × IsNumber w64 0 member.from

-- a member of a lineage, and the bytes after it
unfoldable pub read_member : List ℕ → Result (Member × List ℕ) DecodeError
read_member bytes = do
  master ← read_number w8 bytes
  from ← read_number w64 master.1
  Ok (record { master = master.0; from = from.0 }, from.1)

-- the tenure, the range and the lineage
unfoldable pub rebuild_bytes : Rebuild → List ℕ
rebuild_bytes rebuild = tenure_bytes rebuild.tenure ++ (range_bytes rebuild.range ++ list_bytes member_bytes rebuild.lineage)

-- how many bytes that is
abbrev pub rebuild_count : Rebuild → ℕ
rebuild_count rebuild = REBUILD_BYTES + MEMBER_BYTES * length rebuild.lineage

-- any range and any members
pub record IsLawfulRebuild (rebuild : Rebuild) : Type 0 where
  pub tenure : IsLawfulTenure rebuild.tenure
  pub range : IsAnyRange rebuild.range
  pub lineage : AllByRecursion IsLawfulMember rebuild.lineage

-- a Rebuild of `size` bytes, and the bytes after it
unfoldable pub read_rebuild : ℕ → List ℕ → Result (Rebuild × List ℕ) DecodeError
read_rebuild size bytes = do
  tenure ← read_tenure bytes
  range ← read_any_range tenure.1
  lineage ← read_last_list read_member REBUILD_BYTES MEMBER_BYTES size range.1
  Ok (record { tenure = tenure.0; range = range.0; lineage = lineage.0 }, lineage.1)

-- ---- Read

-- the tenure, the master and the segment
unfoldable pub read_segment_bytes : ReadSegment → List ℕ
read_segment_bytes wanted = tenure_bytes wanted.tenure ++ (number_bytes w8 wanted.master ++ number_bytes w32 wanted.segment)

-- any segment of any master
pub record IsLawfulReadSegment (wanted : ReadSegment) : Type 0 where
  pub tenure : IsLawfulTenure wanted.tenure
  pub master : IsNumber w8 0 wanted.master
  pub segment : IsNumber w32 0 wanted.segment

-- a Read, and the bytes after it
unfoldable pub read_read_segment : List ℕ → Result (ReadSegment × List ℕ) DecodeError
read_read_segment bytes = do
  tenure ← read_tenure bytes
  master ← read_number w8 tenure.1
  segment ← read_number w32 master.1
  Ok (record { tenure = tenure.0; master = master.0; segment = segment.0 }, segment.1)

-- ---- Copy

-- the bytes that are kept of a segment, which are none if it was never written
abbrev pub kept : Option (List ℕ) → List ℕ
kept None = []
kept (Some bytes) = bytes

-- the number that says whether a segment was ever written
abbrev pub present_number : Bool → ℕ
present_number present = if present then PRESENT else MISSING

-- whether the segment was ever written, and the bytes that are kept of it after their count
unfoldable pub kept_bytes : Option (List ℕ) → List ℕ
kept_bytes segment = number_bytes w8 (present_number (is_some segment)) ++ counted_bytes (kept segment)

-- whether the segment was ever written, as this number says, if it says that
abbrev pub present_numbered : ℕ → Option Bool
present_numbered number =
    if number == MISSING then Some false
    else if number == PRESENT then Some true
    else None

-- whether the segment was ever written, and the bytes after that
unfoldable pub read_present : List ℕ → Result (Bool × List ℕ) DecodeError
read_present bytes = do
  number ← read_number w8 bytes
  present ← ok_or (present_numbered number.0) (Bad BAD_CHOICE)
  Ok (present, number.1)

-- so many bytes of a segment, of which there are none if it was never written, and the bytes after them
unfoldable pub read_kept_bytes : Bool → ℕ → List ℕ → Result (Option (List ℕ) × List ℕ) DecodeError
read_kept_bytes true count bytes = do
  read ← read_bytes count bytes
  Ok (Some read.0, read.1)
read_kept_bytes false count bytes = unless (nat_lt 0 count) BAD_CHOICE (None, bytes)

-- what a Copy of `size` bytes carries of its segment, and the bytes after it
unfoldable pub read_kept : ℕ → List ℕ → Result (Option (List ℕ) × List ℕ) DecodeError
read_kept size bytes = do
  present ← read_present bytes
  count ← read_last_count COPY_BYTES size present.1
  read_kept_bytes present.0 count.0 count.1

-- the tenure, the master, the segment, and what is kept of it
unfoldable pub copy_bytes : CopySegment → List ℕ
copy_bytes copy = tenure_bytes copy.tenure ++ (number_bytes w8 copy.master ++ (number_bytes w32 copy.segment ++ kept_bytes copy.bytes))

-- how many bytes that is
abbrev pub copy_count : CopySegment → ℕ
copy_count copy = COPY_BYTES + length (kept copy.bytes)

-- any segment of any master
pub record IsLawfulCopy (copy : CopySegment) : Type 0 where
  pub tenure : IsLawfulTenure copy.tenure
  pub master : IsNumber w8 0 copy.master
  pub segment : IsNumber w32 0 copy.segment

-- a Copy of `size` bytes, and the bytes after it
unfoldable pub read_copy : ℕ → List ℕ → Result (CopySegment × List ℕ) DecodeError
read_copy size bytes = do
  tenure ← read_tenure bytes
  master ← read_number w8 tenure.1
  segment ← read_number w32 master.1
  kept ← read_kept size segment.1
  Ok (record { tenure = tenure.0; master = master.0; segment = segment.0; bytes = kept.0 }, kept.1)

-- ---- Rebuilt

-- the tenure, the place and the ends
unfoldable pub rebuilt_bytes : Rebuilt → List ℕ
rebuilt_bytes rebuilt = tenure_bytes rebuilt.tenure ++ (number_bytes w64 rebuilt.place ++ ends_bytes rebuilt.ends)

-- how many bytes that is
abbrev pub rebuilt_count : Rebuilt → ℕ
rebuilt_count rebuilt = REBUILT_BYTES + END_BYTES * length rebuilt.ends

-- any place, and lawful ends in any order
pub record IsLawfulRebuilt (rebuilt : Rebuilt) : Type 0 where
  pub tenure : IsLawfulTenure rebuilt.tenure
  pub place : IsNumber w64 0 rebuilt.place
  pub ends : AllByRecursion IsLawfulEnd rebuilt.ends

-- a Rebuilt of `size` bytes, and the bytes after it
unfoldable pub read_rebuilt : ℕ → List ℕ → Result (Rebuilt × List ℕ) DecodeError
read_rebuilt size bytes = do
  tenure ← read_tenure bytes
  place ← read_number w64 tenure.1
  ends ← read_last_ends REBUILT_BYTES size place.1
  Ok (record { tenure = tenure.0; place = place.0; ends = ends.0 }, ends.1)
