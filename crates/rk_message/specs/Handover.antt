-- The frames that hand a tablet over: Prepare, Ready, Close, Transfer and Grant.
use Rattle.std.specs.Prelude.{ℕ, ◌+◌, ◌*◌, ◌++◌, List, length, Result, Ok}
use Rattle.std.specs.Int.{w8, w64}
use Rattle.std.specs.List.{AllByRecursion}
use Rattle.rk_types.specs.declared.call.Ended.{Ended}
use Rattle.rk_entry.specs.declared.error.DecodeError.{DecodeError}
use Rattle.rk_entry.specs.Steps.{◌>>=◌}
use Rattle.rk_entry.specs.declared.kind.TheConstants.{END_BYTES}
use Rattle.rk_entry.specs.Numbers.{number_bytes, IsNumber, read_number}
use Rattle.rk_entry.specs.Ends.{range_bytes, end_bytes, IsLawfulEnd, read_end}
use Rattle.rk_message.specs.declared.handover.Prepare.{Prepare}
use Rattle.rk_message.specs.declared.handover.Ready.{Ready}
use Rattle.rk_message.specs.declared.handover.Transfer.{Transfer}
use Rattle.rk_message.specs.declared.handover.Grant.{Grant}
use Rattle.rk_message.specs.declared.handover.TheConstants.{TRANSFER_BYTES, GRANT_BYTES}
use Rattle.rk_message.specs.Fields.{tenure_bytes, IsLawfulTenure, read_tenure, list_bytes, read_last_list, IsAnyRange, read_any_range}

-- the tenure and the range
unfoldable pub prepare_bytes : Prepare → List ℕ
prepare_bytes prepare = tenure_bytes prepare.tenure ++ range_bytes prepare.range

-- any range
abbrev pub IsLawfulPrepare : Prepare → Type 0
IsLawfulPrepare prepare = IsLawfulTenure prepare.tenure × IsAnyRange prepare.range

-- a Prepare, and the bytes after it
unfoldable pub read_prepare : List ℕ → Result (Prepare × List ℕ) DecodeError
read_prepare bytes = do
  tenure ← read_tenure bytes
  range ← read_any_range tenure.1
  Ok (record { tenure = tenure.0; range = range.0 }, range.1)

-- the tenure and the place
unfoldable pub ready_bytes : Ready → List ℕ
ready_bytes ready = tenure_bytes ready.tenure ++ number_bytes w64 ready.place

-- any place
abbrev pub IsLawfulReady : Ready → Type 0
IsLawfulReady ready = IsLawfulTenure ready.tenure × IsNumber w64 0 ready.place

-- a Ready, and the bytes after it
unfoldable pub read_ready : List ℕ → Result (Ready × List ℕ) DecodeError
read_ready bytes = do
  tenure ← read_tenure bytes
  place ← read_number w64 tenure.1
  Ok (record { tenure = tenure.0; place = place.0 }, place.1)

-- ends of calls after their count, in any order
unfoldable pub ends_bytes : List Ended → List ℕ
ends_bytes ends = list_bytes end_bytes ends

-- the ends of calls that end a body, after their count, in any order, and the bytes after them
unfoldable pub read_last_ends : ℕ → ℕ → List ℕ → Result (List Ended × List ℕ) DecodeError
read_last_ends first size bytes = read_last_list (read_end 0) first END_BYTES size bytes

-- the tenure, the floor and the ends
unfoldable pub transfer_bytes : Transfer → List ℕ
transfer_bytes transfer = tenure_bytes transfer.tenure ++ (number_bytes w64 transfer.floor ++ ends_bytes transfer.ends)

-- how many bytes a Transfer takes
abbrev pub transfer_count : Transfer → ℕ
transfer_count transfer = TRANSFER_BYTES + END_BYTES * length transfer.ends

-- any floor, and lawful ends
abbrev pub IsLawfulTransfer : Transfer → Type 0
IsLawfulTransfer transfer = IsLawfulTenure transfer.tenure × IsNumber w64 0 transfer.floor × AllByRecursion IsLawfulEnd transfer.ends

-- a Transfer of `size` bytes, and the bytes after it
unfoldable pub read_transfer : ℕ → List ℕ → Result (Transfer × List ℕ) DecodeError
read_transfer size bytes = do
  tenure ← read_tenure bytes
  floor ← read_number w64 tenure.1
  ends ← read_last_ends TRANSFER_BYTES size floor.1
  Ok (record { tenure = tenure.0; floor = floor.0; ends = ends.0 }, ends.1)

-- the tenure, the source, the floor and the ends
unfoldable pub grant_bytes : Grant → List ℕ
grant_bytes grant = tenure_bytes grant.tenure ++ (number_bytes w8 grant.source ++ (number_bytes w64 grant.floor ++ ends_bytes grant.ends))

-- how many bytes a Grant takes
abbrev pub grant_count : Grant → ℕ
grant_count grant = GRANT_BYTES + END_BYTES * length grant.ends

-- any source and floor, and lawful ends
abbrev pub IsLawfulGrant : Grant → Type 0
IsLawfulGrant grant = IsLawfulTenure grant.tenure × IsNumber w8 0 grant.source × IsNumber w64 0 grant.floor × AllByRecursion IsLawfulEnd grant.ends

-- a Grant of `size` bytes, and the bytes after it
unfoldable pub read_grant : ℕ → List ℕ → Result (Grant × List ℕ) DecodeError
read_grant size bytes = do
  tenure ← read_tenure bytes
  source ← read_number w8 tenure.1
  floor ← read_number w64 source.1
  ends ← read_last_ends GRANT_BYTES size floor.1
  Ok (record { tenure = tenure.0; source = source.0; floor = floor.0; ends = ends.0 }, ends.1)
