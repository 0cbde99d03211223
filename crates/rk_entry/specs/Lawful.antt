-- Which entries may be in a log.
use Rattle.std.specs.Prelude.{◌≡◌, ◌≤◌, ◌+◌, ◌*◌, length, IsTrue, nat_eq, IfSome, None}
use Rattle.std.specs.List.{AllByRecursion, IsDistinct}
use Rattle.std.specs.Int.{w32, w64}
use Rattle.rk_types.specs.Text.{key_fault, value_fault}
use Rattle.rk_types.specs.declared.held.Held.{Held}
use Rattle.rk_entry.specs.declared.entry.Entry.{Entry}
use Rattle.rk_entry.specs.declared.entry.Entry.TheVariants as entries
use Rattle.rk_entry.specs.declared.entry.Refused.{Refused}
use Rattle.rk_entry.specs.declared.entry.Carried.{Carried}
use Rattle.rk_entry.specs.declared.entry.Joined.{Joined}
use Rattle.rk_entry.specs.declared.kind.TheConstants.{MOST_ENDS, JOINED_BYTES, SEGMENT_NUMBER_BYTES, LONGEST_BODY}
use Rattle.rk_entry.specs.declared.lists.TheConstants.{FIRST_SIDE_SEGMENT}
use Rattle.rk_entry.specs.Numbers.{IsNumber}
use Rattle.rk_entry.specs.Ends.{IsLawfulRange, IsLawfulEnd, RiseAbove}

-- an item: its numbers count from 1, and its key and its value are within their limits
pub record IsLawfulHeld (held : Held) : Type 0 where
  pub table : IsNumber w64 1 held.table
  pub version : IsNumber w64 1 held.version
  pub client : IsNumber w32 1 held.client
  pub seq : IsNumber w64 1 held.seq
  pub key : key_fault held.key ≡ None
  pub value : IfSome held.value (λ value. value_fault value ≡ None)

-- a refusal: a removal found no version
pub record IsLawfulRefused (refused : Refused) : Type 0 where
  pub table : IsNumber w64 1 refused.table
  pub found : IsNumber w64 0 refused.found
  pub client : IsNumber w32 1 refused.client
  pub seq : IsNumber w64 1 refused.seq
  pub none_found : IsTrue refused.absent → refused.found ≡ 0
  pub key : key_fault refused.key ≡ None

-- the ends that came with a tablet: one for each client, in rising order, and no more than two bytes count
pub record IsLawfulCarried (carried : Carried) : Type 0 where
  pub range : IsLawfulRange carried.range
  pub term : IsNumber w64 1 carried.term
  pub floor : IsNumber w64 1 carried.floor
  pub few : length carried.ends ≤ MOST_ENDS
  pub each : AllByRecursion IsLawfulEnd carried.ends
  pub rising : RiseAbove 0 carried.ends

-- the side segments that became part of the log: distinct, and no more than a body holds
pub record IsLawfulJoined (joined : Joined) : Type 0 where
  pub range : IsLawfulRange joined.range
  pub term : IsNumber w64 1 joined.term
  pub few : JOINED_BYTES + SEGMENT_NUMBER_BYTES * length joined.segments ≤ LONGEST_BODY
  pub each : AllByRecursion (IsNumber w32 FIRST_SIDE_SEGMENT) joined.segments
  pub distinct : IsDistinct nat_eq joined.segments

-- an entry that may be in a log
abbrev pub IsLawfulEntry : Entry → Type 0
IsLawfulEntry (entries.Held held) = IsLawfulHeld held
IsLawfulEntry (entries.Refused refused) = IsLawfulRefused refused
IsLawfulEntry (entries.Carried carried) = IsLawfulCarried carried
IsLawfulEntry (entries.Joined joined) = IsLawfulJoined joined
