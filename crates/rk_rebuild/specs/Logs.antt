-- What was read of the logs of masters, as the code keeps it: one log for each master, and a reader for each member of the
-- lineage.
use Rattle.std.specs.Prelude.{◌+◌, not, take, is_some, ◌≡◌, ℕ, ◌<◌, ◌==◌, Bool, true, List, find, length, map, drop, if◌then◌else◌, Option, Some, None}
use Rattle.std.specs.List.{AllByRecursion, flat_map, position_or_len}
use Rattle.rk_types.specs.NumberMap.{NumberMap, get}
use Rattle.rk_entry.specs.declared.entry.Entry.{Entry}
use Rattle.rk_types.specs.declared.lineage.Member.{Member}
use Rattle.rk_types.specs.declared.range.Range.{Range}
use Rattle.rk_world.specs.Gather.{Gathered, unread, main_entries, LAST_MAIN_SEGMENT}
use Rattle.rk_world.specs.Material.{named}
use Rattle.rk_rebuild.specs.declared.member.ReadLog.{ReadLog}
use Rattle.rk_rebuild.specs.declared.member.Reader.{Reader}

-- whether a log is that of a master
abbrev pub is_by : ℕ → ReadLog → Bool
is_by master log = log.master == master

-- what was read of a master, if anything was
abbrev pub log_of : List ReadLog → ℕ → Option ReadLog
log_of logs master = find (is_by master) logs

-- what was read of a member, given what was read of its master
abbrev pub gathered_of : Option ReadLog → Member → Gathered
gathered_of None member = unread member
gathered_of (Some log) member = record { member = member; main = log.main; main_read = log.main_read; sides = log.sides }

-- what was read of a member
abbrev pub gathered_at : List ReadLog → Member → Gathered
gathered_at logs member = gathered_of (log_of logs member.master) member

-- what was read of each member
abbrev pub members_of : List ReadLog → List Reader → List Gathered
members_of logs readers = map (λ reader. gathered_at logs reader.member) readers

-- whether a side segment was not read
abbrev pub is_unread : NumberMap (List Entry) → ℕ → Bool
is_unread sides segment = not (is_some (get sides segment))

-- these are the side segments that a member's entries name, and so many first ones of them were read
pub record IsUpTo (range : Range) (gathered : Gathered) (numbers : List ℕ) (done : ℕ) : Type 0 where
  pub named : numbers ≡ named range (main_entries gathered)
  pub before : find (is_unread gathered.sides) (take done numbers) ≡ None

-- a reader whose master's main segments are passed has the side segments that they name
abbrev pub KnowsNamed : Range → List ReadLog → Reader → Type 0
KnowsNamed range logs reader =
    (gathered_at logs reader.member).main_read ≡ true
    → IsUpTo range (gathered_at logs reader.member) reader.named reader.done

-- a log has fewer main segments than there can be
abbrev pub IsShort : ReadLog → Type 0
IsShort log = length log.main < LAST_MAIN_SEGMENT

-- what code keeps beside what was read is right
pub record IsGathered (range : Range) (logs : List ReadLog) (readers : List Reader) : Type 0 where
  pub short : AllByRecursion IsShort logs
  pub named : AllByRecursion (KnowsNamed range logs) readers

-- a reader of a master, once the main segments of that one are passed
abbrev pub passed : Range → ReadLog → Reader → Reader
passed range log reader =
    if reader.member.master == log.master
    then record reader { named = named range (drop reader.member.from (flat_map (λ entries. entries) log.main)); done = 0 }
    else reader

-- a reader of a master, moved on to the first side segment that was not read of that one
abbrev pub advanced : ReadLog → Reader → Reader
advanced log reader =
    if reader.member.master == log.master
    then record reader { done = reader.done + position_or_len (is_unread log.sides) (drop reader.done reader.named) }
    else reader
