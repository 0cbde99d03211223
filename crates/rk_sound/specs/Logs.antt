-- Logs: each backup stores first parts of each master's segments, one segment after the other, and no master believes it to
-- store more. So every backup holds what is applied; the steps that apply entries, and those that read a dead master's log, need it.
use Rattle.std.specs.Prelude.{◌≡◌, ◌≢◌, ◌≤◌, ◌<◌, ℕ, Bool, true, nat_lt, List, [], ◌++◌, length, map, All, ⊤}
use Rattle.rk_types.specs.NumberMap.{NumberMap, EachIn}
use Rattle.rk_types.specs.declared.node.Node.{Node}
use Rattle.rk_types.specs.declared.node.Node.TheVariants as nodes
use Rattle.rk_outside.specs.Segments.{Segments, bytes_of as stored_bytes}
use Rattle.rk_entry.specs.Entries.{spelled_all}
use Rattle.rk_entry.specs.declared.entry.Entry.{Entry}
use Rattle.rk_entry.specs.declared.entry.Entry.TheVariants as entries
use Rattle.rk_entry.specs.declared.lists.TheConstants.{FIRST_SIDE_SEGMENT}
use Rattle.rk_log.specs.Known.{Known, known_length}
use Rattle.rk_log.specs.Log.{Log, IsBackup, bytes_of, known_of, committed, is_side_stored}
use Rattle.rk_message.specs.declared.message.Body.{Body}
use Rattle.rk_message.specs.declared.message.Body.TheVariants as bodies
use Rattle.rk_message.specs.declared.message.Message.{Message}
use Rattle.rk_message.specs.declared.replication.Append.{Append}
use Rattle.rk_world.specs.Material.{as_entries}
use Rattle.rk_world.specs.Written.{Written}

-- bytes with which others begin
pub record IsFirstPart (bytes whole : List ℕ) : Type 0 where
  pub more : List ℕ
  pub parts : whole ≡ bytes ++ more

-- whether a segment is one of the main ones
abbrev pub is_main : ℕ → Bool
is_main segment = nat_lt segment FIRST_SIDE_SEGMENT

-- each earlier segment of the same sort is known to be stored whole
abbrev pub IsKnownBefore : Log → Known → ℕ → Type 0
IsKnownBefore log known later =
    (segment : ℕ) → segment < later → is_main segment ≡ is_main later
    → length (bytes_of log segment) ≤ known_length known segment

-- what a backup stores of the segments of a log, and is known to store
pub record IsCopy (log : Log) (stored : ℕ → List ℕ) (known : Known) : Type 0 where
  pub front : (segment : ℕ) → IsFirstPart (stored segment) (bytes_of log segment)
  -- nothing of a segment is stored before those before it of the same sort are known to be stored whole
  pub in_order : (segment : ℕ) → stored segment ≢ [] → IsKnownBefore log known segment
  pub told : (segment : ℕ) → known_length known segment ≤ length (stored segment)

-- the side segments that an entry names
abbrev pub segments_in : Entry → List ℕ
segments_in (entries.Joined joined) = joined.segments
segments_in _ = []

-- a master's log, with what it has written and what each backup stores of it
pub record IsLog (log : Log) (written : Written) (stored : ℕ → ℕ → List ℕ) : Type 0 where
  pub entries_are : log.entries ≡ written.entries
  -- what is applied is known to be held by every backup
  pub held : written.applied ≤ committed log
  pub copies : (backup : ℕ) → IsBackup log backup → IsCopy log (stored backup) (known_of log backup)
  -- side segments spell the items that they have
  pub spelled : log.sides ≡ map (λ items. spelled_all (as_entries items)) written.sides
  -- a Joined is in the log only if every backup is known to hold the segments that it names
  pub named : All (λ entry. All (λ segment. is_side_stored log segment ≡ true) (segments_in entry)) written.entries
  -- a marked piece lies within the log
  pub marked : All (λ mark. mark.past ≤ length written.entries) written.marks

-- an Append carries bytes of the log at their place, and bytes of a segment only once the segments before it of the same sort are
-- known to be stored whole
pub record IsFromLog (log : Log) (known : Known) (append : Append) : Type 0 where
  pub before : List ℕ
  pub behind : List ℕ
  pub bytes : bytes_of log append.segment ≡ before ++ (append.bytes ++ behind)
  pub place : length before ≡ append.at
  pub in_order : append.bytes ≢ [] → IsKnownBefore log known append.segment

-- the bytes of each segment that a backup stores of a master's log
abbrev pub stored_of : (ℕ → Segments) → ℕ → ℕ → ℕ → List ℕ
stored_of stored master backup segment = stored_bytes (stored backup master segment)

-- what an Append and a Stored say
abbrev pub LogSays : (ℕ → Log) → (ℕ → Segments) → Node → Node → Body → Type 0
LogSays logs stored (nodes.Master master) (nodes.Backup backup) (bodies.Append append) =
    IsFromLog (logs master) (known_of (logs master) backup) append
LogSays logs stored (nodes.Backup backup) (nodes.Master master) (bodies.Stored told) =
    told.length ≤ length (stored_of stored master backup told.segment)
LogSays logs stored from to body = ⊤

pub record Logs (logs : ℕ → Log) (written : ℕ → Written) (stored : ℕ → Segments) (wire : NumberMap Message) : Type 0 where
  pub each : (master : ℕ) → IsLog (logs master) (written master) (stored_of stored master)
  pub sent : EachIn (λ number message. LogSays logs stored message.from message.to message.body) wire
