-- A backup: it stores the segments of the masters' logs, which only grow at their end.
use Rattle.std.specs.Prelude.{ℕ, ◌==◌, ◌&&◌, Bool, true, false, nat_le, nat_lt, if◌then◌else◌, List, [], ◌∷◌, length, take, Option, Some, None}
use Rattle.rk_types.specs.declared.node.Node.{Node}
use Rattle.rk_types.specs.declared.node.Node.TheVariants as nodes
use Rattle.rk_outside.specs.Segments.{Segments, bytes_of, with_part}
use Rattle.rk_backup.specs.Accepts.{added}
use Rattle.rk_message.specs.declared.message.Body.{Body}
use Rattle.rk_message.specs.declared.message.Body.TheVariants as bodies
use Rattle.rk_message.specs.declared.message.Message.{Message}
use Rattle.rk_message.specs.declared.rebuilding.ReadSegment.{ReadSegment}
use Rattle.rk_message.specs.declared.replication.Append.{Append}

-- no segment was ever written
abbrev pub no_segments : Segments
no_segments master segment = None

-- the segments with one of them as given
abbrev pub with_stored : Segments → ℕ → ℕ → Option (List ℕ) → Segments
with_stored segments master segment stored m s =
    if m == master && (s == segment) then stored else segments m s

-- the bytes that an append adds: what goes past the stored ones, if it begins within them or at their end and is equal
-- as far as both go
abbrev pub added_by : Segments → ℕ → Append → List ℕ
added_by segments master append = added append.at append.bytes (bytes_of (segments master append.segment))

-- the segments after these bytes were added to one of them
abbrev pub with_more : Segments → ℕ → ℕ → List ℕ → Segments
with_more segments master segment bytes =
    with_stored segments master segment (with_part (segments master segment) bytes)

-- what the call of a replica came to
pub data Called : Type 0 where
  -- an append went well, or had nothing to store, and the segment has so many bytes now
  Appended : (length : ℕ) → Called
  -- a read gave these bytes; none if the segment was never written
  Gave : (bytes : Option (List ℕ)) → Called
  -- the replica failed; an append may have stored so many first bytes of those that were new
  Failed : (stored : ℕ) → Called

-- how much of these bytes is stored then
abbrev pub stored_part : List ℕ → Called → List ℕ
stored_part bytes (Appended length) = bytes
stored_part bytes (Gave read) = []
stored_part bytes (Failed stored) = take stored bytes

-- a backup takes an Append
abbrev pub append_taken : Segments → ℕ → Append → Called → Segments
append_taken segments master append called =
    with_more segments master append.segment (stored_part (added_by segments master append) called)

-- what a backup stores once it took what a master sent; only an Append adds to it
abbrev pub stored_after : Segments → Node → Body → Called → Segments
stored_after segments (nodes.Master master) (bodies.Append append) called = append_taken segments master append called
stored_after segments sender body called = segments

-- ---- what a replica that reports its segments answers; `fault` says whether it fails, and how many bytes an append stores
-- then

-- whether an append calls the replica: it does if it has bytes and they begin within the stored ones or at their end
abbrev pub calls_replica : ℕ → Append → Bool
calls_replica stored append = nat_le append.at stored && nat_lt 0 (length append.bytes)

-- what an append comes to
abbrev pub append_called : Segments → ℕ → Append → Option ℕ → Called
append_called segments master append None =
    Appended (length (bytes_of (append_taken segments master append (Appended 0) master append.segment)))
append_called segments master append (Some stored) =
    if calls_replica (length (bytes_of (segments master append.segment))) append then Failed stored
    else Appended (length (bytes_of (segments master append.segment)))

-- what a read comes to
abbrev pub read_called : Segments → ReadSegment → Option ℕ → Called
read_called segments read None = Gave (segments read.master read.segment)
read_called segments read (Some stored) = Failed 0

-- what the call of a replica comes to, by what is sent
abbrev pub called_by : Segments → Node → Body → Option ℕ → Called
called_by segments (nodes.Master master) (bodies.Append append) fault = append_called segments master append fault
called_by segments (nodes.Master master) (bodies.Read read) fault = read_called segments read fault
called_by segments sender body fault = Gave None

-- ---- what a backup makes of a message

-- the longest first part that two lists have in common
abbrev pub common_front : List ℕ → List ℕ → List ℕ
common_front [] ys = []
common_front (x ∷ xs) [] = []
common_front (x ∷ xs) (y ∷ ys) = if x == y then x ∷ common_front xs ys else []

-- the bytes of a copy: of what was read, the longest first part that is also a first part of the log's segment; none if the segment
-- was never written or the log has none
abbrev pub copied : Option (List ℕ) → List ℕ → Option (List ℕ)
copied None segment = None
copied (Some read) [] = None
copied (Some read) (byte ∷ more) = Some (common_front read (byte ∷ more))

-- what a backup makes of a message: what it sends, and whether the message was lost, since the replica failed
pub record Backed : Type 0 where
  pub sends : List Message
  pub lost : Bool

-- nothing is sent
abbrev pub idle : Backed
idle = record { sends = []; lost = false }

-- the message is lost
abbrev pub failing : Backed
failing = record { sends = []; lost = true }

-- a backup answers a master
abbrev pub answering_master : ℕ → ℕ → Body → Backed
answering_master backup master body = record {
  sends = (record { from = nodes.Backup backup; to = nodes.Master master; body = body }) ∷ [];
  lost = false;
}

-- a backup took an Append, and reports how much is stored
abbrev pub append_step : ℕ → ℕ → Append → Called → Backed
append_step backup master append (Appended length) =
    answering_master backup master (bodies.Stored (record { segment = append.segment; length = length }))
append_step backup master append (Gave bytes) = idle
append_step backup master append (Failed stored) = failing

-- a backup takes a Read; `log` has the segments of each master's log
abbrev pub read_step : ℕ → ℕ → ReadSegment → (ℕ → ℕ → List ℕ) → Called → Backed
read_step backup master read log (Appended length) = idle
read_step backup master read log (Gave bytes) =
    answering_master backup master (bodies.Copy (record {
      tenure = read.tenure;
      master = read.master;
      segment = read.segment;
      bytes = copied bytes (log read.master read.segment);
    }))
read_step backup master read log (Failed stored) = failing

-- a backup takes what a master sent
abbrev pub master_message : ℕ → ℕ → Body → (ℕ → ℕ → List ℕ) → Called → Backed
master_message backup master (bodies.Append append) log called = append_step backup master append called
master_message backup master (bodies.Read read) log called = read_step backup master read log called
master_message backup master body log called = idle

-- a backup takes a message, by its sender and by what the call of its replica came to, if one is made
abbrev pub backup_step : ℕ → Node → Body → (ℕ → ℕ → List ℕ) → Called → Backed
backup_step backup (nodes.Master master) body log called = master_message backup master body log called
backup_step backup sender body log called = idle
