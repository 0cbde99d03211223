-- What a run in code says of the run played: its status, what its sink holds after it, and what its replicas report.
use Rattle.std.specs.Prelude.{◌≡◌, ℕ, ◌+◌, ◌-◌, ◌*◌, ◌<◌, ◌≤◌, nat_lt, if◌then◌else◌, List, [], drop, length, map, take, Option, None, Some, Result, Ok, Err, slice_get, ⊤}
use Rattle.std.specs.List.{concat}
use Rattle.std.specs.Io.KnownBytes.{Appends, IsAtEnd, Keeps}
use Rattle.rk_types.specs.NumberMap.{get}
use Rattle.rk_types.specs.declared.hashing.TheConstants.{LANES}
use Rattle.rk_types.specs.declared.status.Status.{Status}
use Rattle.rk_types.specs.declared.status.Status.TheVariants.{Done, Refused, Usage, ReadFault, WriteFault, NoMemory, ReplicaFault, Audit, Worn}
use Rattle.rk_outside.specs.declared.reading.TheConstants.{PIECE}
use Rattle.rk_outside.specs.Faults.{Rose}
use Rattle.rk_outside.specs.Parts.{AppendsPart, ConsumesBetween}
use Rattle.rk_outside.specs.Segments.{Segments}
use Rattle.rk_script.specs.declared.script.TheConstants.{LONGEST_SCRIPT}
use Rattle.rk_script.specs.Script.{script_of}
use Rattle.rk_script.specs.declared.command.Numbered.{Numbered}
use Rattle.rk_script.specs.declared.script.ParseError.{ParseError}
use Rattle.rk_world.specs.Cluster.{Cluster, lane_at}
use Rattle.rk_cluster.specs.Faults.{Counts, GoOn}
use Rattle.rk_cluster.specs.Replicas.{Fate}
use Rattle.rk_play.specs.Played.{Played, all_fates, played_part, text_of}

-- the status is that of the run played, and its whole text was written
pub record Ends (p : Played) (status : Status) (old new : Option (List ℕ)) : Type 0 where
  pub ended : p.status ≡ status
  pub written : Appends old new (text_of p)

-- memory was wanting behind this run: the pieces of the first of its commands were written, and all of them came to their end
pub record Halts (p : Played) (old new : Option (List ℕ)) : Type 0 where
  pub ended : p.status ≡ Done
  pub pieces : ℕ
  pub few : pieces ≤ length p.pieces
  pub written : Appends old new (concat (take pieces p.pieces))

-- the sink failed: it has a part of the text of this run, which came to an end
pub record Breaks (p : Played) (old new : Option (List ℕ)) : Type 0 where
  pub ended : p.status ≡ NoMemory → ⊥
  pub written : AppendsPart old new (text_of p)

-- what each status says of the run played; the others do not come
abbrev pub Runs : Played → Status → Option (List ℕ) → Option (List ℕ) → Type 0
Runs p Done old new = Ends p Done old new
Runs p Refused old new = Ends p Refused old new
Runs p Worn old new = Ends p Worn old new
Runs p ReplicaFault old new = Ends p ReplicaFault old new
Runs p ReadFault old new = Keeps old new
Runs p WriteFault old new = Breaks p old new
Runs p NoMemory old new = Halts p old new
Runs p Usage old new = ⊥
Runs p Audit old new = ⊥

-- one of these replicas is at a place, and reports these segments
pub record TellsAt {R : Type 0} (segments : R → Option Segments) (replicas : List R) (place : ℕ) (stored : Segments) : Type 0 where
  pub replica : R
  pub there : slice_get replicas place ≡ Some replica
  pub tells : segments replica ≡ Some stored

-- replicas report what the backups of a cluster store: backup b of lane l has the replica at place 8 * (b - 1) + l, counted from 0
abbrev pub TellStored : {R : Type 0} → (R → Option Segments) → List R → Cluster → Type 0
TellStored segments replicas cluster =
    (lane place : ℕ) (stored : Segments) → lane < LANES → get (lane_at cluster lane).backups (place + 1) ≡ Some stored
    → TellsAt segments replicas (LANES * place + lane) stored

-- the counts of faults of the replicas of a run, by lane and by the place of the backup
abbrev pub replica_counts : {R : Type 0} → (R → ℕ) → List R → Counts
replica_counts faults replicas lane place =
    if nat_lt lane LANES then slice_get (map faults replicas) (LANES * place + lane) else None

-- of replicas that come back no count of faults fell, and as many come back as there were; or none comes back
abbrev pub NoneFell : {R : Type 0} → (R → ℕ) → List R → List R → Type 0
NoneFell faults before after =
    (after ≡ [] → ⊥) → GoOn [] (replica_counts faults before) (replica_counts faults after)

-- how many backups each lane of a cluster has
abbrev pub backup_count : Cluster → ℕ
backup_count cluster = (lane_at cluster 0).backup_count

-- how many commands a script has; none if it is refused before anything runs
abbrev pub count_of : Result (List Numbered) ParseError → ℕ
count_of (Ok commands) = length commands
count_of (Err fault) = 0

-- a run is all of a script with so many commands, or, if memory was wanting, what comes before one of its commands; if the sink failed it
-- may be any part
abbrev pub MayBePart : Status → ℕ → Option ℕ → Type 0
MayBePart NoMemory most (Some count) = count ≤ most - 1
MayBePart WriteFault most part = ⊤
MayBePart NoMemory most None = ⊥
MayBePart status most None = ⊤
MayBePart status most part = ⊥

-- by the fates of the calls of replicas a script, or its first commands, was played with this status, and its sink holds what was written.
-- Unless memory was wanting, for each call that failed the count of its replica rose, the replicas report what the backups store at the end
-- of that run, and those of backups that the run does not have are as they were
pub record Plays {R : Type 0} (segments : R → Option Segments) (faults : R → ℕ) (script : List ℕ) (status : Status) (old new : Option (List ℕ)) (before after : List R) : Type 0 where
  pub part : Option ℕ
  pub may : MayBePart status (count_of (script_of script)) part
  pub fates : List (List Fate)
  pub runs : Runs (played_part part script fates) status old new
  pub counts : (status ≡ NoMemory → ⊥) → GoOn (all_fates fates) (replica_counts faults before) (replica_counts faults after)
  pub stored : (status ≡ NoMemory → ⊥) → (status ≡ ReadFault → ⊥) → TellStored segments after (played_part part script fates).cluster
  pub others : (status ≡ NoMemory → ⊥)
      → let backups = backup_count (played_part part script fates).cluster in drop (LANES * backups) after ≡ drop (LANES * backups) before

-- a status reports a fault exactly if there was one: the count of faults rose if it does, and else it stays
pub record HasStatusCause (fault status : Status) (before now : ℕ) : Type 0 where
  pub later : before ≤ now
  pub kept : (status ≡ fault → ⊥) → now ≡ before
  pub rose : status ≡ fault → Rose before now

-- how much is gone of a script whose run was refused: all of it, or, if it is too long, one byte more than the longest
-- has at least, and at most a piece more
pub record IsRead (script : List ℕ) (left : Option (List ℕ)) : Type 0 where
  pub whole : length script ≤ LONGEST_SCRIPT → IsAtEnd left
  pub part : LONGEST_SCRIPT < length script → ConsumesBetween (Some script) left (LONGEST_SCRIPT + 1) (LONGEST_SCRIPT + PIECE)
