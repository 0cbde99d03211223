-- How a run is concluded in code, and what is known of it then.
use Rattle.std.specs.Prelude.{◌≡◌, ◌⊎◌, ◌*◌, ℕ, List, ◌++◌, drop, take, Option, None, Some, ⊤}
use Rattle.std.specs.Io.KnownBytes.{Appends, Keeps}
use Rattle.rk_types.specs.declared.hashing.TheConstants.{LANES}
use Rattle.rk_types.specs.declared.status.Status.{Status}
use Rattle.rk_types.specs.declared.status.Status.TheVariants.{Audit, Done, NoMemory, ReadFault, Usage, WriteFault}
use Rattle.rk_outside.specs.Parts.{AppendsPart}
use Rattle.rk_outside.specs.Segments.{Segments}
use Rattle.rk_world.specs.Cluster.{Cluster}
use Rattle.rk_cluster.specs.Faults.{GoOn}
use Rattle.rk_cluster.specs.Replicas.{Fate}
use Rattle.rk_script.specs.declared.command.Numbered.{Numbered}
use Rattle.rk_play.specs.Played.{Played, all_fates, played_in, stopped_at, text_of}
use Rattle.rk_play.specs.Runs.{MayBePart, Runs, TellStored, backup_count, replica_counts}
use Rattle.rk_play.specs.Stops.{stop_by}
use Rattle.rk_play.specs.declared.end.End.{End}
use Rattle.rk_play.specs.declared.end.End.TheVariants as ends

-- a text was written, and the status is as given, or the sink failed
abbrev pub IsWritten : List ℕ → Status → Status → Option (List ℕ) → Option (List ℕ) → Type 0
IsWritten text given status old new =
    ((status ≡ given) × Appends old new text) ⊎ ((status ≡ WriteFault) × AppendsPart old new text)

-- a run that had held back this text ends as it is played; or memory is wanting, and nothing was written
abbrev pub Concludes : Played → List ℕ → Status → Option (List ℕ) → Option (List ℕ) → Type 0
Concludes p held status old new =
    IsWritten (held ++ text_of p) p.status status old new ⊎ ((status ≡ NoMemory) × Keeps old new)

-- how the commands of a run end, the run is concluded
abbrev pub ConcludesBy : End → List ℕ → Status → Option (List ℕ) → Option (List ℕ) → Type 0
ConcludesBy ends.Done held status old new = IsWritten held Done status old new
ConcludesBy (ends.Stopped line error) held status old new =
    (cluster : Cluster) → Concludes (stopped_at line (stop_by error) cluster) held status old new
ConcludesBy ends.WriteFault held status old new = (status ≡ WriteFault) × Keeps old new
ConcludesBy ends.NoMemory held status old new = (status ≡ NoMemory) × Keeps old new

-- a script that was read comes to this status
abbrev pub MayComeTo : Status → Type 0
MayComeTo Usage = ⊥
MayComeTo ReadFault = ⊥
MayComeTo Audit = ⊥
MayComeTo status = ⊤

-- a part of numbered commands played in a cluster
abbrev pub part_in : List Numbered → Cluster → Option ℕ → List (List Fate) → Played
part_in commands cluster (Some count) fates = played_in (take count commands) fates cluster
part_in commands cluster None fates = played_in commands fates cluster

-- what a run says, whose parts are played so by the fates of the calls of replicas, and that has so many commands
pub record PlaysBy {R : Type 0} (segments : R → Option Segments) (faults : R → ℕ) (played_by : Option ℕ → List (List Fate) → Played) (most : ℕ) (status : Status) (old new : Option (List ℕ)) (before after : List R) : Type 0 where
  pub part : Option ℕ
  pub may : MayBePart status most part
  pub fates : List (List Fate)
  pub runs : Runs (played_by part fates) status old new
  pub counts : (status ≡ NoMemory → ⊥) → GoOn (all_fates fates) (replica_counts faults before) (replica_counts faults after)
  pub stored : (status ≡ NoMemory → ⊥) → TellStored segments after (played_by part fates).cluster
  pub others : (status ≡ NoMemory → ⊥)
      → let backups = backup_count (played_by part fates).cluster in drop (LANES * backups) after ≡ drop (LANES * backups) before
