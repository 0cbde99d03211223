-- How a drive ends whose lanes and sessions were gathered into a cluster: by its status, what was written, and which replicas come back.
use Rattle.std.specs.Prelude.{◌≡◌, ◌≤◌, Bool, List, [], Option, Some, ℕ, ⊤}
use Rattle.std.specs.Io.KnownBytes.{Appends}
use Rattle.rk_types.specs.declared.status.Status.{Status}
use Rattle.rk_types.specs.declared.status.Status.TheVariants as statuses
use Rattle.rk_outside.specs.Faults.{Rose}
use Rattle.rk_outside.specs.Parts.{AppendsPart}
use Rattle.rk_outside.specs.Segments.{Segments}
use Rattle.rk_world.specs.Cluster.{Cluster}
use Rattle.rk_lane.specs.LaneState.{LaneState}
use Rattle.rk_cluster.specs.Effects.{RunsTo}
use Rattle.rk_cluster.specs.Faults.{Counts, counts_in}
use Rattle.rk_cluster.specs.Replicas.{Fate}
use Rattle.rk_cluster.specs.State.{ClusterState, IsOf}
use Rattle.rk_settle.specs.Course.{Course, course_of, error_of, moved_all}
use Rattle.rk_settle.specs.Settle.{settle}
use Rattle.rk_settle.specs.declared.error.SettleError.{SettleError}
use Rattle.rk_settle.specs.declared.error.SettleError.TheVariants as errors
use Rattle.rk_lending.specs.Lent.{AreGivenBack}
use Rattle.rk_conclude.specs.Reports.{IsReport}

-- the course of the settling of a cluster, by the fates of the calls of replicas
abbrev pub settling : Cluster → List Fate → Course
settling start fates = moved_all (course_of start (settle start)) fates

-- a cluster in code represents what settling made of another one, by some fates, and what occurred leads there
pub record IsSettled {R : Type 0} (segments : R → Option Segments) (start : Cluster) (state : ClusterState R) (fates : List Fate) : Type 0 where
  pub is : IsOf segments state (settling start fates).cluster
  pub leads : RunsTo start (settling start fates).occurred (settling start fates).cluster

-- it came to rest, and this is so of the cluster at rest
pub record ComesToRest {R : Type 0} (segments : R → Option Segments) (start : Cluster) (state : ClusterState R) (Rests : Cluster → Type 0) : Type 0 where
  pub fates : List Fate
  pub settled : IsSettled segments start state fates
  pub over : (settling start fates).tasks ≡ []
  pub rests : Rests (settling start fates).cluster

-- the status of a drive whose settling stops for this reason
abbrev pub stop_status : SettleError → Status
stop_status errors.NoMemory = statuses.NoMemory
stop_status (errors.Worn number) = statuses.Worn
stop_status (errors.Replica rounds) = statuses.ReplicaFault
stop_status errors.TooLong = statuses.NoMemory

-- settling stopped for this reason
pub record StopsFor {R : Type 0} (segments : R → Option Segments) (start : Cluster) (state : ClusterState R) (error : SettleError) : Type 0 where
  pub fates : List Fate
  pub settled : IsSettled segments start state fates
  pub stops : error_of (settling start fates) ≡ Some error

-- the report of a cluster was written, with this status; nothing if memory was wanting, and a first part of it if the sink failed
abbrev pub WritesReport : Bool → Option (List ℕ) → Option (List ℕ) → Status → Cluster → Type 0
WritesReport history old new statuses.NoMemory cluster = new ≡ old
WritesReport history old new statuses.WriteFault cluster =
    (text : List ℕ) × (status : Status) × IsReport history cluster text status × AppendsPart old new text
WritesReport history old new status cluster = (text : List ℕ) × IsReport history cluster text status × Appends old new text

-- by its status, how a drive ends that began to settle in a cluster
abbrev pub EndsSo : {R : Type 0} → (R → Option Segments) → Cluster → Bool → Option (List ℕ) → Option (List ℕ) → ClusterState R → Status → Type 0
EndsSo segments start history old new state statuses.NoMemory = new ≡ old
EndsSo segments start history old new state statuses.Worn =
    (number : ℕ) × StopsFor segments start state (errors.Worn number) × (new ≡ old)
EndsSo segments start history old new state statuses.ReplicaFault =
    (rounds : ℕ) × StopsFor segments start state (errors.Replica rounds) × (new ≡ old)
EndsSo segments start history old new state status =
    ComesToRest segments start state (WritesReport history old new status)

-- a drive may end with this status
abbrev pub MayEnd : Status → Type 0
MayEnd statuses.Usage = ⊥
MayEnd statuses.ReadFault = ⊥
MayEnd statuses.Refused = ⊥
MayEnd status = ⊤

-- the count of a sink's faults rose if the status reports one, and else it is as it was
pub record HasSinkCause (status : Status) (before now : ℕ) : Type 0 where
  pub later : before ≤ now
  pub kept : (status ≡ statuses.WriteFault → ⊥) → now ≡ before
  pub rose : status ≡ statuses.WriteFault → Rose before now

-- a drive ends so, and unless memory was wanting the replicas of its lanes come back before the others
pub record Concludes {R : Type 0} (segments : R → Option Segments) (start : Cluster) (history : Bool) (old new : Option (List ℕ)) (others after : List R) (status : Status) : Type 0 where
  pub state : ClusterState R
  pub ends : EndsSo segments start history old new state status
  pub back : (status ≡ statuses.NoMemory → ⊥) → AreGivenBack state.lanes others after

-- the replicas of lanes that were brought to rest come back before the others, and this holds between the counts of faults before and after
pub record ComeBack {R : Type 0} (faults : R → ℕ) (Rises : Counts → Counts → Type 0) (lanes : List (LaneState R)) (others after : List R) : Type 0 where
  -- the lanes afterwards
  pub rested : List (LaneState R)
  pub counts : Rises (counts_in faults lanes) (counts_in faults rested)
  pub back : AreGivenBack rested others after
