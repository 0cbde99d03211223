-- What a drive comes to.
use Rattle.std.specs.Prelude.{◌≡◌, ◌<◌, ◌*◌, ◌⊎◌, ℕ, List, None, Option, drop, length, map}
use Rattle.std.specs.Io.KnownBytes.{Appends}
use Rattle.rk_types.specs.declared.hashing.TheConstants.{LANES}
use Rattle.rk_types.specs.declared.status.Status.{Status}
use Rattle.rk_types.specs.declared.status.Status.TheVariants as statuses
use Rattle.rk_types.specs.NumberMap.{EachIn}
use Rattle.rk_outside.specs.Segments.{Segments}
use Rattle.rk_world.specs.Cluster.{Cluster, HasOneHistory, IsQuietCluster, journals_of, lane_at}
use Rattle.rk_cluster.specs.Fresh.{AreEmpty}
use Rattle.rk_cluster.specs.State.{ClusterState, IsOf}
use Rattle.rk_laws_drives.specs.Below.{AreOfDistinctCalls, HasJustTheAnswers}
use Rattle.rk_laws_drives.specs.Below.{receipts_in}
use Rattle.rk_laws_drives.specs.Below.{HistoryIsStored}
use Rattle.rk_lending.specs.Lent.{AreGivenBack}
use Rattle.rk_workload.specs.Workload.{workload}
use Rattle.rk_conclude.specs.Concluded.{Concludes}
use Rattle.rk_conclude.specs.Reports.{drive_text}
use Rattle.rk_drive.specs.Driven.{IsDriven}
use Rattle.rk_drive.specs.declared.plan.Plan.{Plan}
use Rattle.rk_drive.specs.declared.start.TheConstants.{BACKUPS}

-- how a drive ends once its clients have ended: their lanes and sessions are brought to rest, and the outcome is written
pub record IsConcluded {R : Type 0} (segments : R → Option Segments) (plan : Plan) (old new : Option (List ℕ)) (before after : List R) (status : Status) : Type 0 where
  pub start : Cluster
  pub driven : IsDriven plan start
  pub concludes : Concludes segments start plan.history old new (drop (LANES * BACKUPS) before) after status

-- memory was wanting before the end: nothing was written
pub record IsCutShort (old new : Option (List ℕ)) (status : Status) : Type 0 where
  pub is : status ≡ statuses.NoMemory
  pub written : new ≡ old

-- what a drive comes to if replicas report that nothing was written before it
abbrev pub Drives : {R : Type 0} → (R → Option Segments) → Plan → Option (List ℕ) → Option (List ℕ) → List R → List R → Status → Type 0
Drives segments plan old new before after status =
    AreEmpty segments before → IsCutShort old new status ⊎ IsConcluded segments plan old new before after status

-- a drive is done: no call is outstanding, the receipts are those of the workload, and the lanes have one history with them, with the
-- answer of each of these calls once and nothing else; nothing is left to do, and the stored logs have the records of that history
pub record IsDone (plan : Plan) (cluster : Cluster) : Type 0 where
  pub answered : EachIn (λ client session. session.outstanding ≡ None) cluster.sessions
  pub calls : map (λ receipt. receipt.call) (receipts_in cluster.sessions) ≡ workload plan.clients plan.calls plan.keys
  pub history : HasOneHistory cluster
  pub just : HasJustTheAnswers (journals_of cluster) (receipts_in cluster.sessions)
  pub once : AreOfDistinctCalls (receipts_in cluster.sessions)
  pub quiet : IsQuietCluster cluster
  pub stored : (lane : ℕ) → lane < length cluster.lanes → HistoryIsStored cluster lane (lane_at cluster lane)

-- the cluster of a drive that is done, of which the text was written, and whose replicas came back
pub record EndsDone {R : Type 0} (segments : R → Option Segments) (plan : Plan) (old new : Option (List ℕ)) (before after : List R) : Type 0 where
  pub cluster : Cluster
  pub done : IsDone plan cluster
  pub text : Appends old new (drive_text plan.history cluster None)
  pub state : ClusterState R
  pub stands : IsOf segments state cluster
  pub back : AreGivenBack state.lanes (drop (LANES * BACKUPS) before) after
