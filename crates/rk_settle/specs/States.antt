-- What the course of a command in code stands for, and how it goes on.
use Rattle.std.specs.Prelude.{◌≡◌, ℕ, List, [], ◌∷◌, ◌++◌, length, Option, ⊤}
use Rattle.rk_types.specs.declared.hashing.TheConstants.{LANES}
use Rattle.rk_types.specs.declared.node.Said.{Said}
use Rattle.rk_outside.specs.Segments.{Segments}
use Rattle.rk_world.specs.Cluster.{Cluster, lane_at}
use Rattle.rk_lane.specs.LaneState.{LaneState}
use Rattle.rk_cluster.specs.Effects.{RunsTo}
use Rattle.rk_cluster.specs.Faults.{CountsGoOn}
use Rattle.rk_cluster.specs.Replicas.{Fate}
use Rattle.rk_cluster.specs.State.{ClusterState, IsOf, IsWorld}
use Rattle.rk_settle.specs.Course.{Course, moved, moved_all}
use Rattle.rk_settle.specs.Outcomes.{IsStopped, Keeps}
use Rattle.rk_settle.specs.declared.course.Progress.{Progress}
use Rattle.rk_settle.specs.declared.error.SettleError.{SettleError}
use Rattle.rk_settle.specs.declared.error.SettleError.TheVariants as errors
use Rattle.rk_settle.specs.declared.task.Task.{Task}

-- a command in code that began in a cluster after clients had said this, with these tasks left, stands for a course of the definitions: all
-- but what occurred, which the code does not keep, is the same, and what occurred leads there
pub record IsCourse {R : Type 0} (segments : R → Option Segments) (start : Cluster) (had : List Said) (state : ClusterState R) (left : List Task) (progress : Progress) (course : Course) : Type 0 where
  pub cluster : IsOf segments state course.cluster
  pub leads : RunsTo start course.occurred course.cluster
  pub tasks : course.tasks ≡ left
  pub said : had ++ course.said ≡ progress.said.items
  pub faults : course.faults ≡ progress.faults
  pub failing : course.failing ≡ progress.failing

-- a move was made, by the fate of the call of a replica, if one was called; if that failed, the replica's count rose
pub record Moves {R : Type 0} (segments : R → Option Segments) (faults : R → ℕ) (old new : ClusterState R) (before after : List Task) (was is : Progress) : Type 0 where
  pub fate : Fate
  pub counts : CountsGoOn faults (fate ∷ []) old new
  pub kept : Keeps was.said.items is.said.items
  pub moves : (start : Cluster) (had : List Said) (course : Course) → IsCourse segments start had old before was course
      → IsCourse segments start had new after is (moved course fate)

-- some moves were made
pub record MovesAll {R : Type 0} (segments : R → Option Segments) (faults : R → ℕ) (old new : ClusterState R) (before after : List Task) (was is : Progress) : Type 0 where
  pub fates : List Fate
  pub counts : CountsGoOn faults fates old new
  pub kept : Keeps was.said.items is.said.items
  pub moves : (start : Cluster) (had : List Said) (course : Course) → IsCourse segments start had old before was course
      → IsCourse segments start had new after is (moved_all course fates)

-- a command stops where it is, for this reason; nothing is said if memory was wanting
abbrev pub Stops : {R : Type 0} → (R → Option Segments) → ClusterState R → ClusterState R → List Task → Progress → SettleError → Type 0
Stops segments old new left progress errors.NoMemory = ⊤
Stops segments old new left progress error =
    (start : Cluster) (had : List Said) (course : Course) → IsCourse segments start had old left progress course
    → IsStopped segments start new had progress.said.items error course

-- some moves were made, and then a command stops where it is, for this reason; clients have said this
pub record StopsLater {R : Type 0} (segments : R → Option Segments) (faults : R → ℕ) (old new : ClusterState R) (before : List Task) (was : Progress) (has : List Said) (error : SettleError) : Type 0 where
  pub now : ClusterState R
  pub left : List Task
  pub is : Progress
  pub moves : MovesAll segments faults old now before left was is
  pub said : has ≡ is.said.items
  pub counts : CountsGoOn faults [] now new
  pub stops : Stops segments now new left is error

-- in each cluster that a cluster in code stands for, this is seen
abbrev pub ClusterTells : {R T : Type 0} → (R → Option Segments) → ClusterState R → (Cluster → T) → T → Type 0
ClusterTells segments state look seen = (cluster : Cluster) → IsOf segments state cluster → look cluster ≡ seen

-- so it is seen if that cluster has eight lanes
abbrev pub EightTell : {R T : Type 0} → (R → Option Segments) → ClusterState R → (Cluster → T) → T → Type 0
EightTell segments state look seen =
    (cluster : Cluster) → IsOf segments state cluster → length cluster.lanes ≡ LANES → look cluster ≡ seen

-- a lane of a cluster in code stands for that lane of each cluster that this one stands for
abbrev pub IsLaneOf : {R : Type 0} → (R → Option Segments) → ClusterState R → ℕ → LaneState R → Type 0
IsLaneOf segments state number lane = (cluster : Cluster) → IsOf segments state cluster → IsWorld segments lane (lane_at cluster number)
