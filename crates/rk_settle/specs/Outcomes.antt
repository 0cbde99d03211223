-- What a settling command in code makes of a cluster, and of what clients said: `had` is what they had said before it, and `has` what they
-- have said since as well.
use Rattle.std.specs.Prelude.{◌≡◌, ◌++◌, ℕ, [], List, Option, Some}
use Rattle.rk_types.specs.declared.node.Said.{Said}
use Rattle.rk_outside.specs.Segments.{Segments}
use Rattle.rk_world.specs.Cluster.{Cluster}
use Rattle.rk_cluster.specs.Effects.{RunsTo}
use Rattle.rk_cluster.specs.Faults.{CountsGoOn}
use Rattle.rk_cluster.specs.Replicas.{Fate}
use Rattle.rk_cluster.specs.State.{ClusterState, IsOf}
use Rattle.rk_settle.specs.Course.{Course, course_of, error_of, moved_all}
use Rattle.rk_settle.specs.declared.error.SettleError.{SettleError}
use Rattle.rk_settle.specs.declared.error.SettleError.TheVariants as errors
use Rattle.rk_settle.specs.declared.task.Task.{Task}

-- what clients had said is still there, and what they said since follows it
abbrev pub Keeps : List Said → List Said → Type 0
Keeps had has = (since : List Said) × (has ≡ had ++ since)

-- the course of a command, which began in a cluster, after some moves: the cluster in code stands for its cluster, to which what occurred
-- leads, no task is left, and clients said this
pub record IsOver {R : Type 0} (segments : R → Option Segments) (start : Cluster) (state : ClusterState R) (had has : List Said) (course : Course) : Type 0 where
  pub cluster : IsOf segments state course.cluster
  pub leads : RunsTo start course.occurred course.cluster
  pub left : course.tasks ≡ []
  pub said : had ++ course.said ≡ has

-- a command came to its end: by the fates of the calls of replicas its course is over after as many moves; for each call that failed the
-- count of its replica rose
pub record Ends {R : Type 0} (segments : R → Option Segments) (faults : R → ℕ) (old new : ClusterState R) (command : Cluster → List Task) (had has : List Said) : Type 0 where
  pub fates : List Fate
  pub counts : CountsGoOn faults fates old new
  pub over : (cluster : Cluster) → IsOf segments old cluster → IsOver segments cluster new had has (moved_all (course_of cluster (command cluster)) fates)

-- the course of a command, which began in a cluster, stops after some moves, for this reason, and clients said this before it stopped
pub record IsStopped {R : Type 0} (segments : R → Option Segments) (start : Cluster) (state : ClusterState R) (had has : List Said) (error : SettleError) (course : Course) : Type 0 where
  pub cluster : IsOf segments state course.cluster
  pub leads : RunsTo start course.occurred course.cluster
  pub said : had ++ course.said ≡ has
  pub stops : error_of course ≡ Some error

-- a command stopped before its end, by the fates of the calls of replicas
pub record StopsBefore {R : Type 0} (segments : R → Option Segments) (faults : R → ℕ) (old new : ClusterState R) (command : Cluster → List Task) (had has : List Said) (error : SettleError) : Type 0 where
  pub fates : List Fate
  pub counts : CountsGoOn faults fates old new
  pub stopped : (cluster : Cluster) → IsOf segments old cluster → IsStopped segments cluster new had has error (moved_all (course_of cluster (command cluster)) fates)

-- clients said what is said in the course of a command up to some move, by the fates of the calls of replicas
pub record SaidSoFar {R : Type 0} (segments : R → Option Segments) (faults : R → ℕ) (old new : ClusterState R) (command : Cluster → List Task) (had has : List Said) : Type 0 where
  pub fates : List Fate
  pub counts : CountsGoOn faults fates old new
  pub said : (cluster : Cluster) → IsOf segments old cluster → had ++ (moved_all (course_of cluster (command cluster)) fates).said ≡ has

-- so if a lane is worn or replicas failed; if memory was wanting, or it made more moves than are counted, only what clients said is known
abbrev pub Fails : {R : Type 0} → (R → Option Segments) → (R → ℕ) → ClusterState R → ClusterState R → (Cluster → List Task) → List Said → List Said → SettleError → Type 0
Fails segments faults old new command had has errors.NoMemory = SaidSoFar segments faults old new command had has
Fails segments faults old new command had has errors.TooLong = SaidSoFar segments faults old new command had has
Fails segments faults old new command had has error = StopsBefore segments faults old new command had has error
