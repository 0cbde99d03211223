-- The course of a command when an adversary picks the replicas that fail; when `settle` has ended, and when another command has.
use Rattle.std.specs.Prelude.{◌≡◌, ◌≤◌, ◌⊎◌, ℕ, zero, suc, true, List, [], Option, None, Some, is_some}
use Rattle.rk_log.specs.declared.copied.TheConstants.{MOST_BACKUPS}
use Rattle.rk_world.specs.Cluster.{Cluster, Occurrence, cluster_run, new_cluster}
use Rattle.rk_world.specs.ClusterRuns.{IsRun}
use Rattle.rk_world.specs.Premises.{MOST_MASTERS}
use Rattle.rk_cluster.specs.Replicas.{Fate, Kept}
use Rattle.rk_cluster.specs.declared.code.Code.{Code}
use Rattle.rk_settle.specs.Commanded.{SettlingCommand}
use Rattle.rk_settle.specs.Course.{Course, course_of, error_of, moved}
use Rattle.rk_settle.specs.Rest.{is_at_rest}
use Rattle.rk_settle.specs.Settle.{settle}
use Rattle.rk_settle.specs.declared.error.SettleError.TheVariants as errors
use Rattle.rk_runs.specs.duties.Added.{AreAdded}

-- what becomes of the call of a replica at the next move, if the move makes one: a course records all that has occurred
abbrev pub Adversary : Type 0
Adversary = Course → Fate

-- the course after so many moves
abbrev pub after_moves : Adversary → ℕ → Course → Course
after_moves adversary zero course = course
after_moves adversary (suc moves) course = after_moves adversary moves (moved course (adversary course))

-- the course of `settle` in a cluster, at its beginning
abbrev pub settling : Cluster → Course
settling cluster = course_of cluster (settle cluster)

-- no task is left, and the cluster is at rest
abbrev pub HasSettled : Course → Type 0
HasSettled course = (course.tasks ≡ []) × (is_at_rest course.cluster ≡ true)

-- the command stops where it is: a lane is worn, or replicas have failed in too many rounds
abbrev pub Stops : Course → Type 0
Stops course = is_some (error_of course) ≡ true

-- after so many moves the cluster has settled, or the command stops
pub record Ends (adversary : Adversary) (course : Course) : Type 0 where
  pub moves : ℕ
  pub over : HasSettled (after_moves adversary moves course) ⊎ Stops (after_moves adversary moves course)

-- the adversary that lets no replica fail
abbrev pub faultless : Adversary
faultless course = Kept

-- the command stops where it is, and not because replicas have failed: a lane is worn
pub record StopsWorn (course : Course) : Type 0 where
  pub stops : Stops course
  pub no_fault : (rounds : ℕ) → error_of course ≡ Some (errors.Replica rounds) → ⊥

-- if no replica fails, after so many moves the cluster has settled, or a lane is worn
pub record Rests (course : Course) : Type 0 where
  pub moves : ℕ
  pub over : HasSettled (after_moves faultless moves course) ⊎ StopsWorn (after_moves faultless moves course)

-- no task is left, or the command stops where it is
abbrev pub IsOver : Course → Type 0
IsOver course = (course.tasks ≡ []) ⊎ Stops course

-- after so many moves a course is over
pub record Finishes (adversary : Adversary) (course : Course) : Type 0 where
  pub moves : ℕ
  pub over : IsOver (after_moves adversary moves course)

-- a command ends in a cluster, unless it is refused there by a code
abbrev pub FinishesIn : Adversary → (Cluster → Option Code) → SettlingCommand → Cluster → Type 0
FinishesIn adversary code command cluster =
    code cluster ≡ None → Finishes adversary (course_of cluster (command cluster))

-- a command ends if it is not refused by a code, whatever an adversary does. It begins in a cluster to which a run of a new one has led,
-- and in which each client that has a session was added in each lane
abbrev pub EndsUnlessRefused : (Cluster → Option Code) → SettlingCommand → Type 0
EndsUnlessRefused code command =
    (masters backups : ℕ) (before : List Occurrence) (adversary : Adversary)
    → masters ≤ MOST_MASTERS → 1 ≤ backups → backups ≤ MOST_BACKUPS → IsRun (new_cluster masters backups) before
    → let cluster = cluster_run (new_cluster masters backups) before in
    AreAdded cluster → FinishesIn adversary code command cluster

-- a command ends, also if it would be refused
abbrev pub AlwaysEnds : SettlingCommand → Type 0
AlwaysEnds command = EndsUnlessRefused (λ cluster. None) command
