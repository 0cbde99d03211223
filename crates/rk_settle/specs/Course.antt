-- The course of a settling command: its tasks are done move by move. A move makes one occurrence, or unfolds a task. The course stands
-- still once no task is left, and when the command stops: a lane is worn, or replicas have failed in too many rounds.
use Rattle.std.specs.Prelude.{ℕ, ◌+◌, ◌||◌, Bool, true, false, nat_le, if◌then◌else◌, fold, List, [], ◌∷◌, ◌++◌, Option, Some, None}
use Rattle.rk_types.specs.declared.node.Said.{Said}
use Rattle.rk_world.specs.Cluster.{Cluster, Occurrence}
use Rattle.rk_cluster.specs.Acted.{Acted, all_acted}
use Rattle.rk_cluster.specs.Delivering.{is_lost_at_backup}
use Rattle.rk_cluster.specs.Looks.{is_client}
use Rattle.rk_cluster.specs.Makes.{deliver_in_makes}
use Rattle.rk_cluster.specs.Replicas.{Fate, Kept}
use Rattle.rk_settle.specs.Tasks.{occurrence_of}
use Rattle.rk_settle.specs.declared.task.Act.{Act}
use Rattle.rk_settle.specs.declared.task.Act.TheVariants as acts
use Rattle.rk_settle.specs.declared.task.Task.{Task}
use Rattle.rk_settle.specs.declared.task.Task.TheVariants as tasks
use Rattle.rk_settle.specs.Unfolding.{unfolded}
use Rattle.rk_settle.specs.declared.error.SettleError.{SettleError}
use Rattle.rk_settle.specs.declared.error.SettleError.TheVariants as errors

-- in so many rounds replicas may fail before a command stops
abbrev pub MOST_FAULTS : ℕ
MOST_FAULTS = 100

-- how far a command has come: the cluster now, the tasks that are left, what occurred and what clients said so far, in how many rounds
-- a replica failed, and whether one failed in the round that runs
pub record Course : Type 0 where
  pub cluster : Cluster
  pub tasks : List Task
  pub occurred : List Occurrence
  pub said : List Said
  pub faults : ℕ
  pub failing : Bool

-- a command at its beginning
abbrev pub course_of : Cluster → List Task → Course
course_of cluster tasks =
    record { cluster = cluster; tasks = tasks; occurred = []; said = []; faults = 0; failing = false }

-- other tasks are left
abbrev pub with_tasks : Course → List Task → Course
with_tasks course tasks = record course { tasks = tasks }

-- this came, whether a replica failed or not, and these tasks are left; if a lane is worn, all is left as it was
abbrev pub occurring_by : Course → Bool → List Task → Acted → Option ℕ → Course
occurring_by course failed rest it None = record {
  cluster = it.cluster;
  tasks = rest;
  occurred = course.occurred ++ it.came;
  said = course.said ++ it.said;
  faults = course.faults;
  failing = course.failing || failed;
}
occurring_by course failed rest it (Some number) = course

-- one thing occurs, or none, unless its lane is worn, and these tasks are left
abbrev pub occurring : Course → List Occurrence → Bool → List Task → Course
occurring course occurrences failed rest =
    let it = all_acted course.cluster occurrences in occurring_by course failed rest it it.worn

-- whether replicas have failed in as many rounds as they may
abbrev pub is_at_limit : Course → Bool
is_at_limit course = nat_le MOST_FAULTS course.faults

-- a round is over: it counts if a replica failed in it
abbrev pub round_over : Course → List Task → Course
round_over course rest =
    record course { tasks = rest; faults = course.faults + (if course.failing then 1 else 0); failing = false }

-- whether somebody acts: a client without a session takes no turn
abbrev pub has_actor : Cluster → Act → Bool
has_actor cluster (acts.Asks client) = is_client cluster client
has_actor cluster act = true

-- what occurs, if somebody acts
abbrev pub act_makes : Cluster → ℕ → Act → List Occurrence
act_makes cluster lane act = if has_actor cluster act then occurrence_of lane act ∷ [] else []

-- the first of these tasks makes its move
abbrev pub moved_by : Course → Fate → List Task → Course
moved_by course fate [] = course
moved_by course fate (tasks.Occurs lane act ∷ rest) = occurring course (act_makes course.cluster lane act) false rest
moved_by course fate (tasks.Delivers lane number ∷ rest) =
    occurring course (deliver_in_makes course.cluster lane number fate) (is_lost_at_backup course.cluster lane number fate) rest
moved_by course fate (tasks.Begins ∷ rest) = if is_at_limit course then course else with_tasks course rest
moved_by course fate (tasks.Ends ∷ rest) = round_over course rest
moved_by course fate (task ∷ rest) = with_tasks course (unfolded course.cluster task ++ rest)

-- a move; `fate` is what becomes of the call of a replica, if the move makes one
abbrev pub moved : Course → Fate → Course
moved course fate = moved_by course fate course.tasks

-- the course after moves, one for each fate
abbrev pub moved_all : Course → List Fate → Course
moved_all course fates = fold moved course fates

-- what is worn, if something is refused there
abbrev pub worn_error : Option ℕ → Option SettleError
worn_error None = None
worn_error (Some number) = Some (errors.Worn number)

-- why what is to occur, if it does, is refused
abbrev pub occurrence_error : Cluster → List Occurrence → Option SettleError
occurrence_error cluster occurrences = worn_error (all_acted cluster occurrences).worn

-- why a command stops at the first of these tasks
abbrev pub error_by : Course → List Task → Option SettleError
error_by course (tasks.Occurs lane act ∷ rest) = occurrence_error course.cluster (act_makes course.cluster lane act)
error_by course (tasks.Delivers lane number ∷ rest) =
    occurrence_error course.cluster (deliver_in_makes course.cluster lane number Kept)
error_by course (tasks.Begins ∷ rest) = if is_at_limit course then Some (errors.Replica course.faults) else None
error_by course left = None

-- why a command stops where it is, if it does
abbrev pub error_of : Course → Option SettleError
error_of course = error_by course course.tasks
