-- A scene for worked examples: a cluster with one tablet and a client, whose replicas never fail, and the course
-- of a command there.
use Rattle.std.specs.Prelude.{length, replicate, ℕ, List, [], ◌∷◌, map}
use Rattle.rk_types.specs.declared.call.Op.TheVariants.{Put}
use Rattle.rk_transfer.specs.declared.role.Role.{Role}
use Rattle.rk_settle.proofs.Words.{Phase, Calls, Cluster, Kept, Course, course_of, moved_all, Task}
use Rattle.rk_world.specs.Cluster.{cluster_after, cluster_run, new_cluster}
use Rattle.rk_world.specs.World.{tablet_in}
use Rattle.rk_cluster.specs.Makes.{client_makes, migrate_makes, table_makes}

-- the course of these tasks after so many moves
abbrev pub course_after : ℕ → Cluster → List Task → Course
course_after moves cluster tasks = moved_all (course_of cluster tasks) (replicate moves Kept)

-- a key of lane 4, and a value
abbrev pub a : List ℕ
a = 97 ∷ []

abbrev pub x : List ℕ
x = 120 ∷ []

-- tablet 1 of table 1 is at master 1
abbrev pub with_table : Cluster → Cluster
with_table cluster = cluster_run cluster (table_makes cluster 1 1)

-- client 1 has a session
abbrev pub with_client_one : Cluster → Cluster
with_client_one cluster = cluster_run cluster (client_makes cluster 1)

-- two masters and two backups, tablet 1, and client 1
abbrev pub start : Cluster
start = with_client_one (with_table (new_cluster 2 2))

-- client 1 asks that a hold x
abbrev pub calling : Cluster
calling = cluster_after start (Calls 1 1 a (Put x))

-- tablet 1 is to move to master 2
abbrev pub migrating : Cluster
migrating = cluster_run start (migrate_makes start 1 2)

-- what is to be seen of a migration to master 2
pub record Shown : Type 0 where
  pub left : ℕ
  pub occurrences : ℕ
  pub phases : List (List Phase)
  pub targets : List Role

-- how many tasks are left, how many occurrences there were, and in each lane the phases of rows and the role of the target
abbrev pub shown_of : Course → Shown
shown_of course = record {
  left = length course.tasks;
  occurrences = length course.occurred;
  phases = map (λ w. map (λ row. row.phase) w.coordinator.rows) course.cluster.lanes;
  targets = map (λ w. (tablet_in w 2 1).handover.role) course.cluster.lanes;
}
