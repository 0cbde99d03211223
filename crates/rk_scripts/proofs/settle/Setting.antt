-- Courses that go on with a run of a new cluster: what holds of them at each move.
use Rattle.std.proofs.Common.{◌≡◌, ℕ, [], ◌∷◌, length, sym, subst}
use Rattle.rk_scripts.proofs.Words.{LANES, Cluster, move_is, Course, moved, AreAdded, Adversary}
use Rattle.rk_scripts.proofs.play.Coursing.{IsCoursing, all_moved_on}
use Rattle.rk_scripts.proofs.play.Masters.{names_masters}
use Rattle.rk_scripts.proofs.play.Reaching.{IsReached, reached_after, reached_eight}
use Rattle.rk_scripts.proofs.settle.Following.{Follows, run_follows}

-- what a command begins with: a cluster to which a run of a new one has led, and an adversary by which replicas fail
pub record Setting : Type 0 where
  pub adversary : Adversary
  pub masters : ℕ
  pub backups : ℕ
  pub start : Cluster
  pub reached : IsReached masters backups start

module _ (s : Setting) where
  -- a course that goes on with a run, in whose cluster each client with a session was added in each lane
  pub record IsSane (course : Course) : Type 0 where
    pub coursing : IsCoursing s.masters s.backups s.start s.reached course
    pub added : AreAdded course.cluster

  -- the next course
  abbrev pub next_of : Course → Course
  next_of course = moved course (s.adversary course)

  module _ (course : Course) (sane : IsSane course) where
    -- a run of a new cluster has led to its cluster
    pub here : IsReached s.masters s.backups course.cluster
    here = subst (IsReached s.masters s.backups) (sym sane.coursing.from)
        (reached_after s.masters s.backups s.start s.reached course.occurred sane.coursing.run)

    -- it has eight lanes
    pub eight : length course.cluster.lanes ≡ LANES
    eight = reached_eight s.masters s.backups course.cluster here

    -- it stays so at a move at which each client with a session stays added
    pub sane_next : AreAdded (next_of course).cluster → IsSane (next_of course)
    sane_next added = record {
      coursing = all_moved_on s.masters s.backups s.start s.reached course (s.adversary course ∷ []) sane.coursing;
      added = added;
    }

    -- and the next cluster follows on it
    pub next_follows : Follows course.cluster (next_of course).cluster
    next_follows =
        let move = move_is s.masters course (s.adversary course) in
        let lawful = move.lawful sane.coursing.are (names_masters s.masters s.backups course.cluster here) in
        subst (Follows course.cluster) (sym move.cluster_is) (run_follows s.masters course.cluster move.occurrences eight lawful.0)
