-- Courses that go on until something holds, or until they are done.
use Rattle.std.proofs.Common.{arith, ◌≡◌, ℕ, zero, suc, Bool, List, [], ◌∷◌, Option, None, Some, is_some, refl, sym, ap, subst, ◌∙◌, inl}
use Rattle.std.proofs.Common.{inr, ⊎_elim, ◌⊎◌}
use Rattle.rk_scripts.proofs.Words.{none-some, Cluster, Occurrence, acted, going_on, Course, moved_by, occurrence_error, occurring}
use Rattle.rk_scripts.proofs.Words.{occurring_by, SettleError, AreAdded, Stops, after_moves}
use Rattle.rk_settle.specs.Course.{error_by}
use Rattle.rk_scripts.proofs.settle.Following.{Follows, follows_itself, follows_on}
use Rattle.rk_scripts.proofs.settle.Setting.{IsSane, Setting, next_follows, next_of, sane_next}
use Rattle.rk_scripts.proofs.settle.Tasks.{Task}

-- a course is done: no task is left, or the command stops where it is
abbrev pub IsDone : Course → Type 0
IsDone course = (course.tasks ≡ []) ⊎ Stops course

-- a course has come to this cluster, and these tasks are left
pub record IsAt (cluster : Cluster) (left : List Task) (course : Course) : Type 0 where
  pub cluster_is : course.cluster ≡ cluster
  pub tasks_are : course.tasks ≡ left

module _ (s : Setting) where
  -- a course that is sane, and follows on a cluster
  pub record Comes (before : Cluster) (course : Course) : Type 0 where
    pub sane : IsSane s course
    pub follows : Follows before course.cluster

  pub comes_here : (course : Course) → IsSane s course → Comes course.cluster course
  comes_here course sane = record { sane = sane; follows = follows_itself course.cluster }

  -- after so many moves a course is done, or it is sane, follows on a cluster, and this holds of it
  pub record Goes (before : Cluster) (course : Course) (P : Course → Type 0) : Type 0 where
    pub moves : ℕ
    pub is : IsDone (after_moves s.adversary moves course) ⊎ (Comes before (after_moves s.adversary moves course) × P (after_moves s.adversary moves course))

  -- it holds already
  pub goes_here : (before : Cluster) (course : Course) (P : Course → Type 0) → Comes before course → P course → Goes before course P
  goes_here before course P comes holds = record { moves = 0; is = inr (comes, holds) }

  -- the course is done already
  pub goes_done : (before : Cluster) (course : Course) (P : Course → Type 0) → IsDone course → Goes before course P
  goes_done before course P done = record { moves = 0; is = inl done }

  -- it goes there from the next course on
  goes_next : (before : Cluster) (course : Course) (P : Course → Type 0) → Goes before (next_of s course) P → Goes before course P
  goes_next before course P later = record { moves = suc later.moves; is = later.is }

  -- from where this holds the course goes on to where that does
  pub goes_on : (before : Cluster) (course : Course) (P Q : Course → Type 0) → Goes before course P
      → ((later : Course) → Comes before later → P later → Goes before later Q) → Goes before course Q
  goes_on before course P Q goes next = go goes.moves course goes.is
    where
      go : (moves : ℕ) (course : Course) → IsDone (after_moves s.adversary moves course) ⊎ (Comes before (after_moves s.adversary moves course) × P (after_moves s.adversary moves course))
          → Goes before course Q
      go zero course is =
          ⊎_elim (λ (done : IsDone course). goes_done before course Q done) (λ (holds : Comes before course × P course). next course holds.0 holds.1) is
      go (suc moves) course is = goes_next before course Q (go moves (next_of s course) is)

  -- from where this holds the course goes on to where that does, and what came first follows on where it began
  pub goes_then : (before : Cluster) (course : Course) (P Q : Course → Type 0) → Comes before course → Goes course.cluster course P
      → ((later : Course) → Comes before later → Follows course.cluster later.cluster → P later → Goes before later Q) → Goes before course Q
  goes_then before course P Q comes goes next = go goes.moves course goes.is
    where
      go : (moves : ℕ) (now : Course) → IsDone (after_moves s.adversary moves now) ⊎ (Comes course.cluster (after_moves s.adversary moves now) × P (after_moves s.adversary moves now))
          → Goes before now Q
      go zero now is = ⊎_elim (λ (done : IsDone now). goes_done before now Q done)
          (λ (holds : Comes course.cluster now × P now).
          next now
          (record { sane = holds.0.sane; follows = follows_on before course.cluster now.cluster comes.follows holds.0.follows })
          holds.0.follows holds.1) is
      go (suc moves) now is = goes_next before now Q (go moves (next_of s now) is)

  -- ---- one move

  -- a course stops at its first task, or goes on with the next one
  pub one_move : (before : Cluster) (course : Course) (left : List Task) (P : Course → Type 0) → Comes before course → course.tasks ≡ left
      → (error_by course left ≡ None → AreAdded (moved_by course (s.adversary course) left).cluster × P (moved_by course (s.adversary course) left))
      → Goes before course P
  one_move before course left P comes are moves = go (error_by course left) refl
    where
      go : (error : Option SettleError) → error_by course left ≡ error → Goes before course P
      go (Some error) is = goes_done before course P (inr (ap is_some (ap (error_by course) are ∙ is)))
      go None is =
          let same : moved_by course (s.adversary course) left ≡ next_of s course = ap (moved_by course (s.adversary course)) (sym are) in
          let now : AreAdded (next_of s course).cluster × P (next_of s course) =
          subst (λ (next : Course). AreAdded next.cluster × P next) same (moves is) in
          goes_next before course P
          (goes_here before (next_of s course) P
          (record {
            sane = sane_next s course comes.sane now.0;
            follows = follows_on before course.cluster (next_of s course).cluster comes.follows (next_follows s course comes.sane);
          })
          now.1)

  -- a move that leaves the cluster as it is
  pub still_move : (before : Cluster) (course : Course) (task : Task) (rest later : List Task) (P : Course → Type 0) → Comes before course → course.tasks ≡ task ∷ rest
      → IsAt course.cluster later (moved_by course (s.adversary course) (task ∷ rest))
      → ((next : Course) → IsAt course.cluster later next → P next) → Goes before course P
  still_move before course task rest later P comes are moves holds = grind (arith, one_move, moved_by)

  -- one thing occurs, unless its lane is worn
  pub occurs_move : (before : Cluster) (course : Course) (task : Task) (rest : List Task) (occurrence : Occurrence) (failed : Bool) (P : Course → Type 0) → Comes before course
      → course.tasks ≡ task ∷ rest
      → moved_by course (s.adversary course) (task ∷ rest) ≡ occurring course (occurrence ∷ []) failed rest
      → (error_by course (task ∷ rest) ≡ None → (acted course.cluster occurrence).worn ≡ None)
      → AreAdded (acted course.cluster occurrence).cluster
      → ((next : Course) → IsAt (acted course.cluster occurrence).cluster rest next → (acted course.cluster occurrence).worn ≡ None → P next)
      → Goes before course P
  occurs_move before course task rest occurrence failed P comes are moves tells added holds =
      grind (arith, one_move, acted, occurring, occurring_by, going_on, none-some)

-- if the list of one occurrence finds no lane worn, the occurrence does not either
pub alone_fresh : (cluster : Cluster) (occurrence : Occurrence) → occurrence_error cluster (occurrence ∷ []) ≡ None → (acted cluster occurrence).worn ≡ None
alone_fresh cluster occurrence none = grind (arith, acted, going_on)
