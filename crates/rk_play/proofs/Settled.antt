-- What settling commands have come to.
use Rattle.rk_play.proofs.Words.{arith, ◌≡◌, ℕ, ◌++◌, List, [], Option, None, Some, sym, subst, Segments, Said, Cluster, Fate, ClusterState}
use Rattle.rk_play.proofs.Words.{IsOf, Tells, Code, said_lines, course_of, moved_all, SettleError, Came, IsCome, Ran, Stopped, Effect, Stop}
use Rattle.rk_play.proofs.Words.{settled, error_by_settling}
use Rattle.rk_settle.specs.Commanded.{SettlingCommand}
use Rattle.rk_settle.specs.Course.{Course}
use Rattle.rk_settle.specs.Outcomes.{Ends, Fails, IsOver, IsStopped, StopsBefore}
use Rattle.rk_settle.specs.declared.error.SettleError.TheVariants as errors
use Rattle.rk_play.specs.Effects.{settled_by, stop_of}

-- ---- a course

module _ {R : Type 0} (segments : R → Option Segments) (start : Cluster) (state : ClusterState R) where
  -- that is over has written what was said
  over : (told : List Said) (course : Course) → IsOver segments start state [] told course → IsCome segments state (said_lines told) None (settled_by course course.tasks)
  over told course is = grind (arith, said_lines)

  -- that stops where it is ends the run
  halted : (told : List Said) (error : SettleError) (course : Course) → IsStopped segments start state [] told error course
      → IsCome segments state [] (Some (stop_of (Some error))) (settled_by course course.tasks)
  halted told error course is = grind arith

-- ---- a command

module _ {R : Type 0} (segments : R → Option Segments) (faults : R → ℕ) (old new : ClusterState R) (code : Cluster → Option Code) (command : SettlingCommand)
    (none : Tells segments old code None) where
  -- what it makes of a cluster
  abbrev pub made : Cluster → List Fate → Effect
  made cluster fates = settled cluster (code cluster) (moved_all (course_of cluster (command cluster)) fates)

  come : (cluster : Cluster) (fates : List Fate) (text : List ℕ) (stop : Option Stop) → IsOf segments old cluster
      → IsCome segments new text stop (settled cluster None (moved_all (course_of cluster (command cluster)) fates))
      → IsCome segments new text stop (made cluster fates)
  come cluster fates text stop is comes =
      subst (λ (it : Option Code). IsCome segments new text stop (settled cluster it (moved_all (course_of cluster (command cluster)) fates))) (sym (none cluster is)) comes

  -- it came to its end, and what was said is added; nothing had been said before
  pub settled_ran : (had told : List Said) (was now : List ℕ) → had ≡ [] → Ends segments faults old new command had told → now ≡ was ++ said_lines told
      → Ran segments faults old new made was now
  settled_ran had told was now fresh it added = grind (arith, said_lines, come, over, moved_all, course_of)

  before : (told : List Said) (error : SettleError) → StopsBefore segments faults old new command [] told error → Came segments faults old new made [] (Some (stop_of (Some error)))
  before told error stops = grind (arith, come, halted, moved_all, course_of)

  -- it stopped before its end
  stopped : (told : List Said) (error : SettleError) → Fails segments faults old new command [] told error → Stopped segments faults old new made (error_by_settling error)
  stopped told error fails = grind (arith, before)

  pub settled_stopped : (had told : List Said) (error : SettleError) → had ≡ [] → Fails segments faults old new command had told error
      → Stopped segments faults old new made (error_by_settling error)
  settled_stopped had told error fresh fails = stopped told error (subst (λ (list : List Said). Fails segments faults old new command list told error) fresh fails)
