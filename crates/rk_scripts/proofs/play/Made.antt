-- The cluster after a command is what occurred at it made of the one before.
use Rattle.std.proofs.Common.{arith, ◌≡◌, ℕ, List, [], Option, None, Some, refl}
use Rattle.rk_scripts.proofs.Words.{Cluster, Occurrence, cluster_run, all_acted, Code, Fate, Course, course_of, moved_all, Command, Effect}
use Rattle.rk_scripts.proofs.Words.{carried, effect_within, settled, shown}
use Rattle.rk_settle.proofs.Occurred.{acted_all_is}
use Rattle.rk_scripts.proofs.play.Moving.{IsCourseFrom, all_moved_from}
use Rattle.rk_scripts.proofs.play.Kinds.{command_by}

-- the cluster after a command is what occurred made of the one before
abbrev pub IsEffectFrom : Cluster → Effect → Type 0
IsEffectFrom start it = it.cluster ≡ cluster_run start it.occurred

module _ (cluster : Cluster) where
  -- a command that makes events
  carried_from : (code : Option Code) (occurrences : List Occurrence) → IsEffectFrom cluster (carried cluster code occurrences)
  carried_from code occurrences = grind (arith, all_acted, acted_all_is)

  -- a command that settles, with a course that begins here
  settled_from : (code : Option Code) (course : Course) (fates : List Fate) → IsCourseFrom cluster course → IsEffectFrom cluster (settled cluster code (moved_all course fates))
  settled_from code course fates from = grind (arith, moved_all, all_moved_from)

  -- a command that shows something
  shown_from : (code : Option Code) (text : List ℕ) → IsEffectFrom cluster (shown cluster code text)
  shown_from (Some code) text = refl
  shown_from None text = refl

  -- each command, also if the cluster is full
  pub within_from : (command : Command) (fates : List Fate) → IsEffectFrom cluster (effect_within cluster command fates)
  within_from command fates = command_by cluster fates (IsEffectFrom cluster) (λ code. refl) carried_from
      (λ code tasks. settled_from code (course_of cluster tasks) fates refl) shown_from command
