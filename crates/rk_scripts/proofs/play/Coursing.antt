-- What occurs in the course of a settling command goes on with a run.
use Rattle.std.proofs.Common.{arith, ℕ, List, [], ◌∷◌, sym, subst}
use Rattle.rk_scripts.proofs.Words.{Cluster, IsRun, run_on, Fate, move_is, Course, moved, moved_all, AreTasks}
use Rattle.rk_scripts.proofs.play.Allowed.{allowed_on}
use Rattle.rk_scripts.proofs.play.Masters.{names_masters}
use Rattle.rk_scripts.proofs.play.Moving.{IsCourseFrom, moved_from}
use Rattle.rk_scripts.proofs.play.Reaching.{IsReached, reached_after}

module _ (masters backups : ℕ) (start : Cluster) (reached : IsReached masters backups start) where
  -- what has occurred in a course is a run, and the tasks that are left name what is there
  pub record IsCoursing (course : Course) : Type 0 where
    pub from : IsCourseFrom start course
    pub run : IsRun start course.occurred
    pub are : AreTasks masters course.tasks

  -- it stays so at a move
  moved_on : (course : Course) (fate : Fate) → IsCoursing course → IsCoursing (moved course fate)
  moved_on course fate is =
      let move = move_is masters course fate in
      let there : IsReached masters backups course.cluster =
      subst (IsReached masters backups) (sym is.from) (reached_after masters backups start reached course.occurred is.run) in
      let lawful = move.lawful is.are (names_masters masters backups course.cluster there) in
      let on : IsRun course.cluster move.occurrences =
      allowed_on masters backups course.cluster move.occurrences lawful.0 (move.told is.are) there in
      record {
        from = moved_from start course fate is.from;
        run = grind (arith, run_on, move.occurred, course.occurred, move.occurrences, is.run, is.from);
        are = lawful.1;
      }

  -- and at all of them
  pub all_moved_on : (course : Course) (fates : List Fate) → IsCoursing course → IsCoursing (moved_all course fates)
  all_moved_on course [] is = is
  all_moved_on course (fate ∷ fates) is = all_moved_on (moved course fate) fates (moved_on course fate is)
