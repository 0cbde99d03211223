-- The cluster of a settling command is what has occurred in its course made of the one at its start.
use Rattle.std.proofs.Common.{◌≡◌, List, [], ◌∷◌, sym, ap, ◌∙◌}
use Rattle.rk_scripts.proofs.Words.{Cluster, cluster_run, runs_join, Fate, Course, moved, moved_all, move_is}

-- the cluster of a course is what has occurred made of the one at its start
abbrev pub IsCourseFrom : Cluster → Course → Type 0
IsCourseFrom start course = course.cluster ≡ cluster_run start course.occurred

-- it stays so at a move
pub moved_from : (start : Cluster) (course : Course) (fate : Fate) → IsCourseFrom start course → IsCourseFrom start (moved course fate)
moved_from start course fate from =
    let move = move_is 0 course fate in
    move.cluster_is ∙ ap (λ (cluster : Cluster). cluster_run cluster move.occurrences) from
    ∙ sym (runs_join start course.occurred move.occurrences) ∙ ap (cluster_run start) (sym move.occurred)

-- and at all of them
pub all_moved_from : (start : Cluster) (course : Course) (fates : List Fate) → IsCourseFrom start course → IsCourseFrom start (moved_all course fates)
all_moved_from start course [] from = from
all_moved_from start course (fate ∷ fates) from = all_moved_from start (moved course fate) fates (moved_from start course fate from)
