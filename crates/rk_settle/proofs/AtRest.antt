-- When `settle` ends, its cluster is at rest.
use Rattle.rk_settle.proofs.Words.{arith, ◌≡◌, Bool, true, false, List, [], ◌∷◌, ◌++◌, map, refl, sym, ◌∙◌, append_assoc, append-nil}
use Rattle.rk_settle.proofs.Words.{flat_map, Cluster, Occurrence, Acted, all_acted, is_lost_at_backup, deliver_in_makes, Fate, Course}
use Rattle.rk_settle.proofs.Words.{act_makes, course_of, is_at_limit, moved, moved_all, moved_by, occurring, occurring_by, round_over}
use Rattle.rk_settle.proofs.Words.{with_tasks, is_at_rest, lane_numbers, lane_tasks, settle, round_of, unfolded, Task}
use Rattle.std.proofs.Common.{inl, inr, ⊎_elim}
use Rattle.std.specs.Prelude.{ℕ, ◌⊎◌, Option, None, Some, if◌then◌else◌}
use Rattle.rk_settle.specs.declared.task.Task.TheVariants as tasks

-- the last of some tasks settles
record SettlesLast (left : List Task) : Type 0 where
  front : List Task
  is : left ≡ front ++ tasks.Settles ∷ []

-- the last task that is left of a course settles, or none is left and its cluster is at rest
abbrev IsSettling : Course → Type 0
IsSettling course = SettlesLast course.tasks ⊎ ((course.tasks ≡ []) × (is_at_rest course.cluster ≡ true))

-- so it is with a course that has these tasks left
settling : (course : Course) (front : List Task) → course.tasks ≡ front ++ tasks.Settles ∷ [] → IsSettling course
settling course front is = inl (record { front = front; is = is })

-- the last task makes another round, unless the cluster is at rest
last_by : (course : Course) (b : Bool) → is_at_rest course.cluster ≡ b
    → IsSettling (with_tasks course ((if b then [] else round_of (flat_map lane_tasks (lane_numbers course.cluster)) ++ tasks.Settles ∷ []) ++ []))
last_by course true is = inr (refl, is)
last_by course false is =
    let round : List Task = round_of (flat_map lane_tasks (lane_numbers course.cluster)) in
    settling (with_tasks course ((round ++ tasks.Settles ∷ []) ++ [])) round (append-nil (round ++ tasks.Settles ∷ []))

occurs_by : (course : Course) (failed : Bool) (front : List Task) (came : Acted) (worn : Option ℕ) → IsSettling course
    → IsSettling (occurring_by course failed (front ++ tasks.Settles ∷ []) came worn)
occurs_by course failed front came None is = grind (arith, settling, occurring_by)
occurs_by course failed front came (Some number) is = is

occurs : (course : Course) (occurrences : List Occurrence) (failed : Bool) (front : List Task) → IsSettling course
    → IsSettling (occurring course occurrences failed (front ++ tasks.Settles ∷ []))
occurs course occurrences failed front is =
    let came : Acted = all_acted course.cluster occurrences in occurs_by course failed front came came.worn is

begins_by : (course : Course) (front : List Task) (b : Bool) → IsSettling course
    → IsSettling (if b then course else with_tasks course (front ++ tasks.Settles ∷ []))
begins_by course front true is = is
begins_by course front false is = settling (with_tasks course (front ++ tasks.Settles ∷ [])) front refl

-- a move
by_tasks : (course : Course) (fate : Fate) (front : List Task) → IsSettling course → IsSettling (moved_by course fate (front ++ tasks.Settles ∷ []))
by_tasks course fate [] is = last_by course (is_at_rest course.cluster) refl
by_tasks course fate (tasks.Occurs lane act ∷ front) is = occurs course (act_makes course.cluster lane act) false front is
by_tasks course fate (tasks.Delivers lane number ∷ front) is = grind (arith, occurs, deliver_in_makes, is_lost_at_backup, course.cluster)
by_tasks course fate (tasks.Begins ∷ front) is = begins_by course front (is_at_limit course) is
by_tasks course fate (tasks.Ends ∷ front) is = settling (round_over course (front ++ tasks.Settles ∷ [])) front refl
by_tasks course fate (task ∷ front) is =
    settling (moved_by course fate (task ∷ front ++ tasks.Settles ∷ [])) (unfolded course.cluster task ++ front)
    (sym (append_assoc (unfolded course.cluster task) front (tasks.Settles ∷ [])))

moves : (course : Course) (fate : Fate) → IsSettling course → IsSettling (moved course fate)
moves course fate is = grind (arith, moved_by, by_tasks, is_at_rest)

all_moves : (course : Course) (fates : List Fate) → IsSettling course → IsSettling (moved_all course fates)
all_moves course [] is = is
all_moves course (fate ∷ fates) is = all_moves (moved course fate) fates (moves course fate is)

-- some task is left if the last one settles
some_left : (left front : List Task) → left ≡ front ++ tasks.Settles ∷ [] → left ≡ [] → ⊥
some_left left [] is none = let never : [] ≡ tasks.Settles ∷ [] = sym none ∙ is in cc never
some_left left (task ∷ front) is none = let never : [] ≡ task ∷ front ++ tasks.Settles ∷ [] = sym none ∙ is in cc never

pub settled_rests : (cluster : Cluster) (fates : List Fate) → (moved_all (course_of cluster (settle cluster)) fates).tasks ≡ []
    → is_at_rest (moved_all (course_of cluster (settle cluster)) fates).cluster ≡ true
settled_rests cluster fates none =
    let end : Course = moved_all (course_of cluster (settle cluster)) fates in
    ⊎_elim
    (λ (last : SettlesLast end.tasks). absurd (some_left end.tasks last.front last.is none))
    (λ (over : (end.tasks ≡ []) × (is_at_rest end.cluster ≡ true)). over.1)
    (all_moves (course_of cluster (settle cluster)) fates (settling (course_of cluster (settle cluster)) (map tasks.Notices (lane_numbers cluster)) refl))
