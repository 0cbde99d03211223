-- What occurs in the course of a command makes its cluster, and may occur there at any time.
use Rattle.rk_settle.proofs.Words.{arith, ◌≡◌, ℕ, ◌<◌, Bool, true, false, List, [], ◌∷◌, ◌++◌, All, Option, None, Some, Ok, if◌then◌else◌}
use Rattle.rk_settle.proofs.Words.{refl, sym, subst, ◌∙◌, All-append, All-cons, All-head, All-nil, All-tail, LANES, Node, StepError, Calls}
use Rattle.rk_settle.proofs.Words.{Cluster, Happens, Occurrence, lane_at, session_at, new_world, Acted, all_acted, is_lost_at_backup}
use Rattle.rk_settle.proofs.Words.{deliver_in_makes, delivery, has_receiver, Fate, Course, act_makes, has_actor, is_at_limit, moved}
use Rattle.rk_settle.proofs.Words.{moved_by, occurring, occurring_by, with_tasks, AreTasks, IsTask, occurrence_of, unfolded, Act, Task}
use Rattle.std.proofs.Common.{Result, Err}
use Rattle.std.specs.Int.{w32}
use Rattle.std.proofs.lemmas.List.{append-nil}
use Rattle.rk_types.specs.declared.node.Node.TheVariants as nodes
use Rattle.rk_entry.specs.Numbers.{IsNumber}
use Rattle.rk_world.specs.Calls.{Visited}
use Rattle.rk_world.specs.Cluster.{Accepts, Asks, Joins, cluster_after, cluster_run, cluster_stepped, cluster_visited}
use Rattle.rk_world.specs.Premises.{MayHappen}
use Rattle.rk_world.specs.Replicas.{IsTold}
use Rattle.rk_world.specs.Step.{Stepped}
use Rattle.rk_world.specs.declared.event.Event.{Event}
use Rattle.rk_world.specs.declared.event.Event.TheVariants as events
use Rattle.rk_cluster.specs.Acted.{acted, came_in, going_on}
use Rattle.rk_cluster.proofs.Leading.{runs_join}
use Rattle.rk_settle.specs.Lawful.{IsAct}
use Rattle.rk_settle.specs.declared.task.Act.TheVariants as acts
use Rattle.rk_settle.specs.declared.task.Task.TheVariants as tasks
use Rattle.rk_settle.proofs.Unfolded.{NamesMasters, unfolded_are}

-- ---- what occurs makes the cluster after it

-- the cluster after something was carried out is the one after it occurred
pub acted_is : (cluster : Cluster) (occurrence : Occurrence) → (acted cluster occurrence).cluster ≡ cluster_after cluster occurrence
acted_is cluster occurrence = grind arith

-- so is it after those that came: an occurrence that is refused changes nothing
stepped_is : (cluster : Cluster) (lane : ℕ) (occurrence : Occurrence) (stepped : Result Stepped StepError) → cluster_after cluster occurrence ≡ cluster_stepped cluster lane stepped
    → cluster_stepped cluster lane stepped ≡ cluster_run cluster (came_in occurrence stepped)
stepped_is cluster lane occurrence (Ok stepped) is = sym is
stepped_is cluster lane occurrence (Err error) is = refl

visited_is : (cluster : Cluster) (lane client : ℕ) (occurrence : Occurrence) (visited : Result Visited StepError) → cluster_after cluster occurrence ≡ cluster_visited cluster lane client visited
    → cluster_visited cluster lane client visited ≡ cluster_run cluster (came_in occurrence visited)
visited_is cluster lane client occurrence (Ok visited) is = sym is
visited_is cluster lane client occurrence (Err error) is = refl

pub came_is : (cluster : Cluster) (occurrence : Occurrence) → (acted cluster occurrence).cluster ≡ cluster_run cluster (acted cluster occurrence).came
came_is cluster occurrence = grind (arith, stepped_is, lane_at, visited_is, session_at)

going_is : (cluster : Cluster) (occurrence : Occurrence) (next : Cluster → Acted) → ((after : Cluster) → (next after).cluster ≡ cluster_run after (next after).came) → (worn : Option ℕ)
    → (going_on (acted cluster occurrence) worn next).cluster ≡ cluster_run cluster (going_on (acted cluster occurrence) worn next).came
going_is cluster occurrence next rest worn = grind (arith, came_is, runs_join)

-- so is it after some, one after the other
pub acted_all_is : (cluster : Cluster) (occurrences : List Occurrence) → (all_acted cluster occurrences).cluster ≡ cluster_run cluster (all_acted cluster occurrences).came
acted_all_is cluster [] = refl
acted_all_is cluster (occurrence ∷ later) =
    going_is cluster occurrence (λ next. all_acted next later) (λ next. acted_all_is next later) (acted cluster occurrence).worn

-- ---- what came was to come

module _ (Holds : Occurrence → Type 0) where
  one_come : (cluster : Cluster) (occurrence : Occurrence) → Holds occurrence → All Holds (acted cluster occurrence).came
  one_come cluster occurrence holds = grind (arith, lane_at, session_at)

  going_come : (first : Acted) (worn : Option ℕ) (next : Cluster → Acted) → All Holds first.came → ((after : Cluster) → All Holds (next after).came)
      → All Holds (going_on first worn next).came
  going_come first None next come rest = All-append Holds first.came (next first.cluster).came come (rest first.cluster)
  going_come first (Some number) next come rest = come

  -- what holds of each that was to come holds of each that came
  pub all_come : (cluster : Cluster) (occurrences : List Occurrence) → All Holds occurrences → All Holds (all_acted cluster occurrences).came
  all_come cluster [] all = All-nil Holds
  all_come cluster (occurrence ∷ later) all =
      going_come (acted cluster occurrence) (acted cluster occurrence).worn (λ next. all_acted next later) (one_come cluster occurrence (All-head Holds occurrence later all))
      (λ next. all_come next later (All-tail Holds occurrence later all))

-- ---- what may occur

-- an event is no crash
abbrev pub IsNoCrash : Event → Type 0
IsNoCrash (events.Crash master) = ⊥
IsNoCrash event = Unit {0}

-- an occurrence that may come to a cluster of so many masters at any time: it names lanes and masters that are there, and is no crash, nor
-- a client's call
abbrev pub IsAllowed : ℕ → Occurrence → Type 0
IsAllowed masters (Happens lane event called) = (lane < LANES) × IsNoCrash event × MayHappen (new_world 0 masters 0) event
IsAllowed masters (Joins client) = IsNumber w32 1 client
IsAllowed masters (Calls client table key op) = ⊥
IsAllowed masters (Asks lane client) = lane < LANES
IsAllowed masters (Accepts lane number client) = lane < LANES

-- ---- what replicas answer

-- if a replica is called, it answers what it stores, or fails
abbrev pub IsToldAt : Cluster → Occurrence → Type 0
IsToldAt cluster (Happens lane event called) = IsTold (lane_at cluster lane) event called
IsToldAt cluster occurrence = Unit {0}

-- so it is at each of these
abbrev pub AreToldFrom : Cluster → List Occurrence → Type 0
AreToldFrom cluster [] = Unit {0}
AreToldFrom cluster (occurrence ∷ later) = IsToldAt cluster occurrence × AreToldFrom (cluster_after cluster occurrence) later

one_told : (cluster : Cluster) (occurrence : Occurrence) → IsToldAt cluster occurrence → AreToldFrom cluster (acted cluster occurrence).came
one_told cluster occurrence told = grind (arith, lane_at, session_at)

-- what comes of one thing, if it is to occur
where_told : (cluster : Cluster) (b : Bool) (occurrence : Occurrence) → IsToldAt cluster occurrence → AreToldFrom cluster (all_acted cluster (if b then occurrence ∷ [] else [])).came
where_told cluster b occurrence told = grind (arith, one_told, append-nil)

act_told : (masters : ℕ) (cluster : Cluster) (lane : ℕ) (act : Act) → IsAct masters act → IsToldAt cluster (occurrence_of lane act)
act_told masters cluster lane act is = grind (arith, lane_at)

-- what comes of the delivery of a message
pub delivered_told : (cluster : Cluster) (lane number : ℕ) (fate : Fate) → AreToldFrom cluster (all_acted cluster (deliver_in_makes cluster lane number fate)).came
delivered_told cluster lane number fate = grind (arith, lane_at, where_told, has_receiver, delivery)

module _ (masters : ℕ) where
  -- an act
  act_allowed : (lane : ℕ) (act : Act) → lane < LANES → IsAct masters act → IsAllowed masters (occurrence_of lane act)
  act_allowed lane act inside is = grind arith

  where_allowed : (b : Bool) (occurrence : Occurrence) → IsAllowed masters occurrence → All (IsAllowed masters) (if b then occurrence ∷ [] else [])
  where_allowed true occurrence allowed = All-cons (IsAllowed masters) occurrence [] allowed (All-nil (IsAllowed masters))
  where_allowed false occurrence allowed = All-nil (IsAllowed masters)

  -- the delivery of a message
  delivery_allowed : (cluster : Cluster) (lane number : ℕ) (fate : Fate) (to : Node) → lane < LANES → IsAllowed masters (delivery cluster lane number fate to)
  delivery_allowed cluster lane number fate to inside = grind arith

  pub delivered_allowed : (cluster : Cluster) (lane number : ℕ) (fate : Fate) → lane < LANES → All (IsAllowed masters) (deliver_in_makes cluster lane number fate)
  delivered_allowed cluster lane number fate inside = grind (arith, lane_at, where_allowed, has_receiver, delivery, delivery_allowed)

  -- ---- a move

  -- a move goes on with a course: what occurs at it makes the cluster, and may occur if the tasks and the cluster name what is there;
  -- and so do then the tasks that are left
  pub record IsMove (course next : Course) : Type 0 where
    pub occurrences : List Occurrence
    pub occurred : next.occurred ≡ course.occurred ++ occurrences
    pub cluster_is : next.cluster ≡ cluster_run course.cluster occurrences
    pub lawful : AreTasks masters course.tasks → NamesMasters masters course.cluster → All (IsAllowed masters) occurrences × AreTasks masters next.tasks
    pub told : AreTasks masters course.tasks → AreToldFrom course.cluster occurrences

  module _ (course : Course) where
    -- one at which nothing occurs
    silent : (next : Course) → next.occurred ≡ course.occurred → next.cluster ≡ course.cluster
        → (AreTasks masters course.tasks → NamesMasters masters course.cluster → AreTasks masters next.tasks) → IsMove course next
    silent next occurred cluster lawful = record {
      occurrences = [];
      occurred = occurred ∙ sym (append-nil course.occurred);
      cluster_is = cluster;
      lawful = λ are names. (All-nil (IsAllowed masters), lawful are names);
      told = λ are. tt;
    }

    stays : IsMove course course
    stays = silent course refl refl (λ are names. are)

    module _ (task : Task) (rest : List Task) (is : course.tasks ≡ task ∷ rest) where
      first_is : AreTasks masters course.tasks → IsTask masters task
      first_is are = All-head (IsTask masters) task rest (subst (AreTasks masters) is are)

      rest_are : AreTasks masters course.tasks → AreTasks masters rest
      rest_are are = All-tail (IsTask masters) task rest (subst (AreTasks masters) is are)

      occurs_by : (occurrences : List Occurrence) (failed : Bool) → (IsTask masters task → All (IsAllowed masters) occurrences)
          → (IsTask masters task → AreToldFrom course.cluster (all_acted course.cluster occurrences).came) → (worn : Option ℕ) → (all_acted course.cluster occurrences).worn ≡ worn
          → IsMove course (occurring_by course failed rest (all_acted course.cluster occurrences) worn)
      occurs_by occurrences failed allowed told None none = record {
        occurrences = (all_acted course.cluster occurrences).came;
        occurred = refl;
        cluster_is = acted_all_is course.cluster occurrences;
        lawful = λ are names. (all_come (IsAllowed masters) course.cluster occurrences (allowed (first_is are)), rest_are are);
        told = λ are. told (first_is are);
      }
      occurs_by occurrences failed allowed told (Some number) worn = stays

      occurs : (occurrences : List Occurrence) (failed : Bool) → (IsTask masters task → All (IsAllowed masters) occurrences)
          → (IsTask masters task → AreToldFrom course.cluster (all_acted course.cluster occurrences).came) → IsMove course (occurring course occurrences failed rest)
      occurs occurrences failed allowed told = occurs_by occurrences failed allowed told (all_acted course.cluster occurrences).worn refl

      unfolds : IsMove course (with_tasks course (unfolded course.cluster task ++ rest))
      unfolds =
          silent (with_tasks course (unfolded course.cluster task ++ rest)) refl refl
          (λ are names.
          All-append (IsTask masters) (unfolded course.cluster task) rest (unfolded_are masters course.cluster names task (first_is are)) (rest_are are))

    move_by : (fate : Fate) (left : List Task) → course.tasks ≡ left → IsMove course (moved_by course fate left)
    move_by fate [] is = stays
    move_by fate (tasks.Occurs lane act ∷ rest) is =
        occurs (tasks.Occurs lane act) rest is (act_makes course.cluster lane act) false
        (λ task. where_allowed (has_actor course.cluster act) (occurrence_of lane act) (act_allowed lane act task.0 task.1))
        (λ task. where_told course.cluster (has_actor course.cluster act) (occurrence_of lane act) (act_told masters course.cluster lane act task.1))
    move_by fate (tasks.Delivers lane number ∷ rest) is =
        occurs (tasks.Delivers lane number) rest is (deliver_in_makes course.cluster lane number fate) (is_lost_at_backup course.cluster lane number fate)
        (λ inside. delivered_allowed course.cluster lane number fate inside)
        (λ inside. delivered_told course.cluster lane number fate)
    move_by fate (tasks.Begins ∷ rest) is =
        elim (is_at_limit course) as (λ b. IsMove course (if b then course else with_tasks course rest)) [
          | true ↦ stays
          | false ↦ silent (with_tasks course rest) refl refl (λ are names. rest_are tasks.Begins rest is are)
        ]
    move_by fate (tasks.Ends ∷ rest) is = silent (moved_by course fate (tasks.Ends ∷ rest)) refl refl (λ are names. rest_are tasks.Ends rest is are)
    move_by fate (task ∷ rest) is = unfolds task rest is

    -- each move does
    pub move_is : (fate : Fate) → IsMove course (moved course fate)
    move_is fate = move_by fate course.tasks refl
