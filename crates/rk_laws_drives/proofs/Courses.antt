-- What occurs in the course of a settling command is work.
use Rattle.std.proofs.Common.{◌≡◌, ℕ, Bool, true, false, List, [], ◌∷◌, ◌++◌, Option, Some, None, Result, Ok, Err, if◌then◌else◌, refl, sym, ap, subst, ◌∙◌, append-nil, arith}
use Rattle.std.proofs.lemmas.Bool.{and_from, and_parts}
use Rattle.rk_types.specs.NumberMap.{get}
use Rattle.rk_types.specs.declared.node.Node.{Node}
use Rattle.rk_types.specs.declared.node.Node.TheVariants as nodes
use Rattle.rk_message.specs.declared.message.Message.{Message}
use Rattle.rk_world.specs.Calls.{accept, ask}
use Rattle.rk_world.specs.Cluster.{Accepts, Asks, Calls, Cluster, Happens, Joins, Occurrence, cluster_after, cluster_run, lane_at, session_at}
use Rattle.rk_world.specs.Step.{step}
use Rattle.rk_world.specs.declared.error.StepError.{StepError}
use Rattle.rk_cluster.specs.Acted.{Acted, acted, all_acted, came_in, going_on}
use Rattle.rk_cluster.specs.Makes.{deliver_in_makes, delivery, delivery_of, has_receiver}
use Rattle.rk_cluster.specs.Replicas.{Fate}
use Rattle.rk_cluster.proofs.Leading.{runs_join}
use Rattle.rk_settle.specs.Course.{Course, act_makes, has_actor, moved, moved_all}
use Rattle.rk_settle.specs.Tasks.{occurrence_of}
use Rattle.rk_settle.proofs.Occurred.{move_is}
use Rattle.rk_laws_drives.specs.Work.{are_work, is_work}

-- the type of what a function takes: acts have no name outside of their crate
abbrev Taken : {A B : Type 0} → (A → B) → Type 0
Taken {A} f = A

abbrev Act : Type 0
Act = Taken (occurrence_of 0)

-- ---- work that goes on

pub work_joins : (start : Cluster) (before after : List Occurrence) → are_work start before ≡ true
    → are_work (cluster_run start before) after ≡ true → are_work start (before ++ after) ≡ true
work_joins start [] after first second = second
work_joins start (occurrence ∷ before) after first second =
    let parts = and_parts (is_work start occurrence) (are_work (cluster_after start occurrence) before) first in
    and_from (is_work start occurrence) (are_work (cluster_after start occurrence) (before ++ after)) parts.0
    (work_joins (cluster_after start occurrence) before after parts.1 second)

-- at most one thing is to occur, and it is work
abbrev at_most_work : Cluster → List Occurrence → Bool
at_most_work cluster [] = true
at_most_work cluster (occurrence ∷ []) = is_work cluster occurrence
at_most_work cluster (occurrence ∷ other ∷ others) = false

module _ (cluster : Cluster) where
  answered_work : {T : Type 0} (occurrence : Occurrence) (answer : Result T StepError) → is_work cluster occurrence ≡ true
      → are_work cluster (came_in occurrence answer) ≡ true
  answered_work occurrence (Ok answer) work = and_from (is_work cluster occurrence) true work refl
  answered_work occurrence (Err error) work = refl

  -- what came of it is work
  one_work : (occurrence : Occurrence) → is_work cluster occurrence ≡ true → are_work cluster (acted cluster occurrence).came ≡ true
  one_work (Happens lane event called) work = answered_work (Happens lane event called) (step (lane_at cluster lane) event called) work
  one_work (Joins client) work = absurd (cc work)
  one_work (Calls client table key op) work = absurd (cc work)
  one_work (Asks lane client) work = answered_work (Asks lane client) (ask (lane_at cluster lane) (session_at cluster client)) work
  one_work (Accepts lane number client) work =
      answered_work (Accepts lane number client) (accept (lane_at cluster lane) number (session_at cluster client)) work

  alone_work : (first : Acted) (worn : Option ℕ) → are_work cluster first.came ≡ true
      → are_work cluster (going_on first worn (λ next. all_acted next [])).came ≡ true
  alone_work first None work = ap (are_work cluster) (append-nil first.came) ∙ work
  alone_work first (Some number) work = work

  came_work : (list : List Occurrence) → at_most_work cluster list ≡ true → are_work cluster (all_acted cluster list).came ≡ true
  came_work [] work = refl
  came_work (occurrence ∷ []) work = alone_work (acted cluster occurrence) (acted cluster occurrence).worn (one_work occurrence work)
  came_work (occurrence ∷ other ∷ others) work = absurd (cc work)

  -- ---- what tasks make

  where_work : (there : Bool) (occurrence : Occurrence) → (there ≡ true → is_work cluster occurrence ≡ true)
      → at_most_work cluster (if there then occurrence ∷ [] else []) ≡ true
  where_work true occurrence work = work refl
  where_work false occurrence work = refl

  -- the act of somebody
  act_work : (lane : ℕ) (act : Act) → at_most_work cluster (act_makes cluster lane act) ≡ true
  act_work lane act = where_work (has_actor cluster act) (occurrence_of lane act) (λ there. acts there)
    where
      acts : has_actor cluster act ≡ true → is_work cluster (occurrence_of lane act) ≡ true
      acts there = grind arith

  -- the delivery of a message
  delivery_work : (lane number : ℕ) (fate : Fate) (to : Node) → has_receiver cluster to ≡ true → is_work cluster (delivery cluster lane number fate to) ≡ true
  delivery_work lane number fate (nodes.Client client) there = there
  delivery_work lane number fate nodes.Coordinator there = refl
  delivery_work lane number fate (nodes.Master master) there = refl
  delivery_work lane number fate (nodes.Backup backup) there = refl

  message_work : (lane number : ℕ) (fate : Fate) (found : Option Message) → at_most_work cluster (delivery_of cluster lane number fate found) ≡ true
  message_work lane number fate None = refl
  message_work lane number fate (Some message) =
      where_work (has_receiver cluster message.to) (delivery cluster lane number fate message.to) (delivery_work lane number fate message.to)

  delivered_work : (lane number : ℕ) (fate : Fate) → at_most_work cluster (deliver_in_makes cluster lane number fate) ≡ true
  delivered_work lane number fate = message_work lane number fate (get (lane_at cluster lane).wire.messages number)

-- ---- moves

-- what has occurred in a course made its cluster of the one at its start, and is work
pub record IsWorking (start : Cluster) (course : Course) : Type 0 where
  pub from : course.cluster ≡ cluster_run start course.occurred
  pub work : are_work start course.occurred ≡ true

module _ (start : Cluster) (course : Course) (working : IsWorking start course) where
  joined : (list : List Occurrence) → at_most_work course.cluster list ≡ true
      → are_work start (course.occurred ++ (all_acted course.cluster list).came) ≡ true
  joined list work =
      let came : List Occurrence = (all_acted course.cluster list).came in
      work_joins start course.occurred came working.work
      (subst (λ (cluster : Cluster). are_work cluster came ≡ true) working.from (came_work course.cluster list work))

  act_joined : (lane : ℕ) (act : Act)
      → are_work start (course.occurred ++ (all_acted course.cluster (act_makes course.cluster lane act)).came) ≡ true
  act_joined lane act = joined (act_makes course.cluster lane act) (act_work course.cluster lane act)

  delivered_joined : (lane number : ℕ) (fate : Fate)
      → are_work start (course.occurred ++ (all_acted course.cluster (deliver_in_makes course.cluster lane number fate)).came) ≡ true
  delivered_joined lane number fate = joined (deliver_in_makes course.cluster lane number fate) (delivered_work course.cluster lane number fate)

  -- a move; the tasks of a course have no name outside of their crate, so it is `grind` that goes through them
  moved_work : (fate : Fate) → are_work start (moved course fate).occurred ≡ true
  moved_work fate =
      let was : are_work start course.occurred ≡ true = working.work in
      grind (arith, was, act_joined, delivered_joined)

  pub moved_working : (fate : Fate) → IsWorking start (moved course fate)
  moved_working fate =
      let move = move_is 0 course fate in
      record {
        from =
            move.cluster_is ∙ ap (λ (cluster : Cluster). cluster_run cluster move.occurrences) working.from
            ∙ sym (runs_join start course.occurred move.occurrences) ∙ ap (cluster_run start) (sym move.occurred);
        work = moved_work fate;
      }

-- all moves
pub all_moved_working : (start : Cluster) (course : Course) (fates : List Fate) → IsWorking start course → IsWorking start (moved_all course fates)
all_moved_working start course [] working = working
all_moved_working start course (fate ∷ fates) working =
    all_moved_working start (moved course fate) fates (moved_working start course working fate)
