-- A task is known by what its moves make, since the type of tasks has no name here: however few more moves are looked at, none adds a
-- client, and so it is of the tasks that are then left.
use Rattle.std.proofs.Common.{arith, ◌≡◌, ◌++◌, ℕ, zero, suc, Bool, true, false, List, [], ◌∷◌, map, All, Option, None, Some, if◌then◌else◌}
use Rattle.std.proofs.Common.{refl, inl, inr, ◌⊎◌}
use Rattle.rk_scripts.proofs.Words.{All-cons, All-nil, Cluster, Occurrence, lane_at, all_acted, deliver_in_makes, delivery, has_receiver}
use Rattle.rk_scripts.proofs.Words.{Fate, Course, moved_by, occurring, occurring_by, with_tasks}
use Rattle.rk_scripts.proofs.settle.Owning.{HasOwnClients, IsOfOwn, own_all}
use Rattle.rk_scripts.proofs.settle.Tasks.{Task}

-- ---- tasks that add nobody

-- each of some tasks has a property
abbrev pub Each : (Task → Type 0) → List Task → Type 0
Each P [] = Unit {0}
Each P (task ∷ rest) = P task × Each P rest

-- before these tasks come more that have a property
pub record Precedes (P : Task → Type 0) (rest left : List Task) : Type 0 where
  pub more : List Task
  pub are : Each P more
  pub is : left ≡ more ++ rest

-- after a move the clients of each lane are those with sessions, and what is left is as it was, or the rest and before it such tasks
pub record Goes (P : Task → Type 0) (course : Course) (rest : List Task) (next : Course) : Type 0 where
  pub own : HasOwnClients next.cluster
  pub left : (next.tasks ≡ course.tasks) ⊎ Precedes P rest next.tasks

-- so many moves from a task on nobody is added
abbrev pub IsOwn : ℕ → Task → Type 0
IsOwn zero task = Unit {0}
IsOwn (suc moves) task =
    (course : Course) (fate : Fate) (rest : List Task) → HasOwnClients course.cluster → Goes (IsOwn moves) course rest (moved_by course fate (task ∷ rest))

-- ---- lists of tasks

pub each_own : {X : Type 0} (P : Task → Type 0) (task : X → Task) (xs : List X) → ((x : X) → P (task x)) → Each P (map task xs)
each_own P task [] own = tt
each_own P task (x ∷ xs) own = (own x, each_own P task xs own)

pub where_own : (P : Task → Type 0) (b : Bool) (left more : List Task) → Each P left → Each P more → Each P (if b then left else more)
where_own P true left more own others = own
where_own P false left more own others = others

pub joined_own : (P : Task → Type 0) (left more : List Task) → Each P left → Each P more → Each P (left ++ more)
joined_own P [] more own others = others
joined_own P (task ∷ left) more own others = (own.0, joined_own P left more own.1 others)

pub weaker_own : (P Q : Task → Type 0) → ((task : Task) → P task → Q task) → (left : List Task) → Each P left → Each Q left
weaker_own P Q gives [] own = tt
weaker_own P Q gives (task ∷ left) own = (gives task own.0, weaker_own P Q gives left own.1)

pub none_left : (left : List Task) → Each (IsOwn zero) left
none_left [] = tt
none_left (task ∷ left) = (tt, none_left left)

-- ---- occurrences

pub one_of_own : (occurrence : Occurrence) → IsOfOwn occurrence → All IsOfOwn (occurrence ∷ [])
one_of_own occurrence own = All-cons IsOfOwn occurrence [] own (All-nil IsOfOwn)

pub where_of_own : (b : Bool) (occurrence : Occurrence) → IsOfOwn occurrence → All IsOfOwn (if b then occurrence ∷ [] else [])
where_of_own true occurrence own = one_of_own occurrence own
where_of_own false occurrence own = All-nil IsOfOwn

-- what a delivery makes
pub deliver_own : (cluster : Cluster) (lane number : ℕ) (fate : Fate) → All IsOfOwn (deliver_in_makes cluster lane number fate)
deliver_own cluster lane number fate = grind (arith, lane_at, where_of_own, has_receiver, delivery)

-- ---- moves

module _ (P : Task → Type 0) (course : Course) (rest : List Task) (own : HasOwnClients course.cluster) where
  pub unfolds : (more : List Task) → Each P more → Goes P course rest (with_tasks course (more ++ rest))
  unfolds more are = record { own = own; left = inr (record { more = more; are = are; is = refl }) }

  pub stays : Goes P course rest course
  stays = record { own = own; left = inl refl }

  occurs_by : (list : List Occurrence) (failed : Bool) (worn : Option ℕ) → All IsOfOwn list
      → Goes P course rest (occurring_by course failed rest (all_acted course.cluster list) worn)
  occurs_by list failed None of_own = record {
    own = own_all course.cluster list own of_own;
    left = inr (record { more = []; are = tt; is = refl });
  }
  occurs_by list failed (Some number) of_own = stays

  pub occurs : (list : List Occurrence) (failed : Bool) → All IsOfOwn list → Goes P course rest (occurring course list failed rest)
  occurs list failed = occurs_by list failed (all_acted course.cluster list).worn
