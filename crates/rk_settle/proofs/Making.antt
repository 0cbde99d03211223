-- What a move of a course makes: some occurrences, or none, of which no lane is worn.
use Rattle.rk_settle.proofs.Words.{arith, ◌≡◌, ℕ, Bool, List, [], ◌++◌, All, refl, append-nil, Node, Gave, Cluster, Happens, Occurrence}
use Rattle.rk_settle.proofs.Words.{lane_at, all_acted, deliver_in_makes, delivery, has_receiver, Fate, Course, moved_by, occurring}
use Rattle.rk_settle.proofs.Words.{occurring_by, Act, Task}
use Rattle.std.specs.Prelude.{◌⊎◌, Option, None, ⊤}
use Rattle.std.proofs.lemmas.Bool.{cond_both}
use Rattle.rk_types.specs.declared.node.Node.TheVariants as nodes
use Rattle.rk_cluster.specs.Replicas.{answer_of}
use Rattle.rk_settle.specs.declared.task.Act.TheVariants as acts
use Rattle.rk_settle.specs.declared.task.Task.TheVariants as tasks

-- an occurrence calls no replica of a cluster, or its call came to what that replica answers by this fate
abbrev pub CallsBy : Cluster → Fate → Occurrence → Type 0
CallsBy cluster fate (Happens lane event called) = (called ≡ answer_of cluster lane event fate) ⊎ (called ≡ Gave None)
CallsBy cluster fate occurrence = ⊤

-- a course came to another one by these occurrences
pub record Makes (fate : Fate) (course next : Course) : Type 0 where
  pub occurrences : List Occurrence
  pub calls : All (CallsBy course.cluster fate) occurrences
  pub occurred : next.occurred ≡ course.occurred ++ (all_acted course.cluster occurrences).came
  pub cluster : next.cluster ≡ (all_acted course.cluster occurrences).cluster
  pub worn : (all_acted course.cluster occurrences).worn ≡ None

-- ---- moves

-- nothing occurs
makes_none : (fate : Fate) (course next : Course) → next.occurred ≡ course.occurred → next.cluster ≡ course.cluster → Makes fate course next
makes_none fate course next occurred cluster = grind (arith, append-nil)

occurs_by : (fate : Fate) (course : Course) (occurrences : List Occurrence) (failed : Bool) (rest : List Task) (worn : Option ℕ)
    → (all_acted course.cluster occurrences).worn ≡ worn → All (CallsBy course.cluster fate) occurrences
    → Makes fate course (occurring_by course failed rest (all_acted course.cluster occurrences) worn)
occurs_by fate course occurrences failed rest worn worn_is calls = grind (arith, makes_none)

occurs : (fate : Fate) (course : Course) (occurrences : List Occurrence) (failed : Bool) (rest : List Task) → All (CallsBy course.cluster fate) occurrences
    → Makes fate course (occurring course occurrences failed rest)
occurs fate course occurrences failed rest calls = occurs_by fate course occurrences failed rest (all_acted course.cluster occurrences).worn refl calls

by_tasks : (fate : Fate) (course : Course) (left : List Task) → Makes fate course (moved_by course fate left)
by_tasks fate course left =
    grind (arith, makes_none)
