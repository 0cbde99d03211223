-- How the course of a command goes on by an occurrence that a cluster in code made.
use Rattle.rk_settle.proofs.Words.{arith, ◌≡◌, ℕ, Bool, true, false, ◌||◌, List, [], ◌∷◌, ◌++◌, Option, None, Some, is_some, if◌then◌else◌}
use Rattle.rk_settle.proofs.Words.{refl, sym, ap, subst, ◌∙◌, get, Node, Said, Segments, Gave, Session, Cluster, Happens, Occurrence}
use Rattle.rk_settle.proofs.Words.{lane_at, session_at, all_acted, is_lost_at_backup, CountsGoOn, counts_in, deliver_in_makes, Kept}
use Rattle.rk_settle.proofs.Words.{ClusterState, counts_same, Course, error_by, has_actor, moved, moved_by, occurring, occurring_by}
use Rattle.rk_settle.proofs.Words.{IsCourse, Moves, Stops, occurrence_of, Act, Progress, Task}
use Rattle.std.proofs.lemmas.List.{append-nil, append_assoc}
use Rattle.std.proofs.lemmas.Option.{none-some}
use Rattle.rk_types.specs.NumberMap.{NumberMap}
use Rattle.std.specs.Option.{option_to_list}
use Rattle.std.specs.Prelude.{⊤}
use Rattle.rk_types.specs.declared.node.Node.TheVariants as nodes
use Rattle.rk_world.specs.declared.event.Event.{Event}
use Rattle.rk_world.specs.declared.event.Event.TheVariants as events
use Rattle.rk_world.specs.Cluster.{Asks}
use Rattle.rk_cluster.specs.Acted.{acted, going_on}
use Rattle.rk_cluster.specs.Delivering.{Delivers, IsDelivery}
use Rattle.rk_cluster.specs.Effects.{ActsOne, IsActedAs, RunsTo}
use Rattle.rk_cluster.specs.Faults.{BySomeFate}
use Rattle.rk_cluster.specs.declared.delivering.Delivered.{Delivered}
use Rattle.rk_cluster.specs.Steps.{WhereWorn}
use Rattle.rk_cluster.specs.declared.error.ClusterError.{ClusterError}
use Rattle.rk_cluster.specs.declared.error.ClusterError.TheVariants as causes
use Rattle.rk_cluster.proofs.Faults.{go_on_kept}
use Rattle.rk_cluster.proofs.Leading.{leads_on}
use Rattle.rk_settle.specs.Failures.{failure_by}
use Rattle.rk_settle.specs.declared.task.Act.TheVariants as acts
use Rattle.rk_settle.specs.declared.error.SettleError.TheVariants as errors
use Rattle.rk_settle.specs.declared.task.Task.TheVariants as made
use Rattle.rk_settle.proofs.Keeping.{keeps_same}

-- a list of one thing or none
abbrev pub IsAlone : List Occurrence → Type 0
IsAlone [] = ⊤
IsAlone (occurrence ∷ []) = ⊤
IsAlone (occurrence ∷ other ∷ others) = ⊥

-- if one occurrence finds a lane worn the cluster is left as it was
worn_by : (cluster : Cluster) (occurrence : Occurrence) (number : ℕ) (worn : Option ℕ) → (acted cluster occurrence).worn ≡ worn
    → (going_on (acted cluster occurrence) worn (λ next. all_acted next [])).worn ≡ Some number
    → (going_on (acted cluster occurrence) worn (λ next. all_acted next [])).cluster ≡ cluster
worn_by cluster occurrence number worn is found = grind (arith, none-some, lane_at, session_at)

pub worn_alone : (cluster : Cluster) (occurrences : List Occurrence) (number : ℕ) → IsAlone occurrences → (all_acted cluster occurrences).worn ≡ Some number
    → (all_acted cluster occurrences).cluster ≡ cluster
worn_alone cluster occurrences number alone worn = grind (arith, worn_by)

module _ {R : Type 0} (segments : R → Option Segments) where
  -- what comes of one occurrence comes of the list of it alone
  pub alone : (new : ClusterState R) (cluster : Cluster) (occurrence : Occurrence) (told : List Said) (broken : Option ℕ) → IsActedAs segments cluster new told broken (acted cluster occurrence)
      → IsActedAs segments cluster new told broken (all_acted cluster (occurrence ∷ []))
  alone new cluster occurrence told broken it = grind (arith, all_acted, append-nil)

  -- a course goes on by what occurs
  pub occurs : (start : Cluster) (had : List Said) (new : ClusterState R) (occurrences : List Occurrence) (told : List Said) (failed : Bool) (rest : List Task) (was is : Progress) (course : Course)
      → RunsTo start course.occurred course.cluster → IsActedAs segments course.cluster new told None (all_acted course.cluster occurrences) → is.said.items ≡ was.said.items ++ told → is.faults ≡ was.faults
      → is.failing ≡ (was.failing || failed) → had ++ course.said ≡ was.said.items → course.faults ≡ was.faults → course.failing ≡ was.failing
      → IsCourse segments start had new rest is (occurring course occurrences failed rest)
  occurs start had new occurrences told failed rest was is course leads it said faults failing was_said was_faults was_failing =
      let came = all_acted course.cluster occurrences in
      subst (λ (worn : Option ℕ). IsCourse segments start had new rest is (occurring_by course failed rest came worn)) (sym it.worn)
      (record {
        cluster = it.cluster;
        leads = leads_on start course.cluster came.cluster course.occurred came.came leads it.leads;
        tasks = refl;
        said = grind (arith, append_assoc, course.said, came.said, was.said.items, it.said);
        faults = was_faults ∙ sym faults;
        failing = ap (λ (b : Bool). b || failed) was_failing ∙ sym failing;
      })

-- a value or nothing more
or_false : (b : Bool) → b ≡ (b || false)
or_false true = refl
or_false false = refl

module _ {R : Type 0} (segments : R → Option Segments) (faults : R → ℕ) (old new : ClusterState R) (lane : ℕ) (act : Act) where
  -- what somebody does is a move
  acts_moves : (rest : List Task) (progress : Progress) (start : Cluster) (had : List Said) (course : Course) → has_actor course.cluster act ≡ true → ActsOne segments old new (occurrence_of lane act) [] None
      → IsCourse segments start had old (made.Occurs lane act ∷ rest) progress course → IsCourse segments start had new rest progress (moved course Kept)
  acts_moves rest progress start had course there acts stands =
      subst (λ (left : List Task). IsCourse segments start had new rest progress (moved_by course Kept left)) (sym stands.tasks)
      (subst (λ (b : Bool). IsCourse segments start had new rest progress (occurring course (if b then occurrence_of lane act ∷ [] else []) false rest)) (sym there)
      (occurs segments start had new (occurrence_of lane act ∷ []) [] false rest progress progress course stands.leads
      (alone segments new course.cluster (occurrence_of lane act) [] None (acts course.cluster stands.cluster)) (sym (append-nil progress.said.items)) refl (or_false progress.failing)
      stands.said stands.faults stands.failing))

  -- an event is a move
  pub happens_moves : (event : Event) → act ≡ acts.Happens event → ActsOne segments old new (Happens lane event (Gave None)) [] None → CountsGoOn faults [] old new
      → (rest : List Task) (progress : Progress) → Moves segments faults old new (made.Occurs lane act ∷ rest) rest progress progress
  happens_moves event is happens on rest progress = record {
    fate = Kept;
    counts = go_on_kept (counts_in faults old.lanes) (counts_in faults new.lanes) on;
    kept = keeps_same progress.said.items;
    moves = λ start had course stands. acts_moves rest progress start had course (ap (has_actor course.cluster) is)
        (subst (λ (it : Act). ActsOne segments old new (occurrence_of lane it) [] None) (sym is) happens) stands;
  }

  -- the turn of a client that has a session is a move
  pub asks_moves : (client : ℕ) → act ≡ acts.Asks client → is_some (get old.sessions client) ≡ true → ActsOne segments old new (Asks lane client) [] None → CountsGoOn faults [] old new
      → (rest : List Task) (progress : Progress) → Moves segments faults old new (made.Occurs lane act ∷ rest) rest progress progress
  asks_moves client is there asks on rest progress = record {
    fate = Kept;
    counts = go_on_kept (counts_in faults old.lanes) (counts_in faults new.lanes) on;
    kept = keeps_same progress.said.items;
    moves = λ start had course stands. acts_moves rest progress start had course
        (ap (has_actor course.cluster) is ∙ ap (λ (sessions : NumberMap Session). is_some (get sessions client)) stands.cluster.sessions ∙ there)
        (subst (λ (it : Act). ActsOne segments old new (occurrence_of lane it) [] None) (sym is) asks) stands;
  }

  -- a client without a session takes no turn
  pub nobody_moves : (client : ℕ) → act ≡ acts.Asks client → is_some (get old.sessions client) ≡ false
      → (rest : List Task) (progress : Progress) → Moves segments faults old old (made.Occurs lane act ∷ rest) rest progress progress
  nobody_moves client is none rest progress =
      grind (arith, go_on_kept, counts_in, counts_same, keeps_same, moved_by, occurring, occurrence_of, has_actor, append-nil, or_false)

  -- so does an event
  pub happens_stops : (event : Event) → act ≡ acts.Happens event → (e : ClusterError) → WhereWorn (λ number. ActsOne segments old new (Happens lane event (Gave None)) [] (Some number)) e
      → (rest : List Task) (progress : Progress) → Stops segments old new (made.Occurs lane act ∷ rest) progress (failure_by e)
  happens_stops event is e worn rest progress = grind (arith, has_actor, occurrence_of, alone, worn_alone, error_by, all_acted)

  -- so does the turn of a client
  pub asks_stops : (client : ℕ) → act ≡ acts.Asks client → is_some (get old.sessions client) ≡ true → (e : ClusterError)
      → WhereWorn (λ number. ActsOne segments old new (Asks lane client) [] (Some number)) e → (rest : List Task) (progress : Progress)
      → Stops segments old new (made.Occurs lane act ∷ rest) progress (failure_by e)
  asks_stops client is there e worn rest progress = grind (arith, has_actor, occurrence_of, alone, worn_alone, error_by, all_acted)

module _ {R : Type 0} (segments : R → Option Segments) (faults : R → ℕ) (old new : ClusterState R) (lane number : ℕ) where
  -- a delivery is a move
  pub delivers_moves : (delivered : Delivered) (was is : Progress) → BySomeFate faults old.lanes new.lanes (IsDelivery segments old new lane number delivered)
      → is.said.items ≡ was.said.items ++ option_to_list delivered.said → is.faults ≡ was.faults → is.failing ≡ (was.failing || delivered.failed)
      → (rest : List Task) → Moves segments faults old new (made.Delivers lane number ∷ rest) rest was is
  delivers_moves delivered was is it said faults failing rest = record {
    fate = it.fate;
    counts = it.counts;
    kept = (option_to_list delivered.said, said);
    moves = λ start had course stands.
        subst (λ (left : List Task). IsCourse segments start had new rest is (moved_by course it.fate left)) (sym stands.tasks)
        (occurs segments start had new (deliver_in_makes course.cluster lane number it.fate) (option_to_list delivered.said) (is_lost_at_backup course.cluster lane number it.fate) rest was is course stands.leads
        (it.holds.acts course.cluster stands.cluster) said faults
        (failing ∙ ap (λ (failed : Bool). was.failing || failed) (sym (it.holds.failed course.cluster stands.cluster)))
        stands.said stands.faults stands.failing);
  }
