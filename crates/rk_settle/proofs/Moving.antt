-- The moves of a command in code, one after the other.
use Rattle.rk_settle.proofs.Words.{arith, ◌≡◌, ℕ, ◌+◌, ◌<◌, ◌≤◌, Bool, false, nat_le, List, [], ◌∷◌, ◌++◌, Option, if◌then◌else◌, refl, sym}
use Rattle.rk_settle.proofs.Words.{ap, subst, ◌∙◌, Segments, Said, Cluster, CountsGoOn, counts_in, Fate, Kept, ClusterState, counts_same}
use Rattle.rk_settle.proofs.Words.{Course, MOST_FAULTS, error_by, moved, moved_all, moved_by, round_over, with_tasks, Keeps, IsCourse}
use Rattle.rk_settle.proofs.Words.{Moves, MovesAll, Stops, unfolded, Progress, SettleError, Act, Task}
use Rattle.std.proofs.lemmas.Bool.{le-leb, lt-leb}
use Rattle.std.proofs.lemmas.List.{append-nil}
use Rattle.std.proofs.lemmas.List.Sums.{fold-append}
use Rattle.rk_cluster.proofs.Faults.{counts_then, go_on_kept}
use Rattle.rk_settle.specs.Outcomes.{IsStopped}
use Rattle.rk_settle.specs.States.{ClusterTells}
use Rattle.rk_settle.specs.declared.error.SettleError.TheVariants as errors
use Rattle.rk_settle.specs.declared.task.Task.TheVariants as made
use Rattle.rk_settle.proofs.Keeping.{keeps_same, keeps_then}

-- a command stopped after some moves, and clients have said this
pub record StopsAfter {R : Type 0} (segments : R → Option Segments) (faults : R → ℕ) (old new : ClusterState R) (left : List Task) (progress : Progress) (has : List Said) (error : SettleError) : Type 0 where
  pub fates : List Fate
  pub counts : CountsGoOn faults fates old new
  pub stopped : (start : Cluster) (had : List Said) (course : Course) → IsCourse segments start had old left progress course
      → IsStopped segments start new had has error (moved_all course fates)

-- clients have said this after some moves
pub record SaysAfter {R : Type 0} (segments : R → Option Segments) (faults : R → ℕ) (old new : ClusterState R) (left : List Task) (progress : Progress) (has : List Said) : Type 0 where
  pub fates : List Fate
  pub counts : CountsGoOn faults fates old new
  pub said : (start : Cluster) (had : List Said) (course : Course) → IsCourse segments start had old left progress course
      → had ++ (moved_all course fates).said ≡ has

-- so if a lane is worn or replicas failed; if memory was wanting, or it made more moves than are counted, only what clients said is known
abbrev pub StopsIn : {R : Type 0} → (R → Option Segments) → (R → ℕ) → ClusterState R → ClusterState R → List Task → Progress → List Said → SettleError → Type 0
StopsIn segments faults old new left progress has errors.NoMemory = SaysAfter segments faults old new left progress has
StopsIn segments faults old new left progress has errors.TooLong = SaysAfter segments faults old new left progress has
StopsIn segments faults old new left progress has error = StopsAfter segments faults old new left progress has error

-- a smaller number is below a limit
below_limit : (limit count : ℕ) → count < limit → nat_le limit count ≡ false
below_limit limit count below = lt-leb limit count below

-- a task makes no occurrence, and neither begins nor ends a round
pub record Unfolds (task : Task) : Type 0 where
  pub occurs : (lane : ℕ) (act : Act) → task ≡ made.Occurs lane act → ⊥
  pub delivers : (lane number : ℕ) → task ≡ made.Delivers lane number → ⊥
  pub begins : task ≡ made.Begins → ⊥
  pub ends : task ≡ made.Ends → ⊥

module _ {R : Type 0} (segments : R → Option Segments) (faults : R → ℕ) (state : ClusterState R) where
  -- a round begins
  pub begins_moves : (task : Task) (rest : List Task) (was is : Progress) → task ≡ made.Begins → was.faults < MOST_FAULTS → is ≡ was
      → Moves segments faults state state (task ∷ rest) rest was is
  begins_moves task rest was is begins below same = record {
    fate = Kept;
    counts = go_on_kept (counts_in faults state.lanes) (counts_in faults state.lanes) (counts_same faults state);
    kept = subst (λ (progress : Progress). Keeps was.said.items progress.said.items) (sym same) (keeps_same was.said.items);
    moves = λ start had course stands.
        subst (λ (left : List Task). IsCourse segments start had state rest is (moved_by course Kept left)) (sym (stands.tasks ∙ ap (λ (first : Task). first ∷ rest) begins))
        (subst (λ (b : Bool). IsCourse segments start had state rest is (if b then course else with_tasks course rest))
        (sym (ap (nat_le MOST_FAULTS) stands.faults ∙ below_limit MOST_FAULTS was.faults below))
        (subst (λ (progress : Progress). IsCourse segments start had state rest progress (with_tasks course rest)) (sym same)
        (record { cluster = stands.cluster; leads = stands.leads; tasks = refl; said = stands.said; faults = stands.faults; failing = stands.failing })));
  }

  -- a round is over
  pub ends_moves : (task : Task) (rest : List Task) (was is : Progress) → task ≡ made.Ends
      → is ≡ (record was { faults = was.faults + (if was.failing then 1 else 0); failing = false }) → Moves segments faults state state (task ∷ rest) rest was is
  ends_moves task rest was is ends so = record {
    fate = Kept;
    counts = go_on_kept (counts_in faults state.lanes) (counts_in faults state.lanes) (counts_same faults state);
    kept = subst (λ (progress : Progress). Keeps was.said.items progress.said.items) (sym so) (keeps_same was.said.items);
    moves = λ start had course stands.
        subst (λ (left : List Task). IsCourse segments start had state rest is (moved_by course Kept left)) (sym (stands.tasks ∙ ap (λ (first : Task). first ∷ rest) ends))
        (subst (λ (progress : Progress). IsCourse segments start had state rest progress (round_over course rest)) (sym so)
        (record {
          cluster = stands.cluster;
          leads = stands.leads;
          tasks = refl;
          said = stands.said;
          faults = ap (λ (count : ℕ). count + (if course.failing then 1 else 0)) stands.faults ∙ ap (λ (b : Bool). was.faults + (if b then 1 else 0)) stands.failing;
          failing = refl;
        }));
  }

  -- a task unfolds
  pub unfolds_moves : (task : Task) (rest after : List Task) (progress : Progress) → Unfolds task
      → ClusterTells segments state (λ cluster. unfolded cluster task ++ rest) after → Moves segments faults state state (task ∷ rest) after progress progress
  unfolds_moves task rest after progress unfolds tells = grind (arith, go_on_kept, counts_in, counts_same, keeps_same, moved_by)

  -- a command stops if a round is to begin and replicas have failed too often
  pub begins_stops : (task : Task) (rest : List Task) (progress : Progress) (e : SettleError) → task ≡ made.Begins → e ≡ errors.Replica progress.faults → MOST_FAULTS ≤ progress.faults
      → Stops segments state state (task ∷ rest) progress e
  begins_stops task rest progress e begins is above = grind (arith, error_by, nat_le, le-leb)

module _ {R : Type 0} (segments : R → Option Segments) (faults : R → ℕ) where
  -- no move yet
  pub none_moved : (state : ClusterState R) (left : List Task) (progress : Progress) → MovesAll segments faults state state left left progress progress
  none_moved state left progress = grind (arith, counts_same, keeps_same)

  -- more moves
  pub more_moved : (begun now next : ClusterState R) (first left after : List Task) (was is later : Progress) → MovesAll segments faults begun now first left was is
      → MovesAll segments faults now next left after is later → MovesAll segments faults begun next first after was later
  more_moved begun now next first left after was is later all more = record {
    fates = all.fates ++ more.fates;
    counts = counts_then faults all.fates more.fates begun now next all.counts more.counts;
    kept = keeps_then was.said.items is.said.items later.said.items all.kept more.kept;
    moves = λ start had course stands.
        subst (λ (it : Course). IsCourse segments start had next after later it) (sym (fold-append moved course all.fates more.fates))
        (more.moves start had (moved_all course all.fates) (all.moves start had course stands));
  }

  -- one move
  pub one_moved : (old new : ClusterState R) (before after : List Task) (was is : Progress) → Moves segments faults old new before after was is
      → MovesAll segments faults old new before after was is
  one_moved old new before after was is move = record { fates = move.fate ∷ []; counts = move.counts; kept = move.kept; moves = move.moves }

  -- the counts rose in the moves so far, and fall no more
  counts_on : (begun now next : ClusterState R) (fates : List Fate) → CountsGoOn faults fates begun now → CountsGoOn faults [] now next → CountsGoOn faults fates begun next
  counts_on begun now next fates so on =
      subst (λ (all : List Fate). CountsGoOn faults all begun next) (append-nil fates) (counts_then faults fates [] begun now next so on)

  stops_after : (begun now next : ClusterState R) (first left : List Task) (was is : Progress) (e : SettleError) → (all : MovesAll segments faults begun now first left was is)
      → CountsGoOn faults [] now next
      → ((start : Cluster) (had : List Said) (course : Course) → IsCourse segments start had now left is course → IsStopped segments start next had is.said.items e course)
      → StopsAfter segments faults begun next first was is.said.items e
  stops_after begun now next first left was is e all on stops = record {
    fates = all.fates;
    counts = counts_on begun now next all.fates all.counts on;
    stopped = λ start had course stands. stops start had (moved_all course all.fates) (all.moves start had course stands);
  }

  -- clients have said what they said in the moves so far
  pub says_after : (begun now next : ClusterState R) (first left : List Task) (was is : Progress) → MovesAll segments faults begun now first left was is
      → CountsGoOn faults [] now next → SaysAfter segments faults begun next first was is.said.items
  says_after begun now next first left was is all on = record {
    fates = all.fates;
    counts = counts_on begun now next all.fates all.counts on;
    said = λ start had course stands. (all.moves start had course stands).said;
  }

  -- what stops now stops after the moves so far
  pub stops_in : (begun now next : ClusterState R) (first left : List Task) (was is : Progress) (e : SettleError) → MovesAll segments faults begun now first left was is
      → CountsGoOn faults [] now next → Stops segments now next left is e → StopsIn segments faults begun next first was is.said.items e
  stops_in begun now next first left was is errors.NoMemory all on stops = says_after begun now next first left was is all on
  stops_in begun now next first left was is errors.TooLong all on stops = says_after begun now next first left was is all on
  stops_in begun now next first left was is (errors.Worn number) all on stops = search (stops_after, errors.Worn)
  stops_in begun now next first left was is (errors.Replica rounds) all on stops = search (stops_after, errors.Replica)
