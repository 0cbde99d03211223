-- How a command in code comes to its end, or stops.
use Rattle.rk_settle.proofs.Words.{arith}
use Rattle.rk_settle.proofs.Words.{◌≡◌, ℕ, ◌≤◌, false, List, [], ◌++◌, length, map, Option, sym, ap, ◌∙◌, range_with_len, LANES, Said}
use Rattle.rk_settle.proofs.Words.{Segments, Cluster, masters_of, ClusterState, IsOf, counts_same, same_count, course_of, FailsInRounds}
use Rattle.rk_settle.proofs.Words.{failed_rounds, AreTasks, Fails, lane_numbers, IsCourse, MovesAll, Progress, SettleError, Task}
use Rattle.std.proofs.lemmas.List.{append-nil}
use Rattle.rk_cluster.specs.Masters.{backups_of}
use Rattle.rk_cluster.proofs.Leading.{leads_nowhere}
use Rattle.rk_settle.specs.Outcomes.{Ends, SaidSoFar, StopsBefore}
use Rattle.rk_settle.specs.States.{ClusterTells, EightTell}
use Rattle.rk_settle.specs.declared.error.SettleError.TheVariants as errors
use Rattle.rk_settle.proofs.Moving.{SaysAfter, StopsAfter, StopsIn}

-- no replica has failed yet
pub record IsFresh (progress : Progress) : Type 0 where
  pub faults : progress.faults ≡ 0
  pub failing : progress.failing ≡ false

-- how far a command has run: what has moved, the tasks that are left are lawful, a fault counts for a move at most, each lane has as many
-- masters and backups, and in each round in which a replica failed the count of one rose
pub record IsRunning {R : Type 0} (segments : R → Option Segments) (faults : R → ℕ) (start now : ClusterState R) (first left : List Task) (was is : Progress) (count : ℕ) : Type 0 where
  pub eight : length start.lanes ≡ LANES
  pub moves : MovesAll segments faults start now first left was is
  pub lawful : AreTasks (masters_of start) left
  pub few : is.faults ≤ count
  pub masters : masters_of now ≡ masters_of start
  pub backups : backups_of now ≡ backups_of start
  pub counts : FailsInRounds faults (failed_rounds is) start now

module _ {R : Type 0} (segments : R → Option Segments) (faults : R → ℕ) (old new : ClusterState R) (command : Cluster → List Task) (left : List Task) (was : Progress) (fresh : IsFresh was)
    (eight : length old.lanes ≡ LANES) (tells : EightTell segments old command left) where
  -- a command begins
  begun : (cluster : Cluster) → IsOf segments old cluster → IsCourse segments cluster was.said.items old left was (course_of cluster (command cluster))
  begun cluster stands = grind (arith, leads_nowhere, same_count, append-nil)

  -- it is over once no task is left
  pub ends_by : (after : List Task) (is : Progress) → after ≡ [] → MovesAll segments faults old new left after was is
      → Ends segments faults old new command was.said.items is.said.items
  ends_by after is none all = record {
    fates = all.fates;
    counts = all.counts;
    over = λ cluster stands.
        let it = all.moves cluster was.said.items (course_of cluster (command cluster)) (begun cluster stands) in
        record { cluster = it.cluster; leads = it.leads; left = it.tasks ∙ none; said = it.said };
  }

  -- or stops
  stops_before : (has : List Said) (e : SettleError) → StopsAfter segments faults old new left was has e → StopsBefore segments faults old new command was.said.items has e
  stops_before has e it = search (course_of, begun, it.fates, it.counts, it.stopped)

  said_so_far : (has : List Said) → SaysAfter segments faults old new left was has → SaidSoFar segments faults old new command was.said.items has
  said_so_far has it = record {
    fates = it.fates;
    counts = it.counts;
    said = λ cluster stands. it.said cluster was.said.items (course_of cluster (command cluster)) (begun cluster stands);
  }

  pub fails_by : (has : List Said) (e : SettleError) → StopsIn segments faults old new left was has e → Fails segments faults old new command was.said.items has e
  fails_by has e it = grind (arith, said_so_far, stops_before)

-- a command that has made no move: nothing more is said
pub nothing_said : {R : Type 0} (segments : R → Option Segments) (faults : R → ℕ) (state : ClusterState R) (command : Cluster → List Task) (had : List Said)
    → SaidSoFar segments faults state state command had had
nothing_said segments faults state command had = record { fates = []; counts = counts_same faults state; said = λ cluster stands. append-nil had }

module _ {R : Type 0} (segments : R → Option Segments) (state : ClusterState R) where
  -- tasks for all lanes, and more behind them
  pub each_tells : (make : ℕ → Task) (more all left : List Task) → all ≡ map make (range_with_len 0 LANES) → left ≡ all ++ more
      → EightTell segments state (λ cluster. map make (lane_numbers cluster) ++ more) left
  each_tells make more all left all_is left_is cluster stands eight =
      ap (λ (count : ℕ). map make (range_with_len 0 count) ++ more) eight ∙ ap (λ (list : List Task). list ++ more) (sym all_is) ∙ sym left_is

  -- what is seen anyway is seen if a cluster has eight lanes
  pub tells_anyway : (command : Cluster → List Task) (left : List Task) → ClusterTells segments state command left → EightTell segments state command left
  tells_anyway command left tells cluster stands eight = tells cluster stands
