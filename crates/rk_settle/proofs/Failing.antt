-- In how many rounds of a command replicas failed, by their counts of faults.
use Rattle.rk_settle.proofs.Words.{◌≡◌, ◌≤◌, ◌+◌, ◌||◌, ◌++◌, ℕ, Bool, true, false, if◌then◌else◌, List, [], ◌∷◌, length, refl, sym, subst}
use Rattle.rk_settle.proofs.Words.{arith, All-append, All-cons, All-nil, CountsGoOn, counts_in, Fate, ClusterState, FailsInRounds}
use Rattle.rk_settle.proofs.Words.{failed_rounds, Progress}
use Rattle.std.proofs.lemmas.List.{append-nil, length-append}
use Rattle.rk_cluster.specs.Faults.{SomeLaneFailed}
use Rattle.rk_cluster.specs.Replicas.{IsLost, Lost}
use Rattle.rk_cluster.specs.declared.error.ClusterError.{ClusterError}
use Rattle.rk_cluster.specs.declared.error.ClusterError.TheVariants as causes
use Rattle.rk_cluster.proofs.Faults.{counts_none, go_on_same, go_on_then}
use Rattle.rk_settle.specs.Failures.{failure_by}
use Rattle.rk_settle.specs.Faults.{IsOfReplicas, KeepsUp}

-- no error of a cluster says that replicas failed too often
pub of_no_replica : (e : ClusterError) → IsOfReplicas (failure_by e) → ⊥
of_no_replica e is = grind arith

module _ {R : Type 0} (faults : R → ℕ) where
  -- ---- rounds in which a replica failed

  -- none so far
  pub in_no_round : (state : ClusterState R) → FailsInRounds faults 0 state state
  in_no_round state = record { failed = []; are_lost = All-nil IsLost; often = omega arith; rose = go_on_same (counts_in faults state.lanes) }

  -- they failed in fewer as well
  pub in_fewer : (fewer rounds : ℕ) (start now : ClusterState R) → fewer ≤ rounds → FailsInRounds faults rounds start now → FailsInRounds faults fewer start now
  in_fewer fewer rounds start now less it =
      record { failed = it.failed; are_lost = it.are_lost; often = omega (arith, less, it.often); rose = it.rose }

  -- and no count falls
  pub rounds_counted : (rounds : ℕ) (start now : ClusterState R) → FailsInRounds faults rounds start now → CountsGoOn faults [] start now
  rounds_counted rounds start now it = counts_none faults it.failed start now it.rose

  -- no more meanwhile
  pub in_as_many : (rounds : ℕ) (start now next : ClusterState R) → FailsInRounds faults rounds start now → CountsGoOn faults [] now next → FailsInRounds faults rounds start next
  in_as_many rounds start now next it on = grind (arith, counts_in, append-nil, go_on_then)

  -- once more
  pub in_one_more : (rounds : ℕ) (start now next : ClusterState R) → FailsInRounds faults rounds start now → SomeLaneFailed faults now.lanes next.lanes
      → FailsInRounds faults (rounds + 1) start next
  in_one_more rounds start now next it once =
      let last : List Fate = Lost once.lane once.place once.left ∷ [] in
      let count : length (it.failed ++ last) ≡ length it.failed + 1 = length-append it.failed last in
      record {
        failed = it.failed ++ last;
        are_lost = All-append IsLost it.failed last it.are_lost (All-cons IsLost (Lost once.lane once.place once.left) [] tt (All-nil IsLost));
        often = omega (arith, count, it.often);
        rose = go_on_then it.failed last (counts_in faults start.lanes) (counts_in faults now.lanes) (counts_in faults next.lanes) it.rose once.rose;
      }

  -- ---- moves

  -- if no round more has failed
  pub keeps_up : (old new : ClusterState R) (was is : Progress) → failed_rounds is ≡ failed_rounds was → CountsGoOn faults [] old new → KeepsUp faults old new was is
  keeps_up old new was is same on start before =
      subst (λ (rounds : ℕ). FailsInRounds faults rounds start new) (sym same) (in_as_many (failed_rounds was) start old new before on)

  -- if one has, in which none had
  keeps_up_by : (failed failing : Bool) (old new start : ClusterState R) (count : ℕ) → CountsGoOn faults [] old new
      → (failed ≡ true → SomeLaneFailed faults old.lanes new.lanes) → FailsInRounds faults (count + (if failing then 1 else 0)) start old
      → FailsInRounds faults (count + (if (failing || failed) then 1 else 0)) start new
  keeps_up_by failed true old new start count on once before = in_as_many (count + 1) start old new before on
  keeps_up_by true false old new start count on once before =
      in_fewer (count + 1) (count + 0 + 1) start new (omega arith) (in_one_more (count + 0) start old new before (once refl))
  keeps_up_by false false old new start count on once before = in_as_many (count + 0) start old new before on

  pub keeps_up_once : (failed : Bool) (old new : ClusterState R) (was is : Progress) → is.faults ≡ was.faults → is.failing ≡ (was.failing || failed)
      → CountsGoOn faults [] old new → (failed ≡ true → SomeLaneFailed faults old.lanes new.lanes) → KeepsUp faults old new was is
  keeps_up_once failed old new was is same so on once start before = grind (arith, keeps_up_by)

  -- a command that stops since replicas failed in so many rounds
  pub failed_often : (rounds : ℕ) (start now next : ClusterState R) (progress : Progress) → rounds ≤ progress.faults → FailsInRounds faults (failed_rounds progress) start now
      → CountsGoOn faults [] now next → FailsInRounds faults rounds start next
  failed_often rounds start now next progress often before on =
      in_fewer rounds (failed_rounds progress) start next (omega (arith, often)) (in_as_many (failed_rounds progress) start now next before on)
