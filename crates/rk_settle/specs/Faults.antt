-- How often the replicas of a cluster fail in a settling command.
use Rattle.std.specs.Prelude.{ℕ, ◌+◌, ◌≤◌, if◌then◌else◌, List, All, length, ⊤}
use Rattle.rk_cluster.specs.Faults.{Counts, GoOn, counts_in}
use Rattle.rk_cluster.specs.Replicas.{Fate, IsLost}
use Rattle.rk_cluster.specs.State.{ClusterState}
use Rattle.rk_settle.specs.Course.{MOST_FAULTS}
use Rattle.rk_settle.specs.declared.course.Progress.{Progress}
use Rattle.rk_settle.specs.declared.error.SettleError.{SettleError}
use Rattle.rk_settle.specs.declared.error.SettleError.TheVariants as errors

-- an error says that replicas failed in too many rounds
abbrev pub IsOfReplicas : SettleError → Type 0
IsOfReplicas (errors.Replica rounds) = ⊤
IsOfReplicas error = ⊥

-- in so many rounds some replica failed, whose count of faults rose then
pub record RoseInRounds (rounds : ℕ) (before now : Counts) : Type 0 where
  -- a replica of each of these rounds
  pub failed : List Fate
  pub are_lost : All IsLost failed
  pub often : rounds ≤ length failed
  pub rose : GoOn failed before now

-- so it was in the lanes of a cluster
abbrev pub FailsInRounds : {R : Type 0} → (R → ℕ) → ℕ → ClusterState R → ClusterState R → Type 0
FailsInRounds faults rounds old new = RoseInRounds rounds (counts_in faults old.lanes) (counts_in faults new.lanes)

-- so it does only after as many rounds as there may be, in each of which the count of some replica rose
abbrev pub HasFaults : {R : Type 0} → (R → ℕ) → ClusterState R → ClusterState R → SettleError → Type 0
HasFaults faults old new error = IsOfReplicas error → FailsInRounds faults MOST_FAULTS old new

-- in how many rounds a replica failed, the round that runs among them
abbrev pub failed_rounds : Progress → ℕ
failed_rounds progress = progress.faults + (if progress.failing then 1 else 0)

-- a move keeps up with the replicas: if these have failed, from a start on, as often as there were rounds in which one failed, so they
-- have after it
abbrev pub KeepsUp : {R : Type 0} → (R → ℕ) → ClusterState R → ClusterState R → Progress → Progress → Type 0
KeepsUp {R} faults old new was is =
    (start : ClusterState R) → FailsInRounds faults (failed_rounds was) start old → FailsInRounds faults (failed_rounds is) start new
