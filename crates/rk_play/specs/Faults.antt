-- How often the replicas of a run have failed.
use Rattle.std.specs.Prelude.{ℕ, ⊤}
use Rattle.rk_cluster.specs.State.{ClusterState}
use Rattle.rk_settle.specs.Course.{MOST_FAULTS}
use Rattle.rk_settle.specs.Faults.{FailsInRounds}
use Rattle.rk_play.specs.declared.end.End.{End}
use Rattle.rk_play.specs.declared.end.End.TheVariants as ends
use Rattle.rk_play.specs.declared.error.PlayError.{PlayError}
use Rattle.rk_play.specs.declared.error.PlayError.TheVariants as errors

-- an error says that replicas failed in too many rounds
abbrev pub IsOfReplicas : PlayError → Type 0
IsOfReplicas (errors.Replica rounds) = ⊤
IsOfReplicas error = ⊥

-- so it does only after as many rounds as there may be, in each of which the count of some replica rose
abbrev pub HasFaults : {R : Type 0} → (R → ℕ) → ClusterState R → ClusterState R → PlayError → Type 0
HasFaults faults old new error = IsOfReplicas error → FailsInRounds faults MOST_FAULTS old new

-- a run ended since replicas failed in too many rounds
abbrev pub EndsByReplicas : End → Type 0
EndsByReplicas (ends.Stopped line error) = IsOfReplicas error
EndsByReplicas end = ⊥
