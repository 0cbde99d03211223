-- Which errors and ends say that replicas failed too often.
use Rattle.rk_play.proofs.Words.{arith, ◌≡◌, ◌≢◌, ℕ, List, [], IfErr, sym, ◌∙◌, ⊎_elim, IsErrAnd, Status, Done, NoMemory, ReplicaFault}
use Rattle.rk_play.proofs.Words.{WriteFault, Cluster, CountsGoOn, ClusterState, Code, ClusterError, MOST_FAULTS, SettleError, WhereRefused}
use Rattle.rk_play.proofs.Words.{Concludes, ConcludesBy, IsWritten, end_by, Played, refused_at, stopped_at, text_of, error_by_cluster}
use Rattle.rk_play.proofs.Words.{error_by_settling, stop_by, End, PlayError}
use Rattle.std.proofs.Common.{Result}
use Rattle.std.specs.Prelude.{Option}
use Rattle.std.proofs.lemmas.Result.{IfErr-weaker}
use Rattle.rk_cluster.specs.declared.error.ClusterError.TheVariants as of_cluster
use Rattle.rk_cluster.proofs.Faults.{go_on_then}
use Rattle.rk_settle.specs.Faults as settling
use Rattle.rk_settle.specs.declared.error.SettleError.TheVariants as of_settling
use Rattle.rk_play.specs.Faults.{EndsByReplicas, HasFaults, IsOfReplicas}
use Rattle.rk_play.specs.declared.end.End.TheVariants as ends
use Rattle.rk_play.specs.declared.error.PlayError.TheVariants as errors

-- ---- errors

-- no error of a cluster does
of_no_replica : (error : ClusterError) → IsOfReplicas (error_by_cluster error) → ⊥
of_no_replica of_cluster.NoMemory is = is
of_no_replica _ is = is

-- an error of a settling command does only if that says so
pub of_settling_replicas : (error : SettleError) → IsOfReplicas (error_by_settling error) → settling.IsOfReplicas error
of_settling_replicas (of_settling.Replica rounds) is = tt
of_settling_replicas _ is = absurd is

pub told_cause : {T U : Type 0} (P : Type 0) (told : Result T ClusterError) (result : Result U PlayError)
    → IfErr result (λ e. e ≢ errors.NoMemory → IsErrAnd told (λ error. e ≡ error_by_cluster error)) → IfErr result (λ e. IsOfReplicas e → P)
told_cause P told result known = grind (arith, error_by_cluster, of_no_replica)

-- nor a refusal
pub refused_apart : (Holds : Code → Type 0) (error : PlayError) → WhereRefused Holds error → IsOfReplicas error → ⊥
refused_apart Holds (errors.Replica rounds) refused is = refused
refused_apart Holds _ refused is = is

-- nor what is never said
pub never_cause : {U : Type 0} (P : Type 0) (result : Result U PlayError) → IfErr result (λ e. IsOfReplicas e → ⊥) → IfErr result (λ e. IsOfReplicas e → P)
never_cause P result never =
    IfErr-weaker result (λ e. IsOfReplicas e → ⊥) (λ e. IsOfReplicas e → P) (λ e its is. absurd (its is)) never

-- ---- ends

-- if a command stops a run since replicas failed too often, they have done so since its start
pub ended_often : {R : Type 0} (faults : R → ℕ) (start mid now : ClusterState R) (line : ℕ) (error : PlayError) (end : End) → end ≡ end_by line error
    → CountsGoOn faults [] start mid → HasFaults faults mid now error → EndsByReplicas end → settling.FailsInRounds faults MOST_FAULTS start now
ended_often faults start mid now line error end same before often is = grind (arith, go_on_then)

-- ---- statuses

-- a text that is written with another status does not come to it
written_apart : (text : List ℕ) (given status : Status) (old new : Option (List ℕ)) → IsWritten text given status old new → status ≡ ReplicaFault
    → given ≡ ReplicaFault
written_apart text given status old new is fault = grind arith

-- nor does a run that is played to another one
concluded_fault : (p : Played) (held : List ℕ) (status : Status) (old new : Option (List ℕ)) → Concludes p held status old new → status ≡ ReplicaFault
    → p.status ≡ ReplicaFault
concluded_fault p held status old new concludes fault = grind (arith, text_of, written_apart)

-- nor does a run that is refused
pub refused_fault : (line code : ℕ) (status : Status) (old new : Option (List ℕ))
    → ((cluster : Cluster) → Concludes (refused_at line code cluster) [] status old new) → status ≡ ReplicaFault → ⊥
refused_fault line code status old new concludes fault =
    let cluster : Cluster = record { lanes = []; sessions = [] } in
    absurd (cc (concluded_fault (refused_at line code cluster) [] status old new (concludes cluster) fault))

stopped_fault : (line : ℕ) (error : PlayError) (cluster : Cluster) → (stopped_at line (stop_by error) cluster).status ≡ ReplicaFault → IsOfReplicas error
stopped_fault line (errors.Replica rounds) cluster fault = tt
stopped_fault line _ cluster fault = absurd (cc fault)

-- a run comes to it only if it ended since replicas failed too often
pub ended_fault : (end : End) (held : List ℕ) (status : Status) (old new : Option (List ℕ)) → ConcludesBy end held status old new → status ≡ ReplicaFault
    → EndsByReplicas end
ended_fault ends.Done held status old new is fault = absurd (cc (written_apart held Done status old new is fault))
ended_fault (ends.Stopped line error) held status old new is fault =
    let cluster : Cluster = record { lanes = []; sessions = [] } in
    stopped_fault line error cluster (concluded_fault (stopped_at line (stop_by error) cluster) held status old new (is cluster) fault)
ended_fault ends.WriteFault held status old new is fault = absurd (cc (sym is.0 ∙ fault))
ended_fault ends.NoMemory held status old new is fault = absurd (cc (sym is.0 ∙ fault))
