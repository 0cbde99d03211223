-- How a drive ends, by how its settling came out.
use Rattle.rk_conclude.proofs.Words.{arith, ◌≡◌, ℕ, Bool, List, Option, None, Some, refl, Receipt, Status, Segments, Cluster, ClusterState}
use Rattle.rk_conclude.proofs.Words.{IsOf, EndsSo, WritesReport, audit_status}
use Rattle.rk_types.specs.declared.node.Said.{Said}
use Rattle.rk_types.specs.declared.status.Status.TheVariants as statuses
use Rattle.rk_settle.specs.Outcomes.{Ends, Fails, StopsBefore}
use Rattle.rk_settle.specs.Settle.{settle}
use Rattle.rk_settle.specs.declared.error.SettleError.{SettleError}
use Rattle.rk_settle.specs.declared.error.SettleError.TheVariants as errors
use Rattle.rk_conclude.specs.Concluded.{ComesToRest, StopsFor, settling, stop_status}

-- clusters in code with the same lanes and the same sessions are one
pub same_state : {R : Type 0} (a b : ClusterState R) → a.lanes ≡ b.lanes → a.sessions ≡ b.sessions → a ≡ b
same_state a b lanes sessions = λ i. record { lanes = lanes i; sessions = sessions i }

-- an audit gives neither of the statuses of settling that stops
never_worn : (wrong : Option Receipt) → statuses.Worn ≡ audit_status wrong → ⊥
never_worn None is = cc is
never_worn (Some wrong) is = cc is

never_faulty : (wrong : Option Receipt) → statuses.ReplicaFault ≡ audit_status wrong → ⊥
never_faulty None is = cc is
never_faulty (Some wrong) is = cc is

module _ {R : Type 0} (segments : R → Option Segments) (faults : R → ℕ) (old new : ClusterState R) (start : Cluster) (is : IsOf segments old start) (had has : List Said) where
  stops_for : (error : SettleError) → StopsBefore segments faults old new settle had has error → StopsFor segments start new error
  stops_for error stops = grind arith

  -- settling stopped, and nothing was written
  pub ends_stopped : (error : SettleError) (history : Bool) (was : Option (List ℕ)) → Fails segments faults old new settle had has error
      → EndsSo segments start history was was new (stop_status error)
  ends_stopped errors.NoMemory history was fails = refl
  ends_stopped errors.TooLong history was fails = refl
  ends_stopped (errors.Worn number) history was fails = (number, stops_for (errors.Worn number) fails, refl)
  ends_stopped (errors.Replica rounds) history was fails = (rounds, stops_for (errors.Replica rounds) fails, refl)

  module _ (ends : Ends segments faults old new settle had has) (history : Bool) (was now : Option (List ℕ)) where
    -- it came to its end, and a report was written of each cluster that is at rest then
    abbrev pub Writes : Status → Type 0
    Writes status = (whole : Cluster) → IsOf segments new whole → WritesReport history was now status whole

    at_rest : (status : Status) → Writes status → ComesToRest segments start new (WritesReport history was now status)
    at_rest status writes =
        let over = ends.over start is in
        record {
          fates = ends.fates;
          settled = record { is = over.cluster; leads = over.leads };
          over = over.left;
          rests = writes (settling start ends.fates).cluster over.cluster;
        }

    pub ends_at_rest : (status : Status) → Writes status → EndsSo segments start history was now new status
    ends_at_rest statuses.Done writes = at_rest statuses.Done writes
    ends_at_rest statuses.Refused writes = at_rest statuses.Refused writes
    ends_at_rest statuses.Usage writes = at_rest statuses.Usage writes
    ends_at_rest statuses.ReadFault writes = at_rest statuses.ReadFault writes
    ends_at_rest statuses.WriteFault writes = at_rest statuses.WriteFault writes
    ends_at_rest statuses.NoMemory writes = (at_rest statuses.NoMemory writes).rests
    ends_at_rest statuses.ReplicaFault writes = let it = (at_rest statuses.ReplicaFault writes).rests in absurd (never_faulty it.1.wrong it.1.status_is)
    ends_at_rest statuses.Audit writes = at_rest statuses.Audit writes
    ends_at_rest statuses.Worn writes = let it = (at_rest statuses.Worn writes).rests in absurd (never_worn it.1.wrong it.1.status_is)
