use Rattle.rk_conclude.proofs.Words.{ℕ, All, List, length, sym, ap, subst, ◌∙◌, LaneState, ClusterState, IsOf, MayAllAct, state_of}
use Rattle.rk_cluster.specs.Masters.{HasBackups}
use Rattle.rk_cluster.specs.Steps.{AreLanes}
use Rattle.rk_conclude.proofs.Stopped.{same_state}
use Rattle.rk_conclude.proofs.ending.close.Goals as goal

pub write-status-requires : goal.write-status-requires
write-status-requires g c =
    ap (λ (lanes : List (LaneState g.row.R.Denot)). length lanes) (c.as_slice.ensures.value ∙ c.into_parts-lanes.ensures.lanes) ∙ c.masters-masters.ensures.eight

pub from_parts-requires : goal.from_parts-requires
from_parts-requires g c =
    let same = sym c.into_parts-lanes.ensures.lanes in
    record {
      eight = ap (λ (lanes : List (LaneState g.row.R.Denot)). length lanes) (sym same) ∙ c.masters-masters.ensures.eight;
      lanes = subst (λ (lanes : List (LaneState g.row.R.Denot)). AreLanes c.masters-masters.result 0 lanes) same c.masters-masters.ensures.lanes;
      masters = c.masters-masters.ensures.few;
      backups = subst (λ (lanes : List (LaneState g.row.R.Denot)). All (HasBackups c.backups-backups.result) lanes) same c.backups-backups.ensures.each;
      sessions = subst (λ (masters : ℕ). MayAllAct masters c.into_parts-lanes.result.1.entries) (sym c.masters-masters.ensures.count) c.into_parts-lanes.ensures.acts;
    }

pub returns-clause-same : goal.returns-clause-same
returns-clause-same g c =
    same_state c.from_parts.result c.args.cluster (c.from_parts.ensures.lanes ∙ c.into_parts-lanes.ensures.lanes) (c.from_parts.ensures.sessions ∙ c.into_parts-lanes.ensures.sessions)

pub returns-clause-writes : goal.returns-clause-writes
returns-clause-writes g c = λ whole is.
    c.write-status.ensures.writes whole
    (subst (λ (state : ClusterState g.row.R.Denot). IsOf g.R.Replica.segments state whole)
    (sym (same_state (state_of c.as_slice.result.now c.into_parts-lanes.result.1.entries) c.args.cluster (c.as_slice.ensures.value ∙ c.into_parts-lanes.ensures.lanes) c.into_parts-lanes.ensures.sessions)) is)
