-- The sessions may act in the lanes of the cluster that they came out of.
use Rattle.rk_cluster.proofs.Words.{ℕ, sym, subst, masters_of, ClusterState, MayAllAct}
use Rattle.rk_cluster.proofs.Counting.{masters_are}
use Rattle.rk_cluster.proofs.cluster.Cluster.into_parts.Goals as goal

pub returns-clause-acts : goal.returns-clause-acts
returns-clause-acts g c =
    let sessions = c.self.inside.sessions.entries in
    subst (λ (state : ClusterState g.row.R.Denot). MayAllAct (masters_of state) sessions) c.self.view_is
    (subst (λ (count : ℕ). MayAllAct count sessions)
    (sym (masters_are c.self.inside.masters c.self.inside.lanes.items c.self.invariant.lanes c.self.invariant.count)) c.self.invariant.sessions)
