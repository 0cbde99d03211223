use Rattle.rk_cluster.proofs.Words.{None, sym, ap, ◌∙◌, masters_of, ClusterState}
use Rattle.rk_cluster.proofs.Counting.{masters_are}
use Rattle.rk_cluster.proofs.Deeds.{happens_plain}
use Rattle.rk_cluster.proofs.cluster.Cluster.lose.Goals as goal

pub returns-clause-acts : goal.returns-clause-acts
returns-clause-acts g c =
    rw (← c.self.view_is) (happens_plain g.R.Replica.segments _ _ _ _ None tt c.lose.ensures.happens c.self.inside.sessions.entries)

pub returns-clause-masters : goal.returns-clause-masters
returns-clause-masters g c =
    let masters = c.self.inside.masters in
    masters_are masters c.lose.new.lanes.items (c.lose.ensures.lanes masters c.self.invariant.lanes) (c.lose.ensures.count ∙ c.self.invariant.count)
    ∙ sym (masters_are masters c.self.inside.lanes.items c.self.invariant.lanes c.self.invariant.count)
    ∙ ap (λ (state : ClusterState g.row.R.Denot). masters_of state) c.self.view_is
