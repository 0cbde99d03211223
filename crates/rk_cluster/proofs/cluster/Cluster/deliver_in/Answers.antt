use Rattle.rk_cluster.proofs.Words.{ap, sym, ◌∙◌, masters_of, ClusterState}
use Rattle.rk_cluster.proofs.Counting.{masters_are}
use Rattle.rk_cluster.proofs.cluster.Cluster.deliver_in.Goals as goal

pub returns-clause-masters : goal.returns-clause-masters
returns-clause-masters g c =
    let masters = c.self.inside.masters in
    masters_are masters c.deliver_in.new.lanes.items c.deliver_in.ensures.lanes (c.deliver_in.ensures.count ∙ c.self.invariant.count)
    ∙ sym (masters_are masters c.self.inside.lanes.items c.self.invariant.lanes c.self.invariant.count)
    ∙ ap (λ (state : ClusterState g.row.R.Denot). masters_of state) c.self.view_is
