use Rattle.rk_cluster.proofs.Words.{ap, sym, ◌∙◌, masters_of, ClusterState}
use Rattle.rk_cluster.proofs.Counting.{masters_are}
use Rattle.rk_cluster.proofs.cluster.Cluster.ask_in.Goals as goal

pub ask_in-requires-clause-session : goal.ask_in-requires-clause-session
ask_in-requires-clause-session g c = rw (← c.self.view_is) at c.requires.session

pub returns-clause-ok : goal.returns-clause-ok
returns-clause-ok g c = rw (← c.self.view_is) c.ask_in.ensures.ok

pub returns-clause-err : goal.returns-clause-err
returns-clause-err g c = rw (← c.self.view_is) c.ask_in.ensures.err

pub returns-clause-masters : goal.returns-clause-masters
returns-clause-masters g c =
    let masters = c.self.inside.masters in
    masters_are masters c.ask_in.new.lanes.items c.ask_in.ensures.lanes (c.ask_in.ensures.count ∙ c.self.invariant.count)
    ∙ sym (masters_are masters c.self.inside.lanes.items c.self.invariant.lanes c.self.invariant.count)
    ∙ ap (λ (state : ClusterState g.row.R.Denot). masters_of state) c.self.view_is

pub returns-clause-short : goal.returns-clause-short
returns-clause-short g c = rw (← c.self.view_is) c.ask_in.ensures.short
