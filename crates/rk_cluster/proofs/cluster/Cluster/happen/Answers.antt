use Rattle.rk_cluster.proofs.Words.{ℕ, None, Some, sym, ap, subst, ◌∙◌, on_err_weaker, on_ok_weaker, IfErr-weaker, MayHappen, new_world}
use Rattle.rk_cluster.proofs.Words.{masters_of, ClusterState}
use Rattle.rk_cluster.proofs.Counting.{comes_at, masters_are}
use Rattle.rk_cluster.proofs.Deeds.{happens_plain}
use Rattle.rk_cluster.proofs.Heard.{worn_weaker}
use Rattle.rk_cluster.proofs.Shortage.{lanes_short}
use Rattle.rk_cluster.proofs.cluster.Cluster.happen.Goals as goal

pub act-requires-clause-may : goal.act-requires-clause-may
act-requires-clause-may g c =
    comes_at c.self.inside.masters c.self.inside.lanes.items c.args.lane c.args.event c.requires.plain
    (subst (λ (count : ℕ). MayHappen (new_world 0 count 0) c.args.event) (masters_are c.self.inside.masters c.self.inside.lanes.items c.self.invariant.lanes c.self.invariant.count)
    (rw (← c.self.view_is) at c.requires.may)) c.self.invariant.lanes

pub returns-clause-ok : goal.returns-clause-ok
returns-clause-ok g c =
    rw (← c.self.view_is)
    (on_ok_weaker c.act.result (λ came. happens_plain g.R.Replica.segments _ _ _ _ None c.requires.plain came c.self.inside.sessions.entries) c.act.ensures.ok)

pub returns-clause-err : goal.returns-clause-err
returns-clause-err g c =
    rw (← c.self.view_is)
    (IfErr-weaker c.act.result _ _ (λ e. worn_weaker _ _ e (λ number came.
    happens_plain g.R.Replica.segments _ _ _ _ (Some number) c.requires.plain came c.self.inside.sessions.entries)) c.act.ensures.err)

pub returns-clause-masters : goal.returns-clause-masters
returns-clause-masters g c =
    let masters = c.self.inside.masters in
    masters_are masters c.act.new.lanes.items (c.act.ensures.lanes masters c.self.invariant.lanes) (c.act.ensures.count ∙ c.self.invariant.count)
    ∙ sym (masters_are masters c.self.inside.lanes.items c.self.invariant.lanes c.self.invariant.count)
    ∙ ap (λ (state : ClusterState g.row.R.Denot). masters_of state) c.self.view_is

pub returns-clause-short : goal.returns-clause-short
returns-clause-short g c =
    on_err_weaker c.act.result (λ but. rw (← c.self.view_is) (lanes_short _ _ c.self.inside.sessions.entries but)) c.act.ensures.short
