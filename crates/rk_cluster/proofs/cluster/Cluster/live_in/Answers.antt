use Rattle.rk_cluster.proofs.Words.{◌≡◌, ℕ, All, Option, IfSome, sym, ap, subst, ◌∙◌, arith, IfOk-weaker, numbers, IsMaster, World}
use Rattle.rk_cluster.proofs.Words.{live_masters, new_world, Running, masters_of, ClusterState, IsOf, live_in}
use Rattle.rk_cluster.proofs.Counting.{masters_are}
use Rattle.rk_cluster.proofs.Worlds.{masters_at, there_read, world_at}
use Rattle.rk_cluster.proofs.cluster.Cluster.live_in.Goals as goal

pub live_in-requires : goal.live_in-requires
live_in-requires g c =
    let lanes = c.self.inside.lanes.items in
    masters_at c.self.inside.masters 0 lanes c.args.lane c.index.result.now (there_read lanes c.args.lane c.index.result.now (omega (arith, c.requires, c.self.invariant.count)) c.index.ensures)
    c.self.invariant.lanes

pub returns-clause-there : goal.returns-clause-there
returns-clause-there g c =
    IfOk-weaker c.live_in.result _ _
    (λ live there.
    subst (λ (count : ℕ). All (IsMaster count) live.items)
    (sym (masters_are c.self.inside.masters c.self.inside.lanes.items c.self.invariant.lanes c.self.invariant.count)
    ∙ ap (λ (state : ClusterState g.row.R.Denot). masters_of state) c.self.view_is)
    there)
    c.live_in.ensures.there

pub returns-clause-live : goal.returns-clause-live
returns-clause-live g c =
    let lanes = c.self.inside.lanes.items in
    let at = c.index.result.now in
    let there = there_read lanes c.args.lane at (omega (arith, c.requires, c.self.invariant.count)) c.index.ensures in
    IfOk-weaker c.live_in.result _ _
    (λ live known cluster is.
    let stands = subst (λ (state : ClusterState g.row.R.Denot). IsOf g.R.Replica.segments state cluster) (sym c.self.view_is) is in
    let world = world_at g.R.Replica.segments lanes cluster.lanes c.args.lane at (new_world c.args.lane 0 0) stands.lanes there in
    ap (λ (w : World). numbers (live_masters w)) world.is
    ∙ sym (subst (λ (o : Option Running). IfSome o (λ running. live.items ≡ live_in at running)) world.runs known))
    c.live_in.ensures.live
