use Rattle.rk_cluster.proofs.Words.{sym, subst, ◌∙◌, arith, lane_at, new_world, ClusterState}
use Rattle.rk_cluster.specs.Turns.{IsIdleIn}
use Rattle.rk_cluster.proofs.Idle.{none_asks, rests_there}
use Rattle.rk_cluster.proofs.Worlds.{there_read, world_at}
use Rattle.rk_cluster.proofs.cluster.Cluster.rests_in.Goals as goal

pub returns-then-are_elsewhere : goal.returns-then-are_elsewhere
returns-then-are_elsewhere g c =
    let lanes = c.self.inside.lanes.items in
    let at = c.index.result.now in
    let there = there_read lanes c.args.lane at (omega (arith, c.requires, c.self.invariant.count)) c.index.ensures in
    λ rests.
    subst (λ (state : ClusterState g.row.R.Denot). IsIdleIn g.R.Replica.segments state c.args.lane) c.self.view_is
    (record {
      there = omega (arith, c.requires, c.self.invariant.count);
      clients = none_asks c.args.lane c.self.inside.sessions.entries (sym c.are_elsewhere.ensures ∙ c.if-are_elsewhere.true);
      nodes = λ cluster is.
          rests_there g.R.Replica.segments at (lane_at cluster c.args.lane)
          (world_at g.R.Replica.segments lanes cluster.lanes c.args.lane at (new_world c.args.lane 0 0) is.lanes there) (c.rests.ensures rests);
    })
