use Rattle.rk_cluster.proofs.Words.{◌≡◌, ◌*◌, ℕ, map, sym, ap, ◌∙◌, arith, IfOk-weaker, LANES, LaneState, replicas_of, backups_of}
use Rattle.rk_cluster.proofs.Words.{ClusterState}
use Rattle.rk_cluster.proofs.Counting.{backups_are, each_backed}
use Rattle.rk_cluster.proofs.Gathers.{gathered_of, hands_many}
use Rattle.rk_cluster.proofs.cluster.Cluster.into_replicas.Goals as goal

pub returns-clause-count : goal.returns-clause-count
returns-clause-count g c =
    let its = hands_many c.self.inside.backups c.in_ok-hands.hands.items c.self.inside.lanes.items c.in_ok-hands.ensures (each_backed c.self.inside.backups c.self.inside.lanes.items LANES c.self.invariant.backups) in
    let same : c.self.inside.backups ≡ backups_of c.args.self =
    sym (backups_are c.self.inside.backups c.self.inside.lanes.items c.self.invariant.backups) ∙ ap (λ (state : ClusterState g.row.R.Denot). backups_of state) c.self.view_is in
    IfOk-weaker c.gather.result _ _
    (λ replicas gathered. gathered c.self.inside.backups (omega arith) its ∙ ap (λ (count : ℕ). LANES * count) same)
    c.gather.ensures.count

pub returns-clause-order : goal.returns-clause-order
returns-clause-order g c =
    let its = hands_many c.self.inside.backups c.in_ok-hands.hands.items c.self.inside.lanes.items c.in_ok-hands.ensures (each_backed c.self.inside.backups c.self.inside.lanes.items LANES c.self.invariant.backups) in
    let lanes = ap (λ (state : ClusterState g.row.R.Denot). map (λ (lane : LaneState g.row.R.Denot). replicas_of lane.backups) state.lanes) c.self.view_is in
    IfOk-weaker c.gather.result _ _
    (λ replicas gathered.
    gathered_of c.in_ok-hands.hands.items c.args.self.lanes replicas.items (c.in_ok-hands.ensures ∙ lanes) (gathered c.self.inside.backups (omega arith) its))
    c.gather.ensures.dealt
