use Rattle.rk_cluster.proofs.Words.{List, slice_get, sym, ap, ◌∙◌, new_cluster, LaneState}
use Rattle.rk_cluster.proofs.NewLanes.{hands_fit, made_backed, made_cluster, made_count, made_here, made_lanes, of_parts}
use Rattle.rk_cluster.proofs.cluster.Cluster.with_replicas.Goals as goal

pub new_lanes-requires-clause-each : goal.new_lanes-requires-clause-each
new_lanes-requires-clause-each g c =
    hands_fit c.args.replicas.items c.in_ok-hands.hands.items c.args.backups c.requires.count c.requires.backed c.requires.few_backups c.in_ok-hands.ensures

pub new-requires-clause-eight : goal.new-requires-clause-eight
new-requires-clause-eight g c =
    made_count g.R.Replica.segments c.args.masters 0 c.in_ok-hands.hands.items c.in_ok-lanes.lanes.items c.in_ok-lanes.ensures ∙ c.in_ok-hands.ensures.count

pub new-requires-clause-lanes : goal.new-requires-clause-lanes
new-requires-clause-lanes g c = made_lanes g.R.Replica.segments c.args.masters 0 c.in_ok-hands.hands.items c.in_ok-lanes.lanes.items c.in_ok-lanes.ensures

pub new-requires-clause-backups : goal.new-requires-clause-backups
new-requires-clause-backups g c =
    made_backed g.R.Replica.segments c.args.masters c.args.backups c.args.replicas.items c.in_ok-hands.hands.items c.in_ok-lanes.lanes.items c.requires.count
    c.in_ok-hands.ensures c.in_ok-lanes.ensures

pub returns-clause-each : goal.returns-clause-each
returns-clause-each g c =
    λ number lane there.
    (made_here g.R.Replica.segments c.args.masters c.args.backups c.args.replicas.items c.in_ok-hands.hands.items c.in_ok-lanes.lanes.items number lane c.requires.count
    c.in_ok-hands.ensures c.in_ok-lanes.ensures (ap (λ (list : List (LaneState g.row.R.Denot)). slice_get list number) (sym c.new.ensures.lanes) ∙ there)).0

pub returns-clause-replicas : goal.returns-clause-replicas
returns-clause-replicas g c =
    λ number lane there.
    (made_here g.R.Replica.segments c.args.masters c.args.backups c.args.replicas.items c.in_ok-hands.hands.items c.in_ok-lanes.lanes.items number lane c.requires.count
    c.in_ok-hands.ensures c.in_ok-lanes.ensures (ap (λ (list : List (LaneState g.row.R.Denot)). slice_get list number) (sym c.new.ensures.lanes) ∙ there)).1

pub returns-clause-new : goal.returns-clause-new
returns-clause-new g c =
    λ empty.
    let it =
    made_cluster g.R.Replica.segments c.args.masters c.args.backups c.args.replicas.items c.in_ok-hands.hands.items c.in_ok-lanes.lanes.items c.requires.count c.in_ok-hands.ensures
    c.in_ok-lanes.ensures empty in
    of_parts g.R.Replica.segments c.new.result c.in_ok-lanes.lanes.items (new_cluster c.args.masters c.args.backups) c.new.ensures.lanes c.new.ensures.sessions it
