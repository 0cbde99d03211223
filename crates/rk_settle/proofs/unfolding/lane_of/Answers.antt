use Rattle.rk_settle.proofs.Words.{◌≡◌, List, slice_index_or, ap, ◌∙◌, arith, new_world, LaneState, there_read}
use Rattle.rk_cluster.proofs.Worlds.{masters_at, world_at}
use Rattle.rk_settle.proofs.unfolding.lane_of.Goals as goal

pub returns-clause-lane : goal.returns-clause-lane
returns-clause-lane g c =
    let now = c.args.cluster.now.lanes in
    let at = c.index-lanes-lane.result in
    let is : at ≡ slice_index_or now c.args.lane at = c.index-lanes-lane.is ∙ ap (λ (lanes : List (LaneState g.row.R.Denot)). slice_index_or lanes c.args.lane at) c.lanes.ensures in
    λ cluster stands. world_at g.R.Replica.segments now cluster.lanes c.args.lane at (new_world c.args.lane 0 0) stands.lanes
    (there_read now c.args.lane at (omega (arith, c.requires, c.masters-masters.ensures.eight)) is)

pub returns-clause-masters : goal.returns-clause-masters
returns-clause-masters g c =
    let now = c.args.cluster.now.lanes in
    let at = c.index-lanes-lane.result in
    let is : at ≡ slice_index_or now c.args.lane at = c.index-lanes-lane.is ∙ ap (λ (lanes : List (LaneState g.row.R.Denot)). slice_index_or lanes c.args.lane at) c.lanes.ensures in
    masters_at c.masters-masters.result 0 now c.args.lane at (there_read now c.args.lane at (omega (arith, c.requires, c.masters-masters.ensures.eight)) is) c.masters-masters.ensures.lanes
    ∙ c.masters-masters.ensures.count
