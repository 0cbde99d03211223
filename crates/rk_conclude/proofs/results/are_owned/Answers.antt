use Rattle.std.proofs.Common.{◌∙◌, arith}
use Rattle.rk_cluster.proofs.Telling.{all_but, all_next, all_past}
use Rattle.rk_cluster.proofs.Worlds.{there_read}
use Rattle.rk_conclude.specs.Results.{is_owner, owner_at}
use Rattle.rk_conclude.proofs.results.are_owned.Goals as goal

pub returns-then-not-is_owned : goal.returns-then-not-is_owned
returns-then-not-is_owned g c =
    all_but g.R.Replica.segments c.args.lanes.now (λ w. is_owner c.args.master (owner_at w)) c.loop-lane.lane-index c.lane-item.result c.loop-lane-test.true
    (there_read c.args.lanes.now c.loop-lane.lane-index c.lane-item.result c.loop-lane-test.true c.lane-item.is)
    (λ w is. c.is_owned.ensures w is ∙ c.if-not-is_owned.true)

pub loop-lane-preserved : goal.loop-lane-preserved
loop-lane-preserved g c =
    all_next g.R.Replica.segments c.args.lanes.now (λ w. is_owner c.args.master (owner_at w)) c.loop-lane.lane-index c.lane-item.result c.loop-lane-test.true
    (there_read c.args.lanes.now c.loop-lane.lane-index c.lane-item.result c.loop-lane-test.true c.lane-item.is)
    (λ w is. c.is_owned.ensures w is ∙ c.if-not-is_owned.false)
    c.loop-lane.invariant

pub returns : goal.returns
returns g c =
    all_past g.R.Replica.segments c.args.lanes.now (λ w. is_owner c.args.master (owner_at w)) c.loop-lane.lane-index (omega (arith, c.loop-lane-test.false)) c.loop-lane.invariant
