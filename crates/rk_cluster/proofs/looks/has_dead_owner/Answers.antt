use Rattle.std.proofs.Common.{◌∙◌, slice_index_or, arith}
use Rattle.rk_cluster.specs.Looks.{is_dead_owner, owner_in}
use Rattle.rk_cluster.proofs.Telling.{any_here, any_next, any_past}
use Rattle.rk_cluster.proofs.Worlds.{there_read}
use Rattle.rk_cluster.proofs.looks.has_dead_owner.Goals as goal

pub returns-then-is_owner_dead : goal.returns-then-is_owner_dead
returns-then-is_owner_dead g c =
    any_here _ _ (λ w. is_dead_owner w (owner_in w c.args.tablet)) _ _ 0 _ c.loop-lane-test.true
    (there_read _ (slice_index_or c.args.among.now c.loop-lane.lane-index 0) _ (c.requires c.loop-lane.lane-index 0 c.loop-lane-test.true) c.index-lanes-lane.is)
    (λ w is. c.is_owner_dead.ensures w is ∙ c.if-is_owner_dead.true)

pub loop-lane-preserved : goal.loop-lane-preserved
loop-lane-preserved g c =
    any_next _ _ (λ w. is_dead_owner w (owner_in w c.args.tablet)) _ _ 0 _ c.loop-lane-test.true
    (there_read _ (slice_index_or c.args.among.now c.loop-lane.lane-index 0) _ (c.requires c.loop-lane.lane-index 0 c.loop-lane-test.true) c.index-lanes-lane.is)
    (λ w is. c.is_owner_dead.ensures w is ∙ c.if-is_owner_dead.false) c.loop-lane.invariant

pub returns : goal.returns
returns g c = any_past _ _ (λ w. is_dead_owner w (owner_in w c.args.tablet)) c.args.among.now c.loop-lane.lane-index (omega (arith, c.loop-lane-test.false)) c.loop-lane.invariant
