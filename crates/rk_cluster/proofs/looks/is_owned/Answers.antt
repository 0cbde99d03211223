use Rattle.rk_cluster.proofs.Words.{Option, is_some, not, ap, ◌∙◌, arith, owner_in}
use Rattle.rk_cluster.proofs.Telling.{all_but, all_next, all_past}
use Rattle.rk_cluster.proofs.Worlds.{there_read}
use Rattle.rk_cluster.proofs.looks.is_owned.Goals as goal

pub returns-then-is_none : goal.returns-then-is_none
returns-then-is_none g c =
    all_but _ _ (λ w. is_some (owner_in w c.args.tablet)) _ _ c.loop-lane-test.true (there_read _ _ _ c.loop-lane-test.true c.lane-item.is)
    (λ w is. ap (λ (owner : Option _). is_some owner) (c.owner_in.ensures w is) ∙ c.is_none.ensures ∙ ap not c.if-is_none.true)

pub loop-lane-preserved : goal.loop-lane-preserved
loop-lane-preserved g c =
    all_next _ _ (λ w. is_some (owner_in w c.args.tablet)) _ _ c.loop-lane-test.true (there_read _ _ _ c.loop-lane-test.true c.lane-item.is)
    (λ w is. ap (λ (owner : Option _). is_some owner) (c.owner_in.ensures w is) ∙ c.is_none.ensures ∙ ap not c.if-is_none.false) c.loop-lane.invariant

pub returns : goal.returns
returns g c = all_past _ c.args.lanes.now (λ w. is_some (owner_in w c.args.tablet)) c.loop-lane.lane-index (omega (arith, c.loop-lane-test.false)) c.loop-lane.invariant
