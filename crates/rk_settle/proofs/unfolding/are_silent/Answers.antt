use Rattle.std.proofs.Common.{◌≡◌, ℕ, Option, None, Some, is_none, is_some, not, refl, sym, ap, ◌∙◌, arith}
use Rattle.rk_message.specs.Wire.{Traffic, number_at}
use Rattle.rk_cluster.proofs.Telling.{all_but, all_next, all_past}
use Rattle.rk_cluster.proofs.Worlds.{there_read}
use Rattle.rk_settle.specs.Rest.{is_silent}
use Rattle.rk_settle.proofs.unfolding.are_silent.Goals as goal

-- nothing is there if there is not something
none_is : {X : Type 0} (found : Option X) → is_none found ≡ not (is_some found)
none_is None = refl
none_is (Some thing) = refl

pub loop-lane-init : goal.loop-lane-init
loop-lane-init g c = λ sessions cluster is. refl

pub returns-then-is_some : goal.returns-then-is_some
returns-then-is_some g c =
    all_but g.R.Replica.segments c.args.lanes.now is_silent c.loop-lane.lane-index c.lane-item.result c.loop-lane-test.true
    (there_read c.args.lanes.now c.loop-lane.lane-index c.lane-item.result c.loop-lane-test.true c.lane-item.is)
    (λ w is. ap (λ (wire : Traffic). is_none (number_at 1 wire)) (c.wire_of.ensures w is) ∙ ap (λ (o : Option ℕ). is_none o) (sym c.oldest.ensures) ∙ none_is c.oldest.result ∙ ap not (sym c.is_some.ensures ∙ c.if-is_some.true))

pub loop-lane-preserved : goal.loop-lane-preserved
loop-lane-preserved g c =
    all_next g.R.Replica.segments c.args.lanes.now is_silent c.loop-lane.lane-index c.lane-item.result c.loop-lane-test.true
    (there_read c.args.lanes.now c.loop-lane.lane-index c.lane-item.result c.loop-lane-test.true c.lane-item.is)
    (λ w is. ap (λ (wire : Traffic). is_none (number_at 1 wire)) (c.wire_of.ensures w is) ∙ ap (λ (o : Option ℕ). is_none o) (sym c.oldest.ensures) ∙ none_is c.oldest.result ∙ ap not (sym c.is_some.ensures ∙ c.if-is_some.false))
    c.loop-lane.invariant

pub returns : goal.returns
returns g c = all_past g.R.Replica.segments c.args.lanes.now is_silent c.loop-lane.lane-index (omega (arith, c.loop-lane-test.false)) c.loop-lane.invariant
