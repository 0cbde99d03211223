use Rattle.rk_cluster.proofs.Words.{All, refl, sym, subst, arith, take_all, All-more, lives_another, HoldsIn, World}
use Rattle.rk_cluster.proofs.Testing.{all_hold, holds_there, one_fails}
use Rattle.rk_cluster.proofs.Worlds.{there_read}
use Rattle.rk_cluster.proofs.cluster.crashing.lives_another.Goals as goal

pub returns-then-not-lives_another-clause-value : goal.returns-then-not-lives_another-clause-value
returns-then-not-lives_another-clause-value g c = λ worlds are.
    sym (one_fails g.R.Replica.segments (λ w. lives_another w c.args.master) (λ lane running stored. refl) _ worlds _ _
    (there_read _ _ _ c.loop-lane-test.true c.lane-item.is) (rw c.if-not-lives_another.true at c.lives_another.ensures) are)

pub loop-lane-preserved : goal.loop-lane-preserved
loop-lane-preserved g c =
    let test = λ (w : World). lives_another w c.args.master in
    All-more (HoldsIn test) _ _ c.lane-item.result c.loop-lane-test.true c.loop-lane.invariant
    (subst (HoldsIn test) c.lane-item.is (holds_there test c.lane-item.result c.lives_another.result c.lives_another.ensures c.if-not-lives_another.false))

pub returns-clause-value : goal.returns-clause-value
returns-clause-value g c = λ worlds are.
    let test = λ (w : World). lives_another w c.args.master in
    sym (all_hold g.R.Replica.segments test (λ lane running stored. refl) c.args.lanes.now worlds are
    (subst (All (HoldsIn test)) (take_all c.loop-lane.lane-index c.args.lanes.now (omega (arith, c.loop-lane-test.false))) c.loop-lane.invariant))

pub returns-clause-each : goal.returns-clause-each
returns-clause-each g c =
    λ lives. subst (All (HoldsIn (λ w. lives_another w c.args.master))) (take_all c.loop-lane.lane-index c.args.lanes.now (omega (arith, c.loop-lane-test.false))) c.loop-lane.invariant
