use Rattle.rk_cluster.proofs.Words.{All, refl, sym, subst, arith, take_all, All-more, is_quiet_lane, HoldsIn}
use Rattle.rk_cluster.proofs.Testing.{all_hold, holds_there, one_fails}
use Rattle.rk_cluster.proofs.Worlds.{masters_at, there_read}
use Rattle.rk_cluster.proofs.cluster.quiet.are_quiet.Goals as goal

pub is_quiet-requires : goal.is_quiet-requires
is_quiet-requires g c = masters_at c.args.masters 0 _ _ _ (there_read _ _ _ c.loop-lane-test.true c.lane-item.is) c.requires

pub returns-then-not-is_quiet : goal.returns-then-not-is_quiet
returns-then-not-is_quiet g c = λ worlds are.
    sym (one_fails g.R.Replica.segments is_quiet_lane (λ lane running stored. refl) _ worlds _ _ (there_read _ _ _ c.loop-lane-test.true c.lane-item.is)
    (rw c.if-not-is_quiet.true at c.is_quiet.ensures) are)

pub loop-lane-preserved : goal.loop-lane-preserved
loop-lane-preserved g c =
    All-more (HoldsIn is_quiet_lane) _ _ c.lane-item.result c.loop-lane-test.true c.loop-lane.invariant
    (subst (HoldsIn is_quiet_lane) c.lane-item.is
    (holds_there is_quiet_lane c.lane-item.result c.is_quiet.result c.is_quiet.ensures c.if-not-is_quiet.false))

pub returns : goal.returns
returns g c = λ worlds are.
    sym (all_hold g.R.Replica.segments is_quiet_lane (λ lane running stored. refl) c.args.lanes.now worlds are
    (subst (All (HoldsIn is_quiet_lane)) (take_all c.loop-lane.lane-index c.args.lanes.now (omega (arith, c.loop-lane-test.false))) c.loop-lane.invariant))
