use Rattle.rk_lane.proofs.Words.{sym, subst, MayRise}
use Rattle.rk_lane.proofs.Noticed.{rises_within}
use Rattle.rk_lane.proofs.notices.notice_all.Goals as goal

pub notice-requires : goal.notice-requires
notice-requires c =
    subst MayRise (sym c.loop-master.invariant)
    (rises_within c.args.order.now c.loop-master.master-index c.args.coordinator.now c.loop-master-test.true c.requires)
