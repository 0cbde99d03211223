use Rattle.std.proofs.Common.{◌+◌, ◌≡◌, not, ap, ◌∙◌, sym, arith}
use Rattle.rk_world.specs.Coordinator.{Coordinator, is_noticed}
use Rattle.rk_coordinator.specs.Lane.{marked}
use Rattle.rk_coordinator.proofs.Left.{passed_over}
use Rattle.rk_coordinator.proofs.coordinator_lane.notices.lowest_left.Goals as goal

pub loop-master-preserved : goal.loop-master-preserved
loop-master-preserved c =
    let masters : c.lane.inside.masters ≡ c.args.lane.now.masters = ap (λ (coordinator : Coordinator). coordinator.masters) c.lane.view_is in
    passed_over (λ master. not (is_noticed (marked c.args.lane.now c.args.dead) master)) c.loop-master.master (c.args.lane.now.masters + 1)
    (omega arith) (ap not (sym c.is_marked.ensures ∙ c.if-not-is_marked.false)) ∙ c.loop-master.invariant
