use Rattle.std.proofs.Common.{◌<◌, ◌^◌, sym, arith}
use Rattle.rk_coordinator.specs.Lane.{coordinator_of}
use Rattle.rk_coordinator.proofs.Found.{found_may_rise}
use Rattle.rk_coordinator.proofs.Moved.{migrated}
use Rattle.rk_coordinator.proofs.coordinator_lane.CoordinatorLane.migrate.Goals as goal

pub overflow_add-term : goal.overflow_add-term
overflow_add-term c =
    let low : c.in-Some.row.now.term < 2 ^ 63 =
    found_may_rise (coordinator_of c.self.inside) c.args.tablet c.in-Some.row.now (rw (← c.self.view_is) at c.requires) c.in-Some.ensures in
    omega arith

pub returns-clause-ok : goal.returns-clause-ok
returns-clause-ok c =
    rw (← c.self.view_is)
    (sym (migrated (coordinator_of c.self.inside) c.args.tablet c.args.to c.in-Owned.master c.in-Owned.from c.in-Some.row.now c.change.new.self
    c.in-Some.ensures c.in-Owned.is c.change.ensures.after))
