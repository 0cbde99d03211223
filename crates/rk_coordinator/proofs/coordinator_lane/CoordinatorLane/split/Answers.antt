use Rattle.std.proofs.Common.{◌<◌, ◌^◌, sym, ap, ◌∙◌, arith}
use Rattle.std.proofs.lemmas.Result.{err_from_is_err_and}
use Rattle.std.specs.Option.{option_map}
use Rattle.rk_world.specs.declared.error.MoveError.TheVariants as moves
use Rattle.rk_coordinator.specs.Lane.{coordinator_of}
use Rattle.rk_coordinator.proofs.Found.{found_may_rise}
use Rattle.rk_coordinator.proofs.Moved.{both_split, split_refused}
use Rattle.rk_coordinator.proofs.coordinator_lane.CoordinatorLane.split.Goals as goal

pub overflow_add-term : goal.overflow_add-term
overflow_add-term c =
    let low : c.in-Some.row.now.term < 2 ^ 63 =
    found_may_rise (coordinator_of c.self.inside) c.args.tablet c.in-Some.row.now (rw (← c.self.view_is) at c.requires) c.in-Some.ensures in
    omega arith

-- what the map refuses is what refuses the split
pub returns-in_err-split_map-clause-refused : goal.returns-in_err-split_map-clause-refused
returns-in_err-split_map-clause-refused c =
    let same = err_from_is_err_and c.from_residual.result c.from_residual.ensures.1 in
    rw (same.1, same.2, ← c.self.view_is)
    (λ other. split_refused (coordinator_of c.self.inside) c.args.tablet c.args.at c.args.new c.in-Owned.master c.in-Owned.from
    c.in-Some.row.now c.in-Some.ensures c.in-Owned.is
    ∙ c.in_err-split_map.ensures.refused other)

pub returns-clause-lawful : goal.returns-clause-lawful
returns-clause-lawful c =
    rw (← c.self.view_is)
    (split_refused (coordinator_of c.self.inside) c.args.tablet c.args.at c.args.new c.in-Owned.master c.in-Owned.from
    c.in-Some.row.now c.in-Some.ensures c.in-Owned.is
    ∙ ap (option_map moves.Map) c.in_ok-split_map.ensures.lawful)

pub returns-clause-ok : goal.returns-clause-ok
returns-clause-ok c =
    rw (← c.self.view_is)
    (sym (both_split (coordinator_of c.self.inside) c.args.tablet c.args.at c.args.new c.in-Owned.master c.in-Owned.from c.in-Some.row.now
    c.split_map.new.map c.change.new.self c.change-2.new.self c.in-Some.ensures c.in-Owned.is c.in_ok-split_map.ensures.ok c.change.ensures.after c.change-2.ensures.after))
