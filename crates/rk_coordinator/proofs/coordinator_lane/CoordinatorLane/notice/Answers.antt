use Rattle.std.proofs.Common.{◌≡◌, map, ◌∙◌, ap}
use Rattle.rk_world.specs.Notices.{phase_noticed, row_noticed}
use Rattle.rk_coordinator.specs.Lane.{coordinator_of, marked}
use Rattle.rk_coordinator.specs.Changes.{rows_after}
use Rattle.rk_coordinator.proofs.Changed.{all_changed}
use Rattle.rk_coordinator.proofs.coordinator_lane.CoordinatorLane.notice.Goals as goal

pub returns-clause-ok : goal.returns-clause-ok
returns-clause-ok c =
    let changed : c.change_rows.new.map ≡ map (λ row. row_noticed row (phase_noticed (marked (coordinator_of c.self.inside) c.args.master) c.args.master row.phase)) c.self.inside.map =
    c.change_rows.ensures ∙ ap (rows_after c.self.inside.map) (rw (← c.self.view_is) at c.in_ok-changes.ensures.changes)
    ∙ all_changed (λ row. phase_noticed (marked (coordinator_of c.self.inside) c.args.master) c.args.master row.phase) c.self.inside.map (rw (← c.self.view_is) at c.in_ok-changes.ensures.lawful) in
    rw (← c.self.view_is, changed, c.in_ok-push.ensures.items)
