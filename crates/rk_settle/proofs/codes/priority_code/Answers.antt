use Rattle.rk_settle.proofs.Words.{◌≡◌, true, List, rules, sym, subst, ◌∙◌, arith, row_of, LaneState, IsOf, state_of, there_read}
use Rattle.rk_settle.specs.Codes.{is_moving}
use Rattle.rk_settle.proofs.Concerned.{code_seen, seen_beside, seen_here}
use Rattle.rk_settle.proofs.codes.priority_code.Goals as goal
use Rattle.rk_settle.proofs.codes.priority_code.Goals.{then-is_moving, else-is_moving}

pub loop-lane-preserved : goal.loop-lane-preserved
loop-lane-preserved g c =
    let lanes = c.lanes-lane-items.result.now in
    let there = there_read lanes c.loop-lane.lane-index c.lane-item.result c.loop-lane-test.true c.lane-item.is in
    elim c.if-is_moving.branch [
      | then-is_moving w ↦
          seen_here g.R.Replica.segments lanes (λ w. is_moving (row_of w.coordinator.rows c.args.tablet)) c.args.tablet c.loop-lane.lane-index c.lane-item.result c.loop-lane.concerned c.loop-lane.dead
          w.is_dead_migration-dead.result c.if-is_moving.concerned c.if-is_moving.dead there (λ v of. c.is_moving.ensures v of ∙ w.if-is_moving.true)
          w.is_dead_migration-dead.ensures w.concerned-is w.dead-is c.loop-lane.invariant
      | else-is_moving w ↦
          seen_beside g.R.Replica.segments lanes (λ w. is_moving (row_of w.coordinator.rows c.args.tablet)) c.args.tablet c.loop-lane.lane-index c.lane-item.result c.loop-lane.concerned c.loop-lane.dead
          c.if-is_moving.concerned c.if-is_moving.dead there (λ v of. c.is_moving.ensures v of ∙ w.if-is_moving.false) w.concerned-is w.dead-is c.loop-lane.invariant
    ]

pub returns : goal.returns
returns g c =
    λ cluster is.
    let lanes = c.lanes-lane-items.result.now in
    let sessions = c.args.cluster.now.sessions in
    let there : c.is_tablet.result ≡ true = search rules in
    let of = subst (λ (it : List (LaneState g.row.R.Denot)). IsOf g.R.Replica.segments (state_of it sessions) cluster) (sym c.lanes-lane-items.ensures) is in
    code_seen g.R.Replica.segments lanes (λ w. is_moving (row_of w.coordinator.rows c.args.tablet)) c.args.tablet c.loop-lane.lane-index c.loop-lane.concerned c.loop-lane.dead
    (omega (arith, c.loop-lane-test.false, c.loop-lane.auto.lane-index-end)) c.loop-lane.invariant sessions cluster of (c.is_tablet.ensures cluster is ∙ there)
    ∙ sym c.code_by.ensures
