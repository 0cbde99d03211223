use Rattle.rk_tablet_map.specs.Rows.{row_of}
use Rattle.rk_settle.specs.Codes.{is_moving}
use Rattle.rk_settle.proofs.Concerned.{AreSeen}
use Rattle.rk_settle.proofs.codes.priority_code.Given as goal

-- in some of the lanes so far the tablet moves or in none, and there a master has crashed or not
abbrev pub invariant-loop-lane : goal.invariant-loop-lane
invariant-loop-lane g l = AreSeen g.R.Replica.segments l.lane-items (λ w. is_moving (row_of w.coordinator.rows l.tablet)) l.tablet l.lane-index l.concerned l.dead
