use Rattle.rk_settle.specs.Reaches.{is_short_of}
use Rattle.rk_settle.proofs.Concerned.{AreSeen}
use Rattle.rk_settle.proofs.codes.advance_code.Given as goal

-- in some of the lanes so far the migration is short of the reach or in none, and there a master has crashed or not
abbrev pub invariant-loop-lane : goal.invariant-loop-lane
invariant-loop-lane g l = AreSeen g.R.Replica.segments l.lane-items (λ w. is_short_of w l.tablet l.reach) l.tablet l.lane-index l.concerned l.dead
