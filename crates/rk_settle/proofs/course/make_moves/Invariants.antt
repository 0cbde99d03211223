use Rattle.rk_settle.proofs.Ending.{IsRunning}
use Rattle.rk_settle.proofs.course.make_moves.Given as goal

abbrev pub invariant-loop : goal.invariant-loop
invariant-loop g l = IsRunning g.R.Replica.segments g.R.Replica.faults l.fn.cluster l.cluster l.fn.tasks l.tasks l.fn.progress l.progress l.counter
