use Rattle.rk_cluster.proofs.Crashing.{IsCrashing}
use Rattle.rk_cluster.proofs.cluster.crashing.crash_all.Given as goal

abbrev pub invariant-loop-lane : goal.invariant-loop-lane
invariant-loop-lane g l = IsCrashing g.R.Replica.segments g.R.Replica.faults l.initial.lanes.items l.lanes.items l.masters l.master l.lane
