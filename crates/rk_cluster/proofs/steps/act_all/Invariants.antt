use Rattle.rk_cluster.proofs.Deeds.{IsActing}
use Rattle.rk_cluster.proofs.steps.act_all.Given as goal

abbrev pub invariant-loop-deed : goal.invariant-loop-deed
invariant-loop-deed g l = IsActing g.R.Replica.segments g.R.Replica.faults l.initial.lanes.items l.lanes.items l.masters l.deeds l.deed-index
