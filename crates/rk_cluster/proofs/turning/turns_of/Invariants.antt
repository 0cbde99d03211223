use Rattle.rk_cluster.proofs.Words.{◌≡◌, take, turns_of}
use Rattle.rk_cluster.proofs.turning.turns_of.Given as goal

abbrev pub invariant-loop-master : goal.invariant-loop-master
invariant-loop-master l = l.deeds.items ≡ turns_of l.lane (take l.master-index l.masters)
