use Rattle.rk_backup_node.proofs.Fronts.{AreEqualTo}
use Rattle.rk_backup_node.proofs.read.common_front.Given as goal

-- the bytes so far are equal
abbrev pub invariant-loop-count : goal.invariant-loop-count
invariant-loop-count l = AreEqualTo l.count l.read l.log
