use Rattle.rk_lane.proofs.Words.{vec_capacity, into_iter_items}
use Rattle.rk_lane.proofs.Lanes.{IsNumbering}
use Rattle.rk_lane.proofs.lane.numbered.Given as goal

abbrev pub invariant-loop-replica : goal.invariant-loop-replica
invariant-loop-replica g l = IsNumbering l.fn.replicas.items (into_iter_items l.replica-iterator) l.backups.items (vec_capacity l.backups) l.number
