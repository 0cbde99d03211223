use Rattle.rk_lane.proofs.Words.{vec_capacity, into_iter_items}
use Rattle.rk_lane.proofs.Lanes.{IsGivingBack}
use Rattle.rk_lane.proofs.lane.Lane.into_replicas.Given as goal

abbrev pub invariant-loop-backup : goal.invariant-loop-backup
invariant-loop-backup g l = IsGivingBack l.fn.self.backups (into_iter_items l.backup-iterator) l.replicas.items (vec_capacity l.replicas)
