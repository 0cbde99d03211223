use Rattle.rk_lane.proofs.Words.{◌≡◌, List, length, vec_capacity, subst, sym, ap, ◌∙◌, arith, nil_from_length, into_iter_items, BackupLane}
use Rattle.rk_lane.proofs.Words.{LaneState}
use Rattle.rk_lane.proofs.Lanes.{IsGivingBack, all_given_back, none_given, one_given}
use Rattle.rk_lane.proofs.lane.Lane.into_replicas.Goals as goal

pub loop-backup-init : goal.loop-backup-init
loop-backup-init g c =
    let backups : c.self.inside.backups.items ≡ c.args.self.backups = ap (λ (lane : LaneState g.row.R.Denot). lane.backups) c.self.view_is in
    subst (λ (left : List (BackupLane g.row.R.Denot)). IsGivingBack c.args.self.backups left c.self.inside.replicas.items (vec_capacity c.self.inside.replicas))
    (sym (c.into_iter-backup-iterator.ensures.into_iter_gives.0 ∙ backups))
    (none_given c.args.self.backups c.self.inside.replicas.items (vec_capacity c.self.inside.replicas) c.self.invariant.free
    (omega (arith, c.self.invariant.room, ap (λ (list : List (BackupLane g.row.R.Denot)). length list) backups)))

pub push_reserved-requires : goal.push_reserved-requires
push_reserved-requires g c =
    let longer = ap (λ (list : List (BackupLane g.row.R.Denot)). length list) c.in-Some.ensures.steps.0 in
    omega (arith, longer, c.loop-backup.invariant.fits, c.loop-backup.replicas.ok.0)

pub loop-backup-preserved : goal.loop-backup-preserved
loop-backup-preserved g c =
    subst (λ room. IsGivingBack c.args.self.backups (into_iter_items c.next.new.self) c.push_reserved.new.self.items room) (sym c.push_reserved.ensures.capacity)
    (one_given c.args.self.backups (into_iter_items c.loop-backup.backup-iterator) (into_iter_items c.next.new.self) c.loop-backup.replicas.items c.push_reserved.new.self.items
    c.in-Some.backup c.into_replica.result (vec_capacity c.loop-backup.replicas) c.in-Some.ensures.steps.0 c.push_reserved.ensures.items c.into_replica.ensures c.loop-backup.invariant)

pub returns : goal.returns
returns g c =
    all_given_back c.args.self.backups c.loop-backup.replicas.items (vec_capacity c.loop-backup.replicas)
    (subst (λ (left : List (BackupLane g.row.R.Denot)). IsGivingBack c.args.self.backups left c.loop-backup.replicas.items (vec_capacity c.loop-backup.replicas))
    (nil_from_length (into_iter_items c.loop-backup.backup-iterator) (omega (arith, c.in-None.ensures.steps.0))) c.loop-backup.invariant)
