use Rattle.rk_lane.proofs.Words.{◌+◌, List, length, vec_capacity, subst, sym, ap, refl, arith, nil_from_length, into_iter_items}
use Rattle.rk_lane.proofs.Lanes.{IsNumbering, all_numbered, none_numbered, one_numbered}
use Rattle.rk_lane.proofs.lane.numbered.Goals as goal

pub loop-replica-init : goal.loop-replica-init
loop-replica-init g c =
    subst (λ (left : List g.row.R.Denot). IsNumbering c.args.replicas.items left c.in_ok-backups.backups.items (vec_capacity c.in_ok-backups.backups) 1)
    (sym c.into_iter-replica-iterator.ensures.into_iter_gives.0)
    (none_numbered c.args.replicas.items c.in_ok-backups.backups.items (vec_capacity c.in_ok-backups.backups) c.in_ok-backups.ensures.items
    (omega (arith, c.in_ok-backups.ensures.capacity, c.len.ensures, c.args.replicas.ok.0)))

pub push_reserved-requires : goal.push_reserved-requires
push_reserved-requires g c =
    let longer = ap (λ (list : List g.row.R.Denot). length list) c.in-Some.ensures.steps.0 in
    omega (arith, longer, c.loop-replica.invariant.fits, c.loop-replica.backups.ok.0)

pub loop-replica-preserved : goal.loop-replica-preserved
loop-replica-preserved g c =
    subst (λ room. IsNumbering c.args.replicas.items (into_iter_items c.next.new.self) c.push_reserved.new.self.items room (c.loop-replica.number + 1)) (sym c.push_reserved.ensures.capacity)
    (one_numbered c.args.replicas.items (into_iter_items c.loop-replica.replica-iterator) (into_iter_items c.next.new.self)
    c.loop-replica.backups.items c.push_reserved.new.self.items c.new.result c.in-Some.replica (vec_capacity c.loop-replica.backups) c.loop-replica.number (c.loop-replica.number + 1)
    c.in-Some.ensures.steps.0 c.push_reserved.ensures.items c.new.ensures.number c.new.ensures.replica refl c.loop-replica.invariant)

pub returns : goal.returns
returns g c = record {
  numbered = c.loop-replica.invariant.numbered;
  replicas =
      all_numbered c.args.replicas.items c.loop-replica.backups.items (vec_capacity c.loop-replica.backups) c.loop-replica.number
      (subst (λ (left : List g.row.R.Denot). IsNumbering c.args.replicas.items left c.loop-replica.backups.items (vec_capacity c.loop-replica.backups) c.loop-replica.number)
      (nil_from_length (into_iter_items c.loop-replica.replica-iterator) (omega (arith, c.in-None.ensures.steps.0))) c.loop-replica.invariant);
}
