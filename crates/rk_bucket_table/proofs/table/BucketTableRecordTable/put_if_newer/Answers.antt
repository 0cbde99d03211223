use Rattle.rk_bucket_table.proofs.Words.{sym, subst, IsInScanOrder}
use Rattle.rk_table.proofs.Changes.{order_after}
use Rattle.rk_bucket_table.proofs.table.BucketTableRecordTable.put_if_newer.Goals as goal

pub invariant_of-self : goal.invariant_of-self
invariant_of-self c = record {
  in_order = subst IsInScanOrder (sym c.put_if_newer.ensures.put) (order_after c.args.item c.args.self.now.chains.items c.args.self.now.in_order);
}
