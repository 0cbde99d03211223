use Rattle.rk_bucket_table.proofs.Words.{sym, subst, IsInScanOrder}
use Rattle.rk_table.proofs.Changes.{order_without}
use Rattle.rk_bucket_table.proofs.table.BucketTableRecordTable.drop_range.Goals as goal

pub invariant_of-self : goal.invariant_of-self
invariant_of-self c = record {
  in_order =
      subst IsInScanOrder (sym c.drop_range.ensures.dropped) (order_without c.args.range.now c.args.self.now.chains.items c.args.self.now.in_order);
}
