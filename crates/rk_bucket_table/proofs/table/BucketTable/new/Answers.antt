use Rattle.rk_bucket_table.proofs.Words.{sym, subst, IsStrictlySortedBy, IsInScanOrder}
use Rattle.rk_bucket_table.proofs.table.BucketTable.new.Goals as goal

-- no items are in scan order
pub invariant_of-result : goal.invariant_of-result
unfolding IsStrictlySortedBy
invariant_of-result c = record { in_order = subst IsInScanOrder (sym c.in_ok-new.ensures) tt }
