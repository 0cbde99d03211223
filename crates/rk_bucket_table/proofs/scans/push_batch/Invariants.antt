use Rattle.std.proofs.Common.{◌≡◌, length, take, vec_len}
use Rattle.rk_bucket_table.proofs.Batching.{IsBatching}
use Rattle.rk_bucket_table.proofs.scans.push_batch.Given as goal

abbrev pub invariant-items : goal.invariant-items
invariant-items l = record {
  state : IsBatching l.range l.from l.fn.limit l.fn.items l.fn.into.items l.items l.into.items l.token l.wanted;
  before : take (vec_len l.fn.into) l.into.items ≡ l.fn.into.items;
}

abbrev pub decreases-items : goal.decreases-items
decreases-items l = length l.items
