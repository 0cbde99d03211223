use Rattle.rk_bucket_table.proofs.Words.{◌≡◌, ◌++◌, length, take, vec_len, at_hash, live_in}
use Rattle.rk_bucket_table.proofs.scans.push_with_hash.Given as goal

abbrev pub invariant-items : goal.invariant-items
invariant-items l = record {
  same : l.into.items ++ at_hash l.hash (live_in l.range l.items) ≡ l.fn.into.items ++ at_hash l.hash (live_in l.range l.fn.items);
  before : take (vec_len l.fn.into) l.into.items ≡ l.fn.into.items;
}

abbrev pub decreases-items : goal.decreases-items
decreases-items l = length l.items
