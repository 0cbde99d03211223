use Rattle.rk_bucket_table.proofs.Words.{◌≡◌, length, list_any, is_live_in}
use Rattle.rk_bucket_table.proofs.scans.has_live.Given as goal

abbrev pub invariant-items : goal.invariant-items
invariant-items l = list_any (is_live_in l.range) l.items ≡ list_any (is_live_in l.range) l.fn.items

abbrev pub decreases-items : goal.decreases-items
decreases-items l = length l.items
