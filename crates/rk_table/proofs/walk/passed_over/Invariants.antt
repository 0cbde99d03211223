use Rattle.std.proofs.Common.{◌≡◌, ◌≤◌, length, take}
use Rattle.std.specs.List.{All}
use Rattle.rk_table.specs.Order.{item_bucket}
use Rattle.rk_table.specs.Items.{live_in}
use Rattle.rk_table.proofs.walk.passed_over.Given as goal

-- the slots so far are in the token's bucket, and their live items, no more than it skips, are counted
abbrev pub invariant-loop-at : goal.invariant-loop-at
invariant-loop-at l = record {
  count : l.passed ≡ length (live_in l.range (take l.at l.slots));
  few : l.passed ≤ l.from.skip;
  here : All (λ item. item_bucket item ≡ l.from.bucket) (take l.at l.slots);
}
