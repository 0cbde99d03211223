use Rattle.rk_bucket_table.proofs.Words.{◌≡◌, List, length, Held, IsTable, chain}
use Rattle.rk_bucket_table.proofs.Dropping.{IsDropping}
use Rattle.rk_bucket_table.proofs.drops.drop_in_chain.Given as goal

abbrev pub invariant-cells : goal.invariant-cells
invariant-cells l = record {
  state : (chains : List (List Held)) → IsTable l.per_bucket l.fn.heads.items l.fn.cells.slots chains
      → IsDropping l.per_bucket l.heads.items l.cells.slots l.chain l.range chains l.before l.at;
  capacity : l.cells.capacity ≡ l.fn.cells.capacity;
}

abbrev pub decreases-cells : goal.decreases-cells
decreases-cells l = length (chain l.cells.slots l.at)
