use Rattle.rk_bucket_table.proofs.Words.{◌≡◌, ◌++◌, List, drop, map, take, Held, without, IsTable}
use Rattle.rk_bucket_table.proofs.drops.drop_in_chains.Given as goal

abbrev pub invariant-loop-chain : goal.invariant-loop-chain
invariant-loop-chain l = record {
  tables : (chains : List (List Held)) → IsTable l.per_bucket l.fn.heads.items l.fn.cells.slots chains
      → IsTable l.per_bucket l.heads.items l.cells.slots (map (without l.range) (take l.chain chains) ++ drop l.chain chains);
  capacity : l.cells.capacity ≡ l.fn.cells.capacity;
}
