use Rattle.rk_bucket_table.proofs.Words.{◌≡◌, List, Held, IsTable}
use Rattle.std.proofs.Common.{vec_capacity}
use Rattle.rk_bucket_table.proofs.Spreading.{IsSpreading}
use Rattle.rk_bucket_table.proofs.spread.spread_chains.Given as goal

abbrev pub invariant-loop-chain : goal.invariant-loop-chain
invariant-loop-chain l = record {
  state : (chains : List (List Held)) → IsTable l.per_bucket l.heads l.fn.cells.slots chains
      → IsSpreading l.per_bucket l.heads l.chain chains l.twice.items l.cells.slots;
  capacity : l.cells.capacity ≡ l.fn.cells.capacity;
  room : vec_capacity l.twice ≡ vec_capacity l.fn.twice;
}
