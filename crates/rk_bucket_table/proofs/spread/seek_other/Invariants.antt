use Rattle.rk_bucket_table.proofs.Words.{eqb, length, item_hash, chain, chain_of, IsPassed}
use Rattle.rk_bucket_table.proofs.spread.seek_other.Given as goal

abbrev pub invariant-chain : goal.invariant-chain
invariant-chain l = IsPassed l.cells.slots l.head (λ item. eqb (chain_of l.per_bucket (item_hash item)) l.number) l.before l.at

abbrev pub decreases-chain : goal.decreases-chain
decreases-chain l = length (chain l.cells.slots l.at)
