use Rattle.std.proofs.Common.{rules, eqb}
use Rattle.std.proofs.lemmas.List.Sorted.{IsPartitionPoint-from_clause}
use Rattle.rk_table.specs.Order.{item_hash}
use Rattle.rk_table.proofs.Cuts.{cut_from_point, parted_by_hash}
use Rattle.rk_table.proofs.search.count_with_hash.Goals as goal

pub returns : goal.returns
returns c =
    cut_from_point (λ item. eqb (item_hash item) c.args.hash) _ _ c.partition_point.ensures.bound
    (IsPartitionPoint-from_clause (λ item. eqb (item_hash item) c.args.hash) _ _ c.partition_point.ensures.partitioned
    (parted_by_hash c.args.hash _ c.requires.order c.requires.from_there) (λ a r q k. search rules))
