use Rattle.std.proofs.Common.{rules, ltb}
use Rattle.std.proofs.lemmas.List.Sorted.{IsPartitionPoint-from_clause, IsPartitionedBy-ltb}
use Rattle.rk_table.specs.Order.{item_bucket}
use Rattle.rk_table.proofs.Cuts.{buckets_rise, cut_from_point}
use Rattle.rk_table.proofs.search.count_before_bucket.Goals as goal

pub returns : goal.returns
returns c =
    cut_from_point (λ item. ltb (item_bucket item) c.args.bucket) _ _ c.partition_point.ensures.bound
    (IsPartitionPoint-from_clause (λ item. ltb (item_bucket item) c.args.bucket) _ _ c.partition_point.ensures.partitioned
    (IsPartitionedBy-ltb item_bucket _ c.args.bucket (buckets_rise _ c.requires)) (λ a r q k. search rules))
