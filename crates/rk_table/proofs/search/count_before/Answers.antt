use Rattle.std.proofs.Common.{rules}
use Rattle.std.proofs.lemmas.List.Sorted.{IsPartitionPoint-from_clause}
use Rattle.rk_table.specs.Places.{comes_before, place_seen}
use Rattle.rk_table.proofs.Cuts.{cut_from_point, parted_by_place}
use Rattle.rk_table.proofs.search.count_before.Goals as goal

pub returns : goal.returns
returns c =
    let place = place_seen c.args.place.now in
    cut_from_point (comes_before place) _ _ c.partition_point.ensures.bound
    (IsPartitionPoint-from_clause (comes_before place) _ _ c.partition_point.ensures.partitioned
    (parted_by_place place _ c.requires) (λ a r q k. search rules))
