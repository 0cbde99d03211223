-- Scan order: it is a total order, and along a list in scan order the buckets do not fall.
use Rattle.std.proofs.Common.{◌≡◌, ◌<◌, ◌≤◌, List, [], ◌∷◌, arith, rules}
use Rattle.std.specs.Cmp.{IsTotalOrder, on_total}
use Rattle.std.specs.Cmp.Rules.{comparing}
use Rattle.std.specs.List.{AllByRecursion}
use Rattle.std.specs.List.Sorted.{IsStrictlySortedBy}
use Rattle.std.specs.declared.cmp.Ordering.TheVariants.{Less}
use Rattle.std.proofs.lemmas.Cmp.{ranked}
use Rattle.rk_types.specs.declared.held.Held.{Held}
use Rattle.rk_types.specs.declared.hashing.TheConstants.{BUCKETS}
use Rattle.rk_table.specs.Order.{place_cmp, item_place, item_cmp, item_bucket, IsInScanOrder}
use Rattle.rk_table.proofs.Ordered.{AllFrom, Rises}

-- the order of places is total, and so is that of items
pub place_total : IsTotalOrder place_cmp
place_total = search (comparing, rules)

pub item_total : IsTotalOrder item_cmp
item_total = on_total item_place place_total

-- an item that comes before another has no greater bucket
pub bucket_before : (a b : Held) → item_cmp a b ≡ Less → item_bucket a ≤ item_bucket b
bucket_before a b h = grind (arith, ranked)

-- every bucket is below the end
pub bucket_below_end : (item : Held) → item_bucket item < BUCKETS
bucket_below_end item = omega arith

all_from : (item : Held) (items : List Held) → AllByRecursion (λ other. item_cmp item other ≡ Less) items → AllFrom item_bucket (item_bucket item) items
all_from item [] all = tt
all_from item (other ∷ items) all = (bucket_before item other all.0, all_from item items all.1)

-- along a list in scan order the buckets do not fall
pub rises_in_order : (items : List Held) → IsInScanOrder items → Rises item_bucket items
unfolding IsStrictlySortedBy
rises_in_order [] order = tt
rises_in_order (item ∷ items) order = (all_from item items order.0, rises_in_order items order.1)
