-- The newest items of two lists, in order.
use Rattle.std.specs.Prelude.{◌≡◌, ◌↔◌, List, [], ◌++◌, Contains, fold, Some}
use Rattle.std.specs.declared.cmp.Ordering.{Ordering}
use Rattle.std.specs.Ordering.{nat_cmp, on, then_cmp}
use Rattle.std.specs.Cmp.Lexicographic.{slice_cmp}
use Rattle.std.specs.List.{filter_map}
use Rattle.std.specs.List.Sorted.{IsStrictlySortedBy}
use Rattle.std.specs.BTreeSet.{insert_key}
use Rattle.rk_types.specs.declared.held.Held.{Held}
use Rattle.rk_overlay.specs.Newest.{newest}

-- which of two items comes first: by version, then by table, then by the bytes of the key
abbrev pub item_cmp : Held → Held → Ordering
item_cmp =
    then_cmp (on (λ item. item.version) nat_cmp)
    (then_cmp (on (λ item. item.table) nat_cmp) (on (λ item. item.key) (slice_cmp nat_cmp)))

-- the items in order; of those with one version, table and key the first alone
abbrev pub in_order : List Held → List Held
in_order items = fold (insert_key item_cmp) [] items

-- the newest item of each key of a list, in order
abbrev pub newest_items : List Held → List Held
newest_items items = in_order (filter_map (λ item. newest items item.table item.key) items)

-- the newest item of each key of two lists, in order; of those with the greatest version that of the first list counts,
-- and the first there
abbrev pub overlay : List Held → List Held → List Held
overlay a b = newest_items (a ++ b)

-- a list has just the newest items of another one, and each comes before all those behind it
pub record IsOverlayOf (items result : List Held) : Type 0 where
  pub newest : (item : Held) → Contains result item ↔ (newest items item.table item.key ≡ Some item)
  pub order : IsStrictlySortedBy item_cmp result
