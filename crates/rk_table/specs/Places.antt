-- What the code of the sorted table speaks of: a place whose key is lent, and where a search cuts the items.
use Rattle.std.specs.Prelude.{◌≡◌, ℕ, ◌<◌, ◌≤◌, Bool, true, false, List, Some, None, length, take, drop, slice_set, insert, All}
use Rattle.std.specs.List.{HoldsAt}
use Rattle.std.specs.Ordering.{is_lt}
use Rattle.rk_types.specs.declared.held.Held.{Held}
use Rattle.rk_table.specs.Order.{Place, place_cmp, item_place}
use Rattle.rk_table.specs.Items.{found, with_item}
use Rattle.rk_table.specs.declared.slot.Place.{Place as Lent}

-- the place that it is
abbrev pub place_seen : Lent → Place
place_seen place = (place.bucket, place.hash, place.table, place.key.now)

-- whether an item comes before a place
abbrev pub comes_before : Place → Held → Bool
comes_before place item = is_lt (place_cmp (item_place item) place)

-- the items before the cut pass the test, and those from it on fail it
pub record IsCut (test : Held → Bool) (items : List Held) (cut : ℕ) : Type 0 where
  pub within : cut ≤ length items
  pub front : All (λ item. test item ≡ true) (take cut items)
  pub back : All (λ item. test item ≡ false) (drop cut items)

-- the item of a key of a table is here, and another one with its key would take its place
pub record IsHere (table : ℕ) (key : List ℕ) (items : List Held) (here : ℕ) : Type 0 where
  pub within : here < length items
  pub value : HoldsAt (λ item. found table key items ≡ Some item) items here
  pub replaced : (new : Held) → new.table ≡ table → new.key ≡ key → with_item new items ≡ slice_set items here new

-- no item of a key of a table is there, and an item of it would go here
pub record IsGap (table : ℕ) (key : List ℕ) (items : List Held) (here : ℕ) : Type 0 where
  pub within : here ≤ length items
  pub absent : found table key items ≡ None
  pub inserted : (new : Held) → new.table ≡ table → new.key ≡ key → with_item new items ≡ insert items here new
