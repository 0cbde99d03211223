-- The laws of tables and of scans, over lists of items.
use Rattle.std.specs.Prelude.{◌≡◌, ◌↔◌, ◌+◌, ◌<◌, ◌≤◌, ℕ, List, [], ◌++◌, length, true, false, Some, None}
use Rattle.std.proofs.Common.{arith, ◌∷◌, refl}
use Rattle.rk_types.specs.declared.held.Held.{Held}
use Rattle.rk_types.specs.declared.held.Token.{Token}
use Rattle.rk_types.specs.declared.range.Range.{Range}
use Rattle.rk_types.specs.Hashing.{hash_of}
use Rattle.rk_types.specs.Range.{has}
use Rattle.rk_table.specs.Order.{IsInScanOrder}
use Rattle.rk_table.specs.Items.{found, is_at, is_newer, live_in, with_newer, without}
use Rattle.rk_table.specs.Scans.{batch_at, end, first, left, next_token, passed, scanned, token_after}
use Rattle.rk_table.proofs.Changes.{in_from_at}
use Rattle.rk_table.proofs.InOrder.{rises_in_order}
use Rattle.rk_table.proofs.Tokens.{left_goes_on, ends_where_none_left, scanned_left, left_first, ends_after}

-- A newer item is found at its key after it was put, and an older one changes nothing; at every other key the same is
-- found as before. The items stay in scan order, and are one more at most.
pub newer_item_is_found : (item : Held) (items : List Held) → IsInScanOrder items → is_newer item (found item.table item.key items) ≡ true
    → found item.table item.key (with_newer item items) ≡ Some item
newer_item_is_found = Rattle.rk_table.proofs.Changes.found_newer

pub older_item_changes_nothing : (item : Held) (items : List Held) → is_newer item (found item.table item.key items) ≡ false
    → with_newer item items ≡ items
older_item_changes_nothing = Rattle.rk_table.proofs.Changes.same_older

pub other_keys_stay_when_an_item_is_put : (item : Held) (items : List Held) (table : ℕ) (key : List ℕ) → IsInScanOrder items
    → is_at table key item ≡ false → found table key (with_newer item items) ≡ found table key items
other_keys_stay_when_an_item_is_put = Rattle.rk_table.proofs.Changes.found_after

pub order_stays_when_an_item_is_put : (item : Held) (items : List Held) → IsInScanOrder items → IsInScanOrder (with_newer item items)
order_stays_when_an_item_is_put = Rattle.rk_table.proofs.Changes.order_after

pub one_item_more_at_most : (item : Held) (items : List Held) → length (with_newer item items) ≤ length items + 1
one_item_more_at_most = Rattle.rk_table.proofs.Changes.length_after

-- After a range was dropped none of its keys is found, and at every other key the same as before; the items stay in
-- scan order, and so are the live items of a range.
pub dropped_ranges_are_gone : (range : Range) (items : List Held) (table : ℕ) (key : List ℕ) → has range table (hash_of key) ≡ true
    → found table key (without range items) ≡ None
dropped_ranges_are_gone range [] table key inside = refl
dropped_ranges_are_gone range (item ∷ items) table key inside =
    grind (arith, in_from_at, (dropped_ranges_are_gone range items table key inside))

pub other_keys_stay_when_a_range_is_dropped : (range : Range) (items : List Held) (table : ℕ) (key : List ℕ)
    → has range table (hash_of key) ≡ false → found table key (without range items) ≡ found table key items
other_keys_stay_when_a_range_is_dropped range [] table key outside = refl
other_keys_stay_when_a_range_is_dropped range (item ∷ items) table key outside =
    grind (arith, in_from_at, (other_keys_stay_when_a_range_is_dropped range items table key outside))

pub order_stays_when_a_range_is_dropped : (range : Range) (items : List Held) → IsInScanOrder items → IsInScanOrder (without range items)
order_stays_when_a_range_is_dropped = Rattle.rk_table.proofs.Changes.order_without

pub live_items_of_a_range_are_in_order : (range : Range) (items : List Held) → IsInScanOrder items → IsInScanOrder (live_in range items)
live_items_of_a_range_are_in_order = Rattle.rk_table.proofs.Changes.order_live

-- What a scan has passed at a token and what is left there are the items, for every token and every limit. One scan
-- hands out the first of what is left, at least one item if there is one, and leaves the others at the next token,
-- which is the end exactly when none is left.
pub passed_and_left_are_the_items : (token : Token) (items : List Held) → IsInScanOrder items
    → passed token items ++ left token items ≡ items
passed_and_left_are_the_items = Rattle.rk_table.proofs.Tokens.law_whole

pub nothing_is_passed_at_first : (items : List Held) → passed first items ≡ []
nothing_is_passed_at_first = Rattle.rk_table.proofs.Tokens.passed_first

pub scans_pass_what_they_hand_out : (token : Token) (limit : ℕ) (items : List Held) → IsInScanOrder items
    → passed (next_token token limit items) items ≡ passed token items ++ batch_at token limit items
scans_pass_what_they_hand_out = Rattle.rk_table.proofs.Tokens.law_passed

pub scans_leave_the_others : (token : Token) (limit : ℕ) (items : List Held) → IsInScanOrder items
    → left token items ≡ batch_at token limit items ++ left (next_token token limit items) items
scans_leave_the_others token limit items order = left_goes_on token limit items (rises_in_order items order)

pub scans_hand_out_an_item_where_one_is_left : (token : Token) (limit : ℕ) (items : List Held) → 0 < length (left token items)
    → 0 < length (batch_at token limit items)
scans_hand_out_an_item_where_one_is_left = Rattle.rk_table.proofs.Tokens.batch_gives

pub scans_end_where_none_is_left : (token : Token) (limit : ℕ) (items : List Held) → IsInScanOrder items
    → (next_token token limit items ≡ end) ↔ (left (next_token token limit items) items ≡ [])
scans_end_where_none_is_left token limit items order = ends_where_none_left token limit items (rises_in_order items order)

-- For every limit the scans from the first token on, each at the token of the one before, hand out the items together,
-- in scan order and each once; and they come to the end, at the latest with one scan more than there are items.
pub scans_hand_out_each_item_once : (limit scans : ℕ) (items : List Held) → IsInScanOrder items → length items ≤ scans
    → scanned limit scans first items ≡ items
scans_hand_out_each_item_once limit scans items order enough = grind (arith, rises_in_order, left_first, scanned_left)

pub scans_come_to_the_end : (limit scans : ℕ) (items : List Held) → IsInScanOrder items → length items < scans
    → token_after limit scans first items ≡ end
scans_come_to_the_end limit scans items order enough = grind (arith, rises_in_order, ends_after, left_first)
