-- What is found after an item was put, and after a range was dropped.
use Rattle.std.proofs.Common.{◌≡◌, ℕ, ◌+◌, ◌≤◌, Bool, length, arith, length-append, true, false, cond, not, List, [], ◌∷◌, ◌++◌, Some, None, refl, sym, ap, ◌∙◌, ⊎_elim}
use Rattle.std.specs.Cmp.{tied_itself, tied_back}
use Rattle.std.specs.Cmp.Lexicographic.{bytes_decides}
use Rattle.std.specs.List.{AllByRecursion, filter}
use Rattle.std.specs.List.Sorted.{IsStrictlySortedBy}
use Rattle.std.specs.Ordering.{is_lt, ordering_reverse}
use Rattle.std.specs.declared.cmp.Ordering.TheVariants.{Less, Equal}
use Rattle.std.proofs.lemmas.Bool.{and_parts, cases_Bool, cond-true, cond-false, eqb-true, false_from_ne_true, false≢true}
use Rattle.std.proofs.lemmas.List.Elements.{filter_passes}
use Rattle.std.proofs.lemmas.List.Kept.{IsStrictlySortedBy-filter}
use Rattle.rk_types.specs.declared.held.Held.{Held}
use Rattle.rk_types.specs.declared.range.Range.{Range}
use Rattle.rk_types.specs.Hashing.{hash_of}
use Rattle.rk_types.specs.Range.{has}
use Rattle.rk_table.specs.Order.{Place, place_cmp, place_of, item_place, item_cmp, is_before, IsInScanOrder}
use Rattle.rk_table.specs.Items.{found, is_at, is_in, is_newer, with_item, with_newer, without, live_in, is_live_in}
use Rattle.rk_table.specs.Places.{comes_before}
use Rattle.rk_table.proofs.Ordered.{filter_kept, filter_left_out}
use Rattle.rk_table.proofs.InOrder.{place_total}
use Rattle.rk_table.proofs.Cuts.{less_is}
use Rattle.rk_table.proofs.Found.{all_behind, at_from_tie, at_or_behind, behind, behind_all, find_past, not_at_before, order_with_item, tie_from_at}

-- an item is the one of its own key
at_itself : (item : Held) → is_at item.table item.key item ≡ true
at_itself item = at_from_tie item.table item.key item (tied_itself place_total (item_place item))

-- none comes before a place if all are behind
before_none : (place : Place) (items : List Held) → AllByRecursion (λ other. place_cmp place (item_place other) ≡ Less) items → filter (comes_before place) items ≡ []
before_none place [] all = refl
before_none place (item ∷ items) all =
    filter_left_out (comes_before place) item items (ap is_lt (place_total.antisymm (item_place item) place ∙ ap ordering_reverse all.0))
    ∙ before_none place items all.1

-- a key that is not the item's is found as before
pub found_other : (item : Held) (items : List Held) (table : ℕ) (key : List ℕ) → IsInScanOrder items → is_at table key item ≡ false
    → found table key (with_item item items) ≡ found table key items
unfolding IsStrictlySortedBy
found_other item [] table key order other = cond-false (is_at table key item) (Some item) None other
found_other item (x ∷ items) table key order other =
    let place : Place = item_place item in
    let p : Held → Bool = is_at table key in
    ⊎_elim
    (λ (before : comes_before place x ≡ true).
    let not_behind : is_lt (place_cmp place (item_place x)) ≡ false = ap is_lt (place_total.antisymm place (item_place x) ∙ ap ordering_reverse (less_is _ before)) in
    (λ i. found table key (filter_kept (comes_before place) x items before i ++ item ∷ filter_left_out (λ o. is_lt (place_cmp place (item_place o))) x items not_behind i))
    ∙ ap (λ o. cond (p x) (Some x) o) (found_other item items table key order.1 other))
    (λ (from : comes_before place x ≡ false).
    let rest : AllByRecursion (λ o. place_cmp place (item_place o) ≡ Less) items = all_behind place x items from order.0 in
    let front : filter (comes_before place) (x ∷ items) ≡ [] = filter_left_out (comes_before place) x items from ∙ before_none place items rest in
    ⊎_elim
    (λ (tie : place_cmp (item_place x) place ≡ Equal).
    let out : behind place (x ∷ items) ≡ items =
    filter_left_out (λ o. is_lt (place_cmp place (item_place o))) x items (ap is_lt (tied_back place_total (item_place x) place tie)) ∙ behind_all place items rest in
    let not_it : p x ≡ false =
    false_from_ne_true _ (λ here. false≢true (sym other ∙
    at_from_tie table key item (sym (place_total.congr (item_place x) place (place_of table key) tie) ∙ tie_from_at table key x here))) in
    (λ i. found table key (front i ++ item ∷ out i))
    ∙ cond-false (p item) (Some item) (found table key items) other
    ∙ sym (cond-false (p x) (Some x) (found table key items) not_it))
    (λ (less : place_cmp place (item_place x) ≡ Less).
    (λ i. found table key (front i ++ item ∷ behind_all place (x ∷ items) (less, rest) i))
    ∙ cond-false (p item) (Some item) (found table key (x ∷ items)) other)
    (at_or_behind place x _ refl from))
    (cases_Bool (comes_before place x))

-- the same after a newer item was put
pub found_newer : (item : Held) (items : List Held) → IsInScanOrder items → is_newer item (found item.table item.key items) ≡ true
    → found item.table item.key (with_newer item items) ≡ Some item
found_newer item items order newer = grind (arith, cond-true, find_past, not_at_before, filter_passes, at_itself, item.table, item.key)

pub same_older : (item : Held) (items : List Held) → is_newer item (found item.table item.key items) ≡ false → with_newer item items ≡ items
same_older item items older = cond-false (is_newer item (found item.table item.key items)) (with_item item items) items older

pub found_after : (item : Held) (items : List Held) (table : ℕ) (key : List ℕ) → IsInScanOrder items → is_at table key item ≡ false
    → found table key (with_newer item items) ≡ found table key items
found_after item items table key order other = grind (arith, found_other)

pub order_after : (item : Held) (items : List Held) → IsInScanOrder items → IsInScanOrder (with_newer item items)
order_after item items order = grind (arith, order_with_item)

-- whether an item is in a range is decided by its key
pub in_from_at : (range : Range) (table : ℕ) (key : List ℕ) (item : Held) → is_at table key item ≡ true → is_in range item ≡ has range table (hash_of key)
in_from_at range table key item here = grind (arith, and_parts, eqb-true, bytes_decides, has, hash_of)

pub order_without : (range : Range) (items : List Held) → IsInScanOrder items → IsInScanOrder (without range items)
order_without range items order = IsStrictlySortedBy-filter item_cmp (λ x. not (is_in range x)) items order

pub order_live : (range : Range) (items : List Held) → IsInScanOrder items → IsInScanOrder (live_in range items)
order_live range items order = IsStrictlySortedBy-filter item_cmp (is_live_in range) items order

-- two tests of which no item passes both pass no more items than there are
length_of_two : (p q : Held → Bool) → ((item : Held) → p item ≡ true → q item ≡ false) → (items : List Held)
    → length (filter p items) + length (filter q items) ≤ length items
length_of_two p q apart [] = omega arith
length_of_two p q apart (item ∷ items) = grind (arith, filter_kept, filter_left_out, cases_Bool, (length_of_two p q apart items))

before_not_behind : (item other : Held) → is_before other item ≡ true → is_before item other ≡ false
before_not_behind item other before = ap is_lt (place_total.antisymm (item_place item) (item_place other) ∙ ap ordering_reverse (less_is _ before))

-- a put adds an item at most
pub length_after : (item : Held) (items : List Held) → length (with_newer item items) ≤ length items + 1
length_after item items = go (is_newer item (found item.table item.key items))
  where
    go : (newer : Bool) → length (cond newer (with_item item items) items) ≤ length items + 1
    go true =
        let front : List Held = filter (λ other. is_before other item) items in
        let back : List Held = filter (λ other. is_before item other) items in
        let whole : length (front ++ item ∷ back) ≡ length front + length (item ∷ back) = length-append front (item ∷ back) in
        let few : length front + length back ≤ length items = length_of_two (λ other. is_before other item) (λ other. is_before item other) (before_not_behind item) items in
        omega arith
    go false = omega arith
