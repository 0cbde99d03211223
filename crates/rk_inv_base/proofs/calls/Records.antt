-- Records once one more item was put, which stays if nothing newer of its key is there; and what is in a scan of entries.
use Rattle.rk_inv_base.proofs.Words.{◌≡◌, ℕ, ltb, Bool, true, false, cond, List, [], ◌∷◌, Some, refl, sym, ap, ◌∙◌, subst, ◌⊎◌, inl, inr}
use Rattle.rk_inv_base.proofs.Words.{⊎_elim, arith, filter, fold, is_some, All, Contains, flat_map, is_lt, ltb-true, ordering_reverse}
use Rattle.rk_inv_base.proofs.Words.{cases_Bool, cond-true, cond-false, false≢true, All-append, All-contains, All-contains_itself, All-cons}
use Rattle.rk_inv_base.proofs.Words.{All-filter, All-from_recursion, All-nil, Contains-append_cases, Contains-append_left}
use Rattle.rk_inv_base.proofs.Words.{Contains-append_right, Ordering, Less, Equal, Greater, hash_of, has, Held, Range, Entry, same_older}
use Rattle.rk_inv_base.proofs.Words.{filter_kept, filter_left_out, found, is_in, is_newer, with_item, with_newer, is_before, IsInScanOrder}
use Rattle.rk_inv_base.proofs.Words.{newest_is, none_stands, first_stands, behind_stands, stands_cases, is_of_parts, is_of_from}
use Rattle.rk_inv_base.proofs.Words.{newest_items_are, newest_items, items_in, items_of, counts, counting, material_of, named, IsFound}
use Rattle.rk_inv_base.proofs.Words.{scan_items, All-head, All-tail, filter_passes, item_cmp, item_place, at_from_tie, not_at_before}
use Rattle.rk_inv_base.proofs.Words.{place_total}
use Rattle.std.specs.List.Sorted.{IsStrictlySortedBy}
use Rattle.rk_entry.specs.declared.entry.Entry.TheVariants as entries
use Rattle.rk_table.specs.Items.{is_at}

-- ---- lists

-- what passes a test is in what the test keeps, and nothing else is
pub filter_stands : {X : Type 0} (p : X → Bool) (xs : List X) (x : X) → Contains xs x → p x ≡ true → Contains (filter p xs) x
filter_stands p [] x stands passes = absurd (none_stands x stands)
filter_stands p (y ∷ xs) x stands passes =
    ⊎_elim
    (λ (is : y ≡ x).
    rw (filter_kept p y xs (ap p is ∙ passes)) (subst (Contains (y ∷ filter p xs)) is (first_stands y (filter p xs))))
    (λ (behind : Contains xs x).
    ⊎_elim
    (λ (kept : p y ≡ true).
    rw (filter_kept p y xs kept) (behind_stands y (filter p xs) x (filter_stands p xs x behind passes)))
    (λ (out : p y ≡ false).
    subst (λ list. Contains list x) (sym (filter_left_out p y xs out)) (filter_stands p xs x behind passes))
    (cases_Bool (p y)))
    (stands_cases y xs x stands)

pub filter_from : {X : Type 0} (p : X → Bool) (xs : List X) (x : X) → Contains (filter p xs) x → Contains xs x
filter_from p xs x stands = All-contains (Contains xs) (filter p xs) x (All-filter p (Contains xs) xs (All-contains_itself xs)) stands

-- ---- records with one more item

-- each is the item, or was there
pub put_cases : (item : Held) (items : List Held) (x : Held) → Contains (with_item item items) x → (item ≡ x) ⊎ Contains items x
put_cases item items x stands =
    let front : List Held = filter (λ other. is_before other item) items in
    let back : List Held = filter (λ other. is_before item other) items in
    ⊎_elim
    (λ (before : Contains front x). inr (filter_from (λ other. is_before other item) items x before))
    (λ (from : Contains (item ∷ back) x).
    ⊎_elim (λ (is : item ≡ x). inl is)
    (λ (behind : Contains back x). inr (filter_from (λ other. is_before item other) items x behind))
    (stands_cases item back x from))
    (Contains-append_cases front (item ∷ back) x stands)

pub newer_cases : (item : Held) (items : List Held) (x : Held) → Contains (with_newer item items) x → (item ≡ x) ⊎ Contains items x
newer_cases item items x = go (is_newer item (found item.table item.key items))
  where
    go : (newer : Bool) → Contains (cond newer (with_item item items) items) x → (item ≡ x) ⊎ Contains items x
    go true stands = put_cases item items x stands
    go false stands = inr stands

-- an item of another key is still there once the item was put
pub other_put : (item : Held) (items : List Held) (x : Held) → Contains items x → is_at item.table item.key x ≡ false → Contains (with_item item items) x
other_put item items x stands other = go (item_cmp x item) refl
  where
    go : (r : Ordering) → item_cmp x item ≡ r → Contains (with_item item items) x
    go Less is =
        Contains-append_left (filter (λ y. is_before y item) items) (item ∷ filter (λ y. is_before item y) items) x
        (filter_stands (λ y. is_before y item) items x stands (ap is_lt is))
    go Equal is = absurd (false≢true (sym other ∙ at_from_tie item.table item.key x is))
    go Greater is =
        Contains-append_right (filter (λ y. is_before y item) items) (item ∷ filter (λ y. is_before item y) items) x
        (behind_stands item (filter (λ y. is_before item y) items) x
        (filter_stands (λ y. is_before item y) items x stands
        (ap is_lt (place_total.antisymm (item_place item) (item_place x) ∙ ap ordering_reverse is))))

pub other_stays : (item : Held) (items : List Held) (x : Held) → Contains items x → is_at item.table item.key x ≡ false → Contains (with_newer item items) x
other_stays item items x stands other = go (is_newer item (found item.table item.key items))
  where
    go : (newer : Bool) → Contains (cond newer (with_item item items) items) x
    go true = other_put item items x stands other
    go false = stands

-- the item that is there of a key is found
pub stands_is_found : (items : List Held) (table : ℕ) (key : List ℕ) (x : Held) → IsInScanOrder items → Contains items x → is_at table key x ≡ true → found table key items ≡ Some x
unfolding IsStrictlySortedBy
stands_is_found [] table key x order stands here = absurd (none_stands x stands)
stands_is_found (y ∷ items) table key x order stands here =
    ⊎_elim
    (λ (is : y ≡ x). cond-true (is_at table key y) (Some y) (found table key items) (ap (is_at table key) is ∙ here) ∙ ap Some is)
    (λ (behind : Contains items x).
    let less : item_cmp y x ≡ Less =
    All-contains (λ z. item_cmp y z ≡ Less) items x (All-from_recursion (λ z. item_cmp y z ≡ Less) items order.0) behind in
    let before : is_before y x ≡ true = ap is_lt less in
    let its = is_of_parts table key x here in
    let apart : is_at table key y ≡ false =
    subst (λ (k : List ℕ). is_at table k y ≡ false) its.1
    (subst (λ (t : ℕ). is_at t x.key y ≡ false) its.0 (not_at_before x.table x.key y before)) in
    cond-false (is_at table key y) (Some y) (found table key items) apart ∙ stands_is_found items table key x order.1 behind here)
    (stands_cases y items x stands)

-- the item is there once it was put
pub put_stands : (item : Held) (items : List Held) → Contains (with_item item items) item
put_stands item items =
    Contains-append_right (filter (λ y. is_before y item) items) (item ∷ filter (λ y. is_before item y) items) item
    (first_stands item (filter (λ y. is_before item y) items))

pub newer_stands : (item : Held) (items : List Held) → is_newer item (found item.table item.key items) ≡ true → Contains (with_newer item items) item
newer_stands item items newer =
    rw (cond-true (is_newer item (found item.table item.key items)) (with_item item items) items newer) (put_stands item items)

-- what was found is found still
pub found_still : (item : Held) (items : List Held) (x : Held) → IsInScanOrder items → IsFound items x → IsFound (with_newer item items) x
found_still item items x order is =
    ⊎_elim
    (λ (same : is_at item.table item.key is.there ≡ true).
    ⊎_elim
    (λ (newer : is_newer item (found item.table item.key items) ≡ true).
    let above : ltb is.there.version item.version ≡ true =
    ap (is_newer item) (sym (stands_is_found items item.table item.key is.there order is.stands same)) ∙ newer in
    let mine = is_of_parts item.table item.key is.there same in
    let its = is_of_parts x.table x.key is.there is.same_key in
    record {
      there = item;
      stands = newer_stands item items newer;
      same_key = is_of_from x.table x.key item (sym mine.0 ∙ its.0) (sym mine.1 ∙ its.1);
      as_new = omega (arith, is.as_new, ltb-true is.there.version item.version above);
    })
    (λ (older : is_newer item (found item.table item.key items) ≡ false).
    subst (λ (list : List Held). IsFound list x) (sym (same_older item items older)) is)
    (cases_Bool (is_newer item (found item.table item.key items))))
    (λ (other : is_at item.table item.key is.there ≡ false).
    record { there = is.there; stands = other_stays item items is.there is.stands other; same_key = is.same_key; as_new = is.as_new })
    (cases_Bool (is_at item.table item.key is.there))

-- a range has an item if it has another one of its key, and only then
pub in_by_key : (range : Range) (item x : Held) → is_at item.table item.key x ≡ true → is_in range x ≡ is_in range item
in_by_key range item x here = grind (arith, is_of_parts, has, hash_of)

-- ---- scans

-- an item of an entry that counts for a range is in the range
pub entry_in : (range : Range) (entry : Entry) → counts range entry ≡ true → All (λ x. is_in range x ≡ true) (items_in entry)
entry_in range (entries.Held held) inside = All-cons (λ x. is_in range x ≡ true) held [] inside (All-nil (λ x. is_in range x ≡ true))
entry_in range _ inside = All-nil (λ x. is_in range x ≡ true)

pub entries_in : (range : Range) (list : List Entry) → All (λ entry. counts range entry ≡ true) list → All (λ x. is_in range x ≡ true) (items_of list)
entries_in range [] counted = All-nil (λ x. is_in range x ≡ true)
entries_in range (entry ∷ list) counted =
    All-append (λ x. is_in range x ≡ true) (items_in entry) (items_of list)
    (entry_in range entry (All-head (λ e. counts range e ≡ true) entry list counted))
    (entries_in range list (All-tail (λ e. counts range e ≡ true) entry list counted))

pub material_in : (range : Range) (side : ℕ → List Entry) (list : List Entry) → All (λ x. is_in range x ≡ true) (items_of (material_of range side list))
material_in range side list =
    entries_in range (material_of range side list)
    (All-append (λ entry. counts range entry ≡ true) (counting range list) (counting range (flat_map side (named range list)))
    (filter_passes (counts range) list) (filter_passes (counts range) (flat_map side (named range list))))

pub put_all_from : (items more : List Held) (x : Held) → Contains (fold (λ list item. with_item item list) items more) x → Contains items x ⊎ Contains more x
put_all_from items [] x stands = inl stands
put_all_from items (y ∷ more) x stands =
    ⊎_elim
    (λ (put : Contains (with_item y items) x).
    ⊎_elim (λ (is : y ≡ x). inr (subst (Contains (y ∷ more)) is (first_stands y more))) (λ (old : Contains items x). inl old)
    (put_cases y items x put))
    (λ (behind : Contains more x). inr (behind_stands y more x behind))
    (put_all_from (with_item y items) more x stands)

-- a scan has items of its entries alone
pub scanned_from : (material : List Entry) (x : Held) → Contains (scan_items material) x → Contains (items_of material) x
scanned_from material x stands =
    let newest : List Held = newest_items (items_of material) in
    ⊎_elim
    (λ (none : Contains [] x). absurd (none_stands x none))
    (λ (kept : Contains (filter (λ item. is_some item.value) newest) x).
    (newest_is (items_of material) x.table x.key x
    (((newest_items_are (items_of material)).newest x).0 (filter_from (λ item. is_some item.value) newest x kept))).stands)
    (put_all_from [] (filter (λ item. is_some item.value) newest) x stands)
