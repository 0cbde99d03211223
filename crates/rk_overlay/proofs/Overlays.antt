-- The newest items of a list in order: which they are, that no other list has just them, and overlays on overlays.
use Rattle.std.proofs.Common.{◌≡◌, ℕ, eqb, List, [], ◌∷◌, Option, Some, None, refl, sym, ap, ◌∙◌, subst, ⊎_elim, arith}
use Rattle.std.specs.Cmp.{tied_then}
use Rattle.std.specs.Cmp.Lexicographic.{slice_cmp}
use Rattle.std.specs.List.{Contains, filter_map, cons_option}
use Rattle.std.specs.List.Sorted.{IsStrictlySortedBy}
use Rattle.std.specs.Ordering.{nat_cmp, is_eq, ordering_then}
use Rattle.std.specs.declared.cmp.Ordering.TheVariants.{Equal}
use Rattle.std.proofs.lemmas.Bool.{and_parts, eqb-true}
use Rattle.std.proofs.lemmas.Bool.Decides.{nat_tests}
use Rattle.std.proofs.lemmas.Map.Text.{is_eq-slice_cmp}
use Rattle.std.proofs.lemmas.Slice.Eq.{bytes_eq-Decides}
use Rattle.rk_types.specs.declared.held.Held.{Held}
use Rattle.rk_overlay.specs.Newest.{newest}
use Rattle.rk_overlay.specs.Plain.{IsPlain}
use Rattle.rk_overlay.specs.Overlay.{item_cmp, newest_items, IsOverlayOf}
use Rattle.rk_overlay.proofs.Members.{none_stands, first_stands, behind_stands, stands_cases}
use Rattle.rk_overlay.proofs.Names.{is_of_parts}
use Rattle.rk_overlay.proofs.Bridges.{newest_is, newest_none, newest_found}
use Rattle.rk_overlay.proofs.Ordered.{item_total, order_folded, folded_cases, folded_stands, one_order}

-- what a map that leaves out some gives comes from an item
pub filtered_from : {X Y : Type 0} (h : X → Option Y) (xs : List X) (y : Y) → Contains (filter_map h xs) y → (x : X) × Contains xs x × (h x ≡ Some y)
filtered_from h [] y at = absurd (none_stands y at)
filtered_from {X} {Y} h (x ∷ xs) y at = go (h x) refl at (filtered_from h xs y)
  where
    go : (o : Option Y) → h x ≡ o → Contains (cons_option o (filter_map h xs)) y
        → (Contains (filter_map h xs) y → (z : X) × Contains xs z × (h z ≡ Some y)) → (z : X) × Contains (x ∷ xs) z × (h z ≡ Some y)
    go None is at rest = let from = rest at in (from.0, behind_stands x xs from.0 from.1, from.2)
    go (Some w) is at rest =
        ⊎_elim
        (λ (same : w ≡ y). (x, first_stands x xs, is ∙ ap Some same))
        (λ (behind : Contains (filter_map h xs) y). let from = rest behind in (from.0, behind_stands x xs from.0 from.1, from.2))
        (stands_cases w (filter_map h xs) y at)

-- and it has what it gives of each item
pub filtered_stands : {X Y : Type 0} (h : X → Option Y) (xs : List X) (x : X) (y : Y) → Contains xs x → h x ≡ Some y → Contains (filter_map h xs) y
filtered_stands h [] x y at is = absurd (none_stands x at)
filtered_stands {X} {Y} h (z ∷ xs) x y at is = go (h z) refl (λ behind. filtered_stands h xs x y behind is)
  where
    go : (o : Option Y) → h z ≡ o → (Contains xs x → Contains (filter_map h xs) y) → Contains (cons_option o (filter_map h xs)) y
    go None none rest =
        ⊎_elim
        (λ (same : z ≡ x). let other : h x ≡ None = ap h (sym same) ∙ none in absurd (cc (is, other)))
        (λ (behind : Contains xs x). rest behind)
        (stands_cases z xs x at)
    go (Some w) some rest =
        ⊎_elim
        (λ (same : z ≡ x).
        let other : h x ≡ Some w = ap h (sym same) ∙ some in
        let its : w ≡ y = cc (is, other) in
        subst (Contains (w ∷ filter_map h xs)) its (first_stands w (filter_map h xs)))
        (λ (behind : Contains xs x). behind_stands w (filter_map h xs) y (rest behind))
        (stands_cases z xs x at)

-- numbers compare as equal just if they are
pub same_number : (a b : ℕ) → is_eq (nat_cmp a b) ≡ eqb a b
same_number a b = grind (arith, nat_tests)

-- items that the order does not tell apart have one table and one key
pub tie_parts : (x y : Held) → item_cmp x y ≡ Equal → (x.table ≡ y.table) × (x.key ≡ y.key)
tie_parts x y tie =
    let first = nat_cmp x.version y.version in
    let second = nat_cmp x.table y.table in
    let third = slice_cmp nat_cmp x.key y.key in
    let both = and_parts (is_eq first) (is_eq (ordering_then second third)) (tied_then first (ordering_then second third) ∙ ap is_eq tie) in
    let rest = and_parts (is_eq second) (is_eq third) (tied_then second third ∙ both.1) in (
      eqb-true x.table y.table (sym (same_number x.table y.table) ∙ rest.0),
      (bytes_eq-Decides x.key y.key).0 (sym (is_eq-slice_cmp x.key y.key) ∙ rest.1),
    )

-- the newest item of a record is the newest of its own table and key
pub newest_own : (items : List Held) (table : ℕ) (key : List ℕ) (item : Held) → newest items table key ≡ Some item → newest items item.table item.key ≡ Some item
newest_own items table key item is =
    let its = is_of_parts table key item (newest_is items table key item is).of_record in
    (λ i. newest items (its.0 i) (its.1 i)) ∙ is

-- of two newest items with one table and one key
one_newest : (items : List Held) (x y : Held) → newest items x.table x.key ≡ Some x → newest items y.table y.key ≡ Some y → x.table ≡ y.table → x.key ≡ y.key → x ≡ y
one_newest items x y first second table key = grind arith

-- the newest items are in the list of them
abbrev candidates : List Held → List Held
candidates items = filter_map (λ item. newest items item.table item.key) items

candidate_own : (items : List Held) (x : Held) → Contains (candidates items) x → newest items x.table x.key ≡ Some x
candidate_own items x at =
    let from = filtered_from (λ item. newest items item.table item.key) items x at in
    newest_own items from.0.table from.0.key x from.2

has_newest : (items : List Held) (x : Held) → newest items x.table x.key ≡ Some x → Contains (newest_items items) x
has_newest items x is =
    folded_stands item_cmp item_total (λ y. newest items y.table y.key ≡ Some y)
    (λ y z first second tie. let same = tie_parts z y tie in one_newest items y z first second (sym same.0) (sym same.1))
    [] (candidates items) (λ y at. absurd (none_stands y at)) (candidate_own items) x
    (filtered_stands (λ item. newest items item.table item.key) items x x (newest_is items x.table x.key x is).stands is)

-- and no others are
has_newest_alone : (items : List Held) (x : Held) → Contains (newest_items items) x → newest items x.table x.key ≡ Some x
has_newest_alone items x at =
    ⊎_elim
    (λ (none : Contains [] x). absurd (none_stands x none))
    (λ (candidate : Contains (candidates items) x). candidate_own items x candidate)
    (folded_cases item_cmp item_total [] (candidates items) x at)

no_items_in_order : IsStrictlySortedBy item_cmp []
unfolding IsStrictlySortedBy
no_items_in_order = tt

pub newest_items_are : (items : List Held) → IsOverlayOf items (newest_items items)
newest_items_are items = record {
  newest = λ item. (has_newest_alone items item, has_newest items item);
  order = order_folded item_cmp item_total [] (candidates items) no_items_in_order;
}

-- no other list in order has just the newest items
pub newest_items_alone : (items result : List Held) → IsOverlayOf items result → result ≡ newest_items items
newest_items_alone items result is =
    let own = newest_items_are items in
    one_order item_cmp item_total result (newest_items items) is.order own.order
    (λ z. (λ at. (own.newest z).1 ((is.newest z).0 at), λ at. (is.newest z).1 ((own.newest z).0 at)))

-- lists with the same newest items make one list of them
pub newest_items_same : (xs ys : List Held) → ((table : ℕ) (key : List ℕ) → newest xs table key ≡ newest ys table key) → newest_items xs ≡ newest_items ys
newest_items_same xs ys same =
    let own = newest_items_are xs in
    newest_items_alone ys (newest_items xs) (record {
      newest = λ z. (
        λ at. sym (same z.table z.key) ∙ (own.newest z).0 at,
        λ is. (own.newest z).1 (same z.table z.key ∙ is),
      );
      order = own.order;
    })

-- the list of the newest items is plain
pub newest_items_plain : (items : List Held) → IsPlain (newest_items items)
newest_items_plain items x y x_at y_at table key version =
    let own = newest_items_are items in
    one_newest items x y ((own.newest x).0 x_at) ((own.newest y).0 y_at) table key

-- the newest of the newest items are those of the list
pub newest_of_newest : (items : List Held) (table : ℕ) (key : List ℕ) → newest (newest_items items) table key ≡ newest items table key
newest_of_newest items table key = go (newest items table key) refl
  where
    stood : (x : Held) → Contains (newest_items items) x → Contains items x
    stood x at = (newest_is items x.table x.key x (((newest_items_are items).newest x).0 at)).stands

    go : (o : Option Held) → newest items table key ≡ o → newest (newest_items items) table key ≡ newest items table key
    go None none = (newest_none (newest_items items) table key).1 (λ x at. (newest_none items table key).0 none x (stood x at)) ∙ sym none
    go (Some x) is =
        let best = newest_is items table key x is in
        newest_found (newest_items items) table key x (newest_items_plain items) (record {
          stands = ((newest_items_are items).newest x).1 (newest_own items table key x is);
          of_record = best.of_record;
          greatest = λ other at of. best.greatest other (stood other at) of;
        }) ∙ sym is
