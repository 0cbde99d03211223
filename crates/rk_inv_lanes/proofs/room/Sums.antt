-- How many bytes what is logged in a lane has: no more than its logs. So items in strict order that are logged have no more either, and
-- records are no more than the logs have bytes.
use Rattle.std.proofs.Common.{All, Bool, Contains, Less, List, Ordering, Some, [], ap, arith, cond, false, flat_map, is_lt, length, map}
use Rattle.std.proofs.Common.{nat_cmp, refl, subst, sum_by, sym, true, unwrap_or, ℕ, ⊎_elim, ◌++◌, ◌+◌, ◌∙◌, ◌∷◌, ◌≡◌, ◌≤◌}
use Rattle.rk_inv_base.proofs.Words.{All-contains, All-head, All-tail, Contains-append_left, Contains-append_right, Entry, Held}
use Rattle.rk_inv_base.proofs.Words.{IsFormedMaster, IsWellFormed, Limits, Master, NumberMap, World, as_entries, behind_stands}
use Rattle.rk_inv_base.proofs.Words.{bytes_of_logs, cut, eq_by_cmp, first_stands, get, items_of, log_bytes, new_master, none_stands}
use Rattle.rk_inv_base.proofs.Words.{spelled, stands_cases, sum-map, sum_by-append, sum_by-cons, spelled_of}
use Rattle.std.proofs.lemmas.List.Concat.{length-flat_map}
use Rattle.std.proofs.lemmas.List.Recursion.{is_sum_by}
use Rattle.std.proofs.lemmas.List.Sums.{sum_by-le-sum_by}
use Rattle.std.proofs.lemmas.Map.Views.{All-after_first}
use Rattle.std.specs.Cmp.{IsTotalOrder, tied_itself}
use Rattle.rk_table.proofs.InOrder.{item_total as table_total}
use Rattle.rk_table.specs.Order.{item_cmp as table_cmp}
use Rattle.rk_overlay.proofs.Ordered.{item_total}
use Rattle.rk_overlay.specs.Overlay.{item_cmp}
use Rattle.rk_inv_wellformed.proofs.bytes.PullBytes.{items_few}
use Rattle.rk_inv_wellformed.proofs.bytes.Sizes.{bytes_spelled}
use Rattle.rk_inv_wellformed.proofs.maps.Numbered.{numbered_order}
use Rattle.rk_inv_wellformed.proofs.masters.Sealing.{item_some, items_spelled}
use Rattle.rk_inv_lanes.specs.room.Logged.{HasRecordsOf, IsLogged, logged_by}
use Rattle.rk_inv_events.proofs.Words.{All_pairs, by_found}
use Rattle.std.specs.List.Sorted.{IsStrictlySortedBy}
use Rattle.rk_entry.specs.Entries.{spelled_all}

-- ---- sums

-- a number if a test holds, and else 0, is no greater than the number
pub where_few : (test : Bool) (n : ℕ) → cond test n 0 ≤ n
where_few true n = omega arith
where_few false n = omega arith

module _ {X : Type 0} where
  -- a sum whose terms are no greater than those of another, and one of them less by so much, is less by so much
  pub sum_less : (f g : X → ℕ) (less : ℕ) (xs : List X) (x : X) → ((y : X) → f y ≤ g y) → Contains xs x → f x + less ≤ g x
      → sum_by f xs + less ≤ sum_by g xs
  sum_less f g less [] x each stands it = absurd (none_stands x stands)
  sum_less f g less (y ∷ xs) x each stands it = ⊎_elim (λ (same : y ≡ x). omega
      (arith, it, ap f same, ap g same, sum_by-le-sum_by f g xs each, sum_by-cons f y xs, sum_by-cons g y xs))
      (λ (behind : Contains xs x). omega
      (arith, sum_less f g less xs x each behind it, each y, sum_by-cons f y xs, sum_by-cons g y xs))
      (stands_cases y xs x stands)

  -- the sum of things in strict order that are in a list is no greater than that of the list, if none counts for more in it
  sorted_within : (cmp : X → X → Ordering) (size most : X → ℕ) (xs ys : List X) → IsTotalOrder cmp → IsStrictlySortedBy cmp xs
      → ((x : X) → Contains xs x → Contains ys x) → ((x : X) → Contains xs x → size x ≤ most x) → sum_by size xs ≤ sum_by most ys
  unfolding IsStrictlySortedBy
  sorted_within cmp size most [] ys total order within few = omega arith
  sorted_within cmp size most (x ∷ xs) ys total order within few =
      let later : X → ℕ = λ y. cond (is_lt (cmp x y)) (most y) 0 in
      let behind : All (λ y. cmp x y ≡ Less) xs = All-after_first cmp x xs order in
      omega (
        arith,
        sum_by-cons size x xs,
        sorted_within cmp size later xs ys total order.1 (λ y stands. within y (behind_stands x xs y stands))
            (λ y stands. rw (ap is_lt (All-contains (λ y. cmp x y ≡ Less) xs y behind stands)) (few y (behind_stands x xs y stands))),
        sum_less later most (size x) ys x (λ y. where_few (is_lt (cmp x y)) (most y)) (within x (first_stands x xs))
            (subst (λ (b : Bool). cond b (most x) 0 + size x ≤ most x) (sym (ap is_lt (tied_itself total x)))
            (omega (arith, few x (first_stands x xs)))),
      )

-- ---- what is logged

-- all that is logged in a lane, as one list
abbrev pub all_logged : World → List Held
all_logged w = flat_map (λ entry. logged_by entry.1) w.masters

-- what the log of a master of a map has is among all
found_stands : (masters : NumberMap Master) (number : ℕ) (master : Master) (item : Held) → get masters number ≡ Some master
    → Contains (logged_by master) item → Contains (flat_map (λ entry. logged_by entry.1) masters) item
found_stands [] number master item found stands = absurd (cc found)
found_stands (first ∷ rest) number master item found stands =
    let others : List Held = flat_map (λ entry. logged_by entry.1) rest in
    elim (eq_by_cmp nat_cmp number first.0) as (λ b. cond b (Some first.1) (get rest number) ≡ Some master → Contains (logged_by first.1 ++ others) item) [
      | true ↦ λ same.
          let is : first.1 ≡ master = cc same in
          Contains-append_left (logged_by first.1) others item (rw is stands)
      | false ↦ λ later. Contains-append_right (logged_by first.1) others item (found_stands rest number master item later stands)
    ] found

-- what is logged is there
pub logged_stands : {w : World} {item : Held} → IsLogged w item → Contains (all_logged w) item
logged_stands {w} {item} logged =
    by_found (λ found. Contains (logged_by (unwrap_or found (new_master logged.master []))) item → Contains (all_logged w) item)
    (get w.masters logged.master) (λ none stands. absurd (none_stands item stands))
    (λ master there stands. found_stands w.masters logged.master master item there stands) logged.stands

-- ---- its bytes

-- the main segments have the bytes of their entries
entries_bytes : (list : List Entry) → length (spelled_all list) ≡ sum_by (λ (b : List ℕ). length b) (cut list)
unfolding spelled_all
entries_bytes list = length-flat_map spelled list ∙ sym (bytes_spelled list)

-- side segments have the bytes of their items
sides_bytes : (sides : List (List Held))
    → sum_by (λ (b : List ℕ). length b) (map (λ items. spelled_all (as_entries items)) sides) ≡ sum_by spelled_of (flat_map (λ items. items) sides)
sides_bytes [] = refl
sides_bytes (items ∷ sides) = search (sum_by-cons, as_entries, sum_by-append, items_spelled, sum-map, (sides_bytes sides))

-- the items of a master's log have no more bytes than its log
master_bytes : {limits : Limits} {number : ℕ} {master : Master} → IsFormedMaster limits number master
    → sum_by spelled_of (logged_by master) ≤ log_bytes master
master_bytes {master} formed =
    omega (
      arith,
      sum_by-append spelled_of (items_of master.log.entries) (flat_map (λ items. items) master.sides),
      items_few master.log.entries,
      items_spelled (items_of master.log.entries),
      sum-map spelled_of (items_of master.log.entries),
      entries_bytes master.log.entries,
      sides_bytes master.sides,
      ap (λ (sides : List (List ℕ)). sum_by (λ (b : List ℕ). length b) sides) formed.spelled,
    )

-- so have those of all masters
masters_bytes : (masters : NumberMap Master) → All (λ entry. sum_by spelled_of (logged_by entry.1) ≤ log_bytes entry.1) masters
    → sum_by spelled_of (flat_map (λ entry. logged_by entry.1) masters) ≤ sum_by (λ entry. log_bytes entry.1) masters
masters_bytes [] all = omega arith
masters_bytes (first ∷ rest) all =
    let Few : ℕ × Master → Type 0 = λ entry. sum_by spelled_of (logged_by entry.1) ≤ log_bytes entry.1 in
    omega (
      arith,
      All-head Few first rest all,
      masters_bytes rest (All-tail Few first rest all),
      sum_by-append spelled_of (logged_by first.1) (flat_map (λ entry. logged_by entry.1) rest),
      sum_by-cons (λ (entry : ℕ × Master). log_bytes entry.1) first rest,
    )

-- all that is logged has no more bytes than the logs
pub logged_bytes : {w : World} → IsWellFormed w → sum_by spelled_of (all_logged w) ≤ bytes_of_logs w
logged_bytes {w} formed =
    omega (
      arith,
      masters_bytes w.masters
          (All_pairs (λ number master. sum_by spelled_of (logged_by master) ≤ log_bytes master) w.masters
          (numbered_order w.masters w.coordinator.masters formed.masters_are)
          (λ number master there. master_bytes (formed.masters number master there))),
      sum-map (λ (entry : ℕ × Master). log_bytes entry.1) w.masters,
    )

-- ---- what has no more

-- items in order that are logged have no more bytes than all logs
pub apart_bytes : {w : World} (items : List Held) → IsWellFormed w → IsStrictlySortedBy item_cmp items → All (IsLogged w) items
    → sum_by spelled_of items ≤ bytes_of_logs w
apart_bytes {w} items formed order logged =
    omega (
      arith,
      logged_bytes formed,
      sorted_within item_cmp spelled_of spelled_of items (all_logged w) item_total order
          (λ item stands. logged_stands (All-contains (IsLogged w) items item logged stands)) (λ item stands. omega arith),
    )

-- and records are no more than all logs have bytes
pub records_few : {w : World} (master : Master) → IsWellFormed w → HasRecordsOf (IsLogged w) master → length master.records ≤ bytes_of_logs w
records_few {w} master formed has =
    omega (
      arith,
      logged_bytes formed,
      is_sum_by (λ (items : List Held). length items) (λ item. 1) refl (λ item items. omega arith) master.records,
      sorted_within table_cmp (λ item. 1) spelled_of master.records (all_logged w) table_total has.ordered
          (λ item stands. logged_stands (All-contains (IsLogged w) master.records item has.logged stands)) (λ item stands. item_some item),
    )
