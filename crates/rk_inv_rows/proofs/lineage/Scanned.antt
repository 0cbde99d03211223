-- The scan of entries has the newest item of each key, unless that is a tombstone, and nothing else.
use Rattle.std.proofs.Common.{◌≡◌, Bool, true, false, List, [], ◌∷◌, Some, sym, ◌∙◌, ⊎_elim, filter, fold, is_some, Contains}
use Rattle.rk_inv_base.proofs.Words.{cases_Bool, Held, Entry, with_item, behind_stands, first_stands, none_stands, stands_cases, is_of_from}
use Rattle.rk_inv_base.proofs.Words.{is_of_parts, newest_items_are, newest, newest_items, items_of, scan_items}
use Rattle.rk_inv_rows.proofs.Words.{filter_from, filter_stands, other_put, put_all_from, put_stands}
use Rattle.rk_table.specs.Items.{is_at}

-- no other item of a key is among some
abbrev pub IsAlone : List Held → Held → Type 0
IsAlone items x = (y : Held) → Contains items y → is_at x.table x.key y ≡ true → y ≡ x

-- an item that is there stays there if no other one of its key is put
put_stays : (done items : List Held) (x : Held) → IsAlone items x → Contains done x → Contains (fold (λ list item. with_item item list) done items) x
put_stays done [] x alone stands = stands
put_stays done (y ∷ items) x alone stands =
    put_stays (with_item y done) items x (λ z at. alone z (behind_stands y items z at))
    (⊎_elim
    (λ (same : is_at y.table y.key x ≡ true).
    let parts = is_of_parts y.table y.key x same in
    let is : y ≡ x = alone y (first_stands y items) (is_of_from x.table x.key y (sym parts.0) (sym parts.1)) in
    rw (← is) (put_stands y done))
    (λ (other : is_at y.table y.key x ≡ false). other_put y done x stands other)
    (cases_Bool (is_at y.table y.key x)))

-- and an item that is put is there then
put_each : (done items : List Held) (x : Held) → IsAlone items x → Contains items x → Contains (fold (λ list item. with_item item list) done items) x
put_each done [] x alone stands = absurd (none_stands x stands)
put_each done (y ∷ items) x alone stands =
    ⊎_elim
    (λ (is : y ≡ x).
    put_stays (with_item y done) items x (λ z at. alone z (behind_stands y items z at))
    (rw (← is) (put_stands y done)))
    (λ (behind : Contains items x). put_each (with_item y done) items x (λ z at. alone z (behind_stands y items z at)) behind)
    (stands_cases y items x stands)

module _ (list : List Entry) where
  -- whether an item is no tombstone
  abbrev is_live : Held → Bool
  is_live item = is_some item.value

  abbrev kept : List Held
  kept = filter is_live (newest_items (items_of list))

  -- what is kept is the newest of its key
  kept_newest : (x : Held) → Contains kept x → newest (items_of list) x.table x.key ≡ Some x
  kept_newest x stands = ((newest_items_are (items_of list)).newest x).0 (filter_from is_live (newest_items (items_of list)) x stands)

  pub scan_newest : (x : Held) → Contains (scan_items list) x → newest (items_of list) x.table x.key ≡ Some x
  scan_newest x stands =
      ⊎_elim (λ (none : Contains [] x). absurd (none_stands x none)) (λ (there : Contains kept x). kept_newest x there)
      (put_all_from [] kept x stands)

  pub newest_scanned : (x : Held) → newest (items_of list) x.table x.key ≡ Some x → is_some x.value ≡ true → Contains (scan_items list) x
  newest_scanned x is lives =
      put_each [] kept x
      (λ y stands at.
      let parts = is_of_parts x.table x.key y at in
      let one : Some y ≡ Some x =
      sym (kept_newest y stands) ∙ (λ i. newest (items_of list) (parts.0 i) (parts.1 i)) ∙ is in
      let same : y ≡ x = cc in same)
      (filter_stands is_live (newest_items (items_of list)) x (((newest_items_are (items_of list)).newest x).1 is) lives)
