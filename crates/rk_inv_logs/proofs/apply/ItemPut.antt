-- Records with the item of an entry that is applied: what was found is found, the item is, and they have the newest of each key still.
use Rattle.std.proofs.Common.{◌≡◌, ℕ, ◌<◌, Bool, true, false, List, [], ◌∷◌, Option, Some, None, refl, sym, ap, ◌∙◌, subst, ⊎_elim, inl}
use Rattle.std.proofs.Common.{inr, ◌⊎◌, arith, find, Contains, lt-ltb, ltb-false}
use Rattle.rk_inv_base.proofs.Words.{cases_Bool, false≢true, flat_map-append, All-contains, All-head, Held, Range, name-swap, Entry}
use Rattle.rk_inv_base.proofs.Words.{order_after, same_older, found, is_in, is_newer, with_newer, IsInScanOrder, newest_is, newer_item}
use Rattle.rk_inv_base.proofs.Words.{newest_from-append, with_newer_here, with_newer_other, behind_stands, first_stands, none_stands}
use Rattle.rk_inv_base.proofs.Words.{stands_cases, is_of_from, is_of_parts, is_of, newest, none_found, items_in, items_of, counts, Written}
use Rattle.rk_inv_base.proofs.Words.{IsAboveAll, IsBare, IsFound, IsTableOf}
use Rattle.rk_inv_logs.proofs.Words.{found_still, in_by_key, newer_cases, newer_stands, other_stays, stands_is_found, append_nil}
use Rattle.rk_overlay.specs.Newest.{with_newer as found_newer}
use Rattle.rk_table.specs.Items.{is_at}
use Rattle.rk_inv_base.proofs.pulls.ItemsPulled.{bare_beside, table_beside}
use Rattle.rk_inv_logs.specs.apply.Small.{with_item_of}
use Rattle.rk_inv_logs.proofs.apply.Inserted.{AreNewest, IsInserted, newest_inserted, same_items}
use Rattle.rk_entry.specs.declared.entry.Entry.TheVariants as entries

-- what is found is there, and passes
found_at : (p : Held → Bool) (items : List Held) (item : Held) → find p items ≡ Some item → Contains items item × (p item ≡ true)
found_at p [] item is = absurd (cc is)
found_at p (first ∷ items) item is = elim (cases_Bool (p first)) [
  | inl passes ↦
      let found : Some first ≡ Some item = rw passes at is in
      let same : first ≡ item = cc found in
      (subst (Contains (first ∷ items)) same (first_stands first items), subst (λ (x : Held). p x ≡ true) same passes)
  | inr fails ↦ let later = found_at p items item (rw fails at is) in (behind_stands first items item later.0, later.1)
]

-- ---- what is found

-- each is the item, or was there
pub item_cases : (entry : Entry) (records : List Held) (x : Held) → Contains (with_item_of entry records) x → Contains (items_in entry) x ⊎ Contains records x
item_cases (entries.Held held) records x at =
    elim (newer_cases held records x at) [ inl is ↦ inl (subst (Contains (held ∷ [])) is (first_stands held [])) | inr was ↦ inr was ]
item_cases _ records x at = inr at

-- what was found is found
pub found_with : (entry : Entry) (records : List Held) (x : Held) → IsInScanOrder records → IsFound records x → IsFound (with_item_of entry records) x
found_with (entries.Held held) records x order is = found_still held records x order is
found_with _ records x order is = is

-- and so is the item
pub put_found : (item : Held) (records : List Held) → IsFound (with_newer item records) item
put_found item records = grind (arith, cases_Bool, is_newer, found, newer_stands, is_of_from, same_older, found_at, ltb-false)

pub item_found : (entry : Entry) (records : List Held) (x : Held) → Contains (items_in entry) x → IsFound (with_item_of entry records) x
item_found entry records x at = grind (arith, stands_cases, with_newer, put_found, none_stands)

-- a range has none of the records with an entry of another one
pub bare_with : (range : Range) (entry : Entry) (records : List Held) (from : ℕ) (w : Written) → counts range entry ≡ false → IsBare range from w records → IsBare range from w (with_item_of entry records)
bare_with range (entries.Held held) records from w outside bare = bare_beside range held records outside from w bare
bare_with range _ records from w outside bare = bare

-- ---- the newest of each key

-- an entry of another range leaves what records have of a range
pub table_apart : (range : Range) (entry : Entry) (material : List Entry) (records : List Held) → counts range entry ≡ false → IsTableOf range material records → IsTableOf range material (with_item_of entry records)
table_apart range (entries.Held held) material records outside table = table_beside range held records outside material table
table_apart range _ material records outside table = table

module _ (range : Range) (old now : List Entry) (records : List Held) (order : IsInScanOrder records) (table : IsTableOf range old records) where
  -- an item that is above all of its key takes the place of what is there
  module _ (item : Held) (put : IsInserted (entries.Held item) old now) (above : AreNewest old (entries.Held item)) (inside : is_in range item ≡ true) where
    newest_now : (t : ℕ) (k : List ℕ) → newest (items_of now) t k ≡ found_newer (newest (items_of old)) item t k
    newest_now t k = ap (λ (l : List Entry). newest (items_of l) t k) (sym (append_nil now))
        ∙ newest_inserted old now (entries.Held item) [] put above t k
        ∙ ap (λ (l : List Held). newest l t k) (flat_map-append items_in old (entries.Held item ∷ []))
        ∙ ap (λ f. f t k) (newest_from-append none_found (items_of old) (item ∷ []))

    older : (y : Held) → Contains (items_of old) y → is_of item.table item.key y ≡ true → y.version < item.version
    older y at of = All-contains (λ (other : Held). is_of item.table item.key other ≡ true → other.version < item.version) (items_of old) y
        (All-head (IsAboveAll (items_of old)) item [] above) at of

    newer : is_newer item (found item.table item.key records) ≡ true
    newer = go (found item.table item.key records) refl
      where
        go : (o : Option Held) → found item.table item.key records ≡ o → is_newer item o ≡ true
        go None is = refl
        go (Some y) is =
            let at = found_at (is_at item.table item.key) records y is in
            let in_range : is_in range y ≡ true = in_by_key range item y at.1 ∙ inside in
            let best = newest_is (items_of old) y.table y.key y ((table y in_range).0 at.0) in
            lt-ltb y.version item.version (older y best.stands at.1)

    item_stands : Contains (with_newer item records) item
    item_stands = newer_stands item records newer

    itself : (x : Held) → is_at x.table x.key x ≡ true
    itself x = is_of_from x.table x.key x refl refl

    -- the item is the newest of its key, and is there alone
    newest_item : (x : Held) → is_of x.table x.key item ≡ true → newest (items_of now) x.table x.key ≡ Some item
    newest_item x here = newest_now x.table x.key ∙ with_newer_here (newest (items_of old)) item x.table x.key here
        ∙ ap Some
        (newer_item (newest (items_of old) x.table x.key) item (λ y is.
        let best = newest_is (items_of old) x.table x.key y is in
        let its = is_of_parts x.table x.key item here in
        let one = is_of_parts x.table x.key y best.of_record in
        older y best.stands (is_of_from item.table item.key y (one.0 ∙ sym its.0) (one.1 ∙ sym its.1))))

    only_one : (x : Held) → is_of x.table x.key item ≡ true → Contains (with_newer item records) x → item ≡ x
    only_one x here at =
        let after = order_after item records order in
        let one = stands_is_found (with_newer item records) x.table x.key item after item_stands here in
        let other = stands_is_found (with_newer item records) x.table x.key x after at (itself x) in
        cc (sym one ∙ other)

    pub table_put : IsTableOf range now (with_newer item records)
    table_put x in_range = elim (cases_Bool (is_of x.table x.key item)) [
      | inl here ↦ (
        λ (at : Contains (with_newer item records) x). newest_item x here ∙ ap Some (only_one x here at),
        λ (is : newest (items_of now) x.table x.key ≡ Some x).
            let same : item ≡ x = cc (sym (newest_item x here) ∙ is) in
            subst (Contains (with_newer item records)) same item_stands,
      )
      | inr other ↦
          let before = newest_now x.table x.key ∙ with_newer_other (newest (items_of old)) item x.table x.key other in (
            λ (at : Contains (with_newer item records) x).
                before
                ∙ ⊎_elim (λ (same : item ≡ x). absurd (false≢true (sym other ∙ ap (is_of x.table x.key) same ∙ itself x)))
                (λ (was : Contains records x). (table x in_range).0 was) (newer_cases item records x at),
            λ (is : newest (items_of now) x.table x.key ≡ Some x).
                other_stays item records x ((table x in_range).1 (sym before ∙ is)) (name-swap x.table item.table x.key item.key ∙ other),
          )
    ]

  -- without an item all is the same
  table_same : items_of now ≡ items_of old → IsTableOf range now records
  table_same is x in_range = rw is (table x in_range)

  -- so the records have the newest with the item of an entry that counts
  pub table_inserted : (entry : Entry) → IsInserted entry old now → AreNewest old entry → counts range entry ≡ true → IsTableOf range now (with_item_of entry records)
  table_inserted (entries.Held held) put above inside = table_put held put above inside
  table_inserted (entries.Refused refused) put above inside = table_same (same_items (entries.Refused refused) old now put refl)
  table_inserted (entries.Carried carried) put above inside = table_same (same_items (entries.Carried carried) old now put refl)
  table_inserted (entries.Joined joined) put above inside = table_same (same_items (entries.Joined joined) old now put refl)
