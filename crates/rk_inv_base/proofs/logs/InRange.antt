-- What of a range is in records once the items of a range that does not meet it are dropped.
use Rattle.rk_inv_base.proofs.Words.{arith, ◌≡◌, ℕ, Bool, true, false, not, ◌||◌, List, ◌∙◌, ⊎_elim, filter, drop, All, Contains, sym, ◌⊎◌}
use Rattle.rk_inv_base.proofs.Words.{Option, All-contains, list_any, meets, Held, Member, Range, Entry, is_in, without, is_of, items_of}
use Rattle.rk_inv_base.proofs.Words.{unmarked_from, material_of, side_entries, Written, applied_entries, member_truth, applied_from}
use Rattle.rk_inv_base.proofs.Words.{IsFound, entries_from, scan_items, IsTableOf, list_any_none, Handover, Handed, IsRebuildTable}
use Rattle.rk_inv_base.proofs.Words.{HasArrived, copied_items, own_place, named_items, Row, View, truths, false_from_ne_true, false≢true}
use Rattle.rk_inv_base.proofs.Words.{filter_passes, counting, counts, Pulling, IsTarget, HasCome}
use Rattle.rk_inv_base.proofs.Base.{key_outside, all_by, none_pass}
use Rattle.rk_inv_base.proofs.calls.Records.{filter_from, filter_stands, scanned_from, entries_in}
use Rattle.rk_inv_base.proofs.views.WithRecords.{RebuildsWith}

-- an item is in a range
abbrev pub IsIn : Range → Held → Type 0
IsIn range item = is_in range item ≡ true

-- each of these items is
abbrev pub AreIn : Range → List Held → Type 0
AreIn range items = All (IsIn range) items

-- ---- items of what counts for a range

-- a target's own
pub target_in : (range : Range) (from : ℕ) (list : List Entry) → AreIn range (items_of (entries_from range from list))
target_in range from list = entries_in range (counting range (drop from list)) (filter_passes (counts range) (drop from list))

pub material_in : (range : Range) (side : ℕ → List Entry) (list : List Entry) → AreIn range (items_of (material_of range side list))
material_in range side list = Rattle.rk_inv_base.proofs.calls.Records.material_in range side list

-- those of a member
pub truth_in : (written : ℕ → Written) (range : Range) (member : Member) → AreIn range (items_of (member_truth written range member))
truth_in written range member =
    let w : Written = written member.master in
    material_in range (side_entries w.sides) (unmarked_from w.marks member.from (applied_entries w))

-- and those of a master that rebuilds
pub applied_in : (range : Range) (from : ℕ) (w : Written) → AreIn range (items_of (applied_from range from w))
applied_in range from w = material_in range (side_entries w.sides) (drop from (applied_entries w))

-- ---- items in scan order

pub scan_in : (range : Range) (list : List Entry) → AreIn range (items_of list) → AreIn range (scan_items list)
scan_in range list all =
    all_by (IsIn range) (scan_items list) (λ item stands. All-contains (IsIn range) (items_of list) item all (scanned_from list item stands))

-- ---- what is left of records

-- what is left was there
pub stood : (range : Range) (items : List Held) (item : Held) → Contains (without range items) item → Contains items item
stood range items item left = filter_from (λ held. not (is_in range held)) items item left

-- so if none passed a test, none does now
pub neither : (a b : Bool) → (a || b) ≡ false → b ≡ false
neither true b none = absurd (cc)
neither false b none = none

pub none_left : (test keep : Held → Bool) (items : List Held) → list_any test items ≡ false → list_any test (filter keep items) ≡ false
none_left test keep items none =
    list_any_none test (filter keep items)
    (all_by (λ item. test item ≡ false) (filter keep items)
    (λ item stands. none_pass test items none item (filter_from keep items item stands)))

-- whether an item is in a range depends on its key
pub in_by_key : (range : Range) (item other : Held) → is_of item.table item.key other ≡ true → is_in range other ≡ is_in range item
in_by_key range item other same = Rattle.rk_inv_base.proofs.calls.Records.in_by_key range item other same

-- ---- records with the same items of a range: what rows of that range say of records, they say of either

pub record HaveSame (range : Range) (old new : List Held) : Type 0 where
  pub come : (item : Held) → is_in range item ≡ true → Contains new item → Contains old item
  pub stays : (item : Held) → is_in range item ≡ true → Contains old item → Contains new item

module _ (range : Range) (old new : List Held) (same : HaveSame range old new) where
  -- an item of the range is found as before
  pub found_same : (item : Held) → is_in range item ≡ true → IsFound old item → IsFound new item
  found_same item inside found = record {
    there = found.there;
    stands = same.stays found.there (in_by_key range item found.there found.same_key ∙ inside) found.stands;
    same_key = found.same_key;
    as_new = found.as_new;
  }

  -- the records have the newest items
  pub table_same : (list : List Entry) → IsTableOf range list old → IsTableOf range list new
  table_same list was item inside = grind arith

  -- or none
  pub none_same : list_any (is_in range) old ≡ false → list_any (is_in range) new ≡ false
  none_same none =
      list_any_none (is_in range) new
      (all_by (λ item. is_in range item ≡ false) new
      (λ item stands.
      false_from_ne_true (is_in range item)
      (λ inside. false≢true (sym (none_pass (is_in range) old none item (same.come item inside stands)) ∙ inside))))

  -- a target goes on
  pub target_same : (source : ℕ) (truth material : List Entry) (from : ℕ) (written : Written) (handover : Handover) (pulling : Pulling) (handed : Option Handed) → AreIn range (scan_items truth) → IsTarget range source truth material from written handover pulling handed old → IsTarget range source truth material from written handover pulling handed new
  target_same source truth material from written handover pulling handed inside was =
      let own : List Held = items_of (entries_from range from (applied_entries written)) in
      let Arrived : Held → Type 0 = HasArrived handover.role pulling (scan_items truth) in
      let come : (item : Held) → Contains new item → is_in range item ≡ true → Contains own item ⊎ Contains (copied_items handover.role pulling written.sides) item = λ item left its.
      was.received.come item (same.come item its left) its in
      let found : (item : Held) → HasCome Arrived (scan_items truth) own item → IsFound new item = λ item has.
      found_same item
      (⊎_elim (λ (mine : Contains own item). All-contains (IsIn range) own item (target_in range from (applied_entries written)) mine)
      (λ (arrived : Contains (scan_items truth) item × Arrived item). All-contains (IsIn range) (scan_items truth) item inside arrived.0) has)
      (was.received.found item has) in
      assumption

-- and so does a master that rebuilds
pub rebuilder_same : (v : View) (row : Row) (lineage : List Member) (to : ℕ) (old new : List Held) → HaveSame row.range old new → RebuildsWith v row lineage to old → RebuildsWith v row lineage to new
rebuilder_same v row lineage to old new same was =
    let from : ℕ = own_place (v.handovers to row.tablet).role in
    let named : List Held = named_items row.range from (v.written to) in
    let items : IsRebuildTable row.range (truths v row) (applied_from row.range from (v.written to)) new = record {
      found = λ item own.
          found_same row.range old new same item (All-contains (IsIn row.range) _ item (applied_in row.range from (v.written to)) own)
          (was.items.found item own);
      come = λ item left inside. was.items.come item (same.come item inside left) inside;
    } in
    let sides : (item : Held) → Contains named item → Contains (items_of (truths v row)) item × IsFound new item = λ item stands.
    let both = was.sides item stands in
    let inside : IsIn row.range item = All-contains (IsIn row.range) named item (filter_passes (is_in row.range) _) stands in
    (both.0, found_same row.range old new same item inside both.1) in
    assumption

module _ (gone range : Range) (apart : meets gone range ≡ false) (records : List Held) where
  -- an item of the other range is still there
  pub stays : (item : Held) → is_in range item ≡ true → Contains records item → Contains (without gone records) item
  stays item inside stands = grind (arith, filter_stands, is_in, key_outside)

  -- so records without what is dropped have the same items of the other range
  pub dropped_same : HaveSame range records (without gone records)
  dropped_same = record { come = λ item inside left. stood gone records item left; stays = stays }
