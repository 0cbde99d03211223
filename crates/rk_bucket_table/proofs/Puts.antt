-- A put: the items after it are those that it should leave.
use Rattle.rk_bucket_table.proofs.Words.{arith, ◌≡◌, ◌≢◌, ℕ, ◌+◌, ◌<◌, Bool, true, false, List, ◌∷◌, ◌++◌, Option, Some, None, get_or, set}
use Rattle.rk_bucket_table.proofs.Words.{refl, sym, ap, ◌∙◌, subst, length, ⊎_elim, append_assoc, cond-true, cond-false, false≢true, Held}
use Rattle.rk_bucket_table.proofs.Words.{hash_of, IsInScanOrder, Place, place_of, found, is_at, comes_before, Cell, END, Cells, IsTable}
use Rattle.rk_bucket_table.proofs.Words.{cell_at, cell_of, chain, chain_of, items_in, joined, taken, IsSought, IsSpot}
use Rattle.std.specs.Prelude.{nat_lt}
use Rattle.std.proofs.lemmas.Bool.{cases_Bool}
use Rattle.rk_table.specs.Order.{item_place}
use Rattle.rk_table.specs.Items.{is_newer, with_item, with_newer}
use Rattle.rk_table.specs.Places.{IsGap}
use Rattle.rk_table.proofs.Found.{order_with_item}
use Rattle.rk_bucket_table.specs.Cells.{item_is_at}
use Rattle.rk_bucket_table.proofs.Seeking.{back_is, ends_behind}
use Rattle.rk_bucket_table.proofs.Segments.{cell_first}
use Rattle.rk_bucket_table.proofs.Lookups.{first_is, found_cell, gap_cell, gap_none, head_is, inserted, its_part, lesser, mine_parts, replaced_first, within}
use Rattle.rk_bucket_table.proofs.Splices.{IsAt, table_added, table_replaced}
use Rattle.rk_bucket_table.proofs.Tables.{IsPart, joined_parts, table_items}

-- a table with these items
pub record HasItems (per_bucket : ℕ) (heads : List ℕ) (cells : Cells) (items : List Held) : Type 0 where
  pub chains : List (List Held)
  pub table : IsTable per_bucket heads cells chains
  pub are : joined chains ≡ items

pub shown_items : (per_bucket : ℕ) (heads : List ℕ) (cells : Cells) (items : List Held) → HasItems per_bucket heads cells items
    → items_in heads cells ≡ items
shown_items per_bucket heads cells items has = table_items per_bucket heads cells has.chains has.table ∙ has.are

regroup : (ahead front : List Held) (item : Held) (back behind : List Held)
    → ahead ++ ((front ++ item ∷ back) ++ behind) ≡ (ahead ++ front) ++ item ∷ (back ++ behind)
regroup ahead front item back behind = grind (arith, append_assoc)

joined_with : (ahead : List (List Held)) (front : List Held) (item : Held) (back : List Held) (behind : List (List Held))
    → joined (ahead ++ (front ++ item ∷ back) ∷ behind) ≡ (joined ahead ++ front) ++ item ∷ (back ++ joined behind)
joined_with ahead front item back behind = joined_parts ahead (front ++ item ∷ back) behind ∙ regroup (joined ahead) front item back (joined behind)

module _ (per_bucket : ℕ) (heads : List ℕ) (cells : Cells) (inside : (chains : List (List Held)) × IsTable per_bucket heads cells chains)
    (item : Held) (place : Place) (its_place : place ≡ item_place item) (number : ℕ) (its_number : number ≡ chain_of per_bucket (hash_of item.key))
    (head : ℕ) (read : head ≡ get_or heads number head) (before at : ℕ) (given : IsSought cells head (comes_before place) before at) where
  sought : IsSought cells head (comes_before (place_of item.table item.key)) before at
  sought = subst (λ (p : Place). IsSought cells head (comes_before p) before at) its_place given

  abbrev items : List Held
  items = joined inside.0

  abbrev part_of : IsPart cells heads inside.0 number
  part_of = its_part per_bucket heads cells inside.0 inside.1 item.table item.key number its_number head read before at sought

  -- the spot at which the search stopped
  its_state : IsAt per_bucket heads cells number part_of.ahead sought.so_far.front sought.so_far.back part_of.behind before at
  its_state = record {
    table = grind (arith, mine_parts, sought, part_of.whole, part_of.ahead, part_of.behind, inside.0, inside.1, item.table, item.key);
    size = part_of.size;
    within = within per_bucket heads cells inside.0 inside.1 item.table item.key number its_number head read before at sought;
    spot =
        subst (λ (k : ℕ). IsSpot cells k sought.so_far.front sought.so_far.back before at)
        (head_is per_bucket heads cells inside.0 inside.1 item.table item.key number its_number head read before at sought)
        sought.so_far.spot;
  }

  -- an item with the key is in the cell there
  module _ (cell : Cell) (here : cell_at cells at ≡ Some cell) (is_it : is_at item.table item.key cell.item ≡ true) where
    found_it : found item.table item.key items ≡ Some cell.item
    found_it = found_cell per_bucket heads cells inside.0 inside.1 item.table item.key number its_number head read before at sought cell (sym here) is_it

    newer_is : is_newer item (found item.table item.key items) ≡ nat_lt cell.item.version item.version
    newer_is = ap (is_newer item) found_it

    put_it : with_item item items
        ≡ (joined part_of.ahead ++ sought.so_far.front) ++ item ∷ (chain cells cell.next ++ joined part_of.behind)
    put_it =
        replaced_first per_bucket heads cells inside.0 inside.1 item.table item.key number its_number head read before at sought
        cell.item (chain cells cell.next ++ joined part_of.behind)
        (first_is per_bucket heads cells inside.0 inside.1 item.table item.key number its_number head read before at sought cell (sym here))
        is_it item refl refl

    joined_put : joined (part_of.ahead ++ (sought.so_far.front ++ item ∷ chain cells cell.next) ∷ part_of.behind) ≡ with_item item items
    joined_put = joined_with part_of.ahead sought.so_far.front item (chain cells cell.next) part_of.behind ∙ sym put_it

    put_is : joined part_of.ahead ++ ((sought.so_far.front ++ item ∷ chain cells cell.next) ++ joined part_of.behind) ≡ with_item item items
    put_is = regroup (joined part_of.ahead) sought.so_far.front item (chain cells cell.next) (joined part_of.behind) ∙ sym put_it

    module _ (result : Bool) (after : Cells) (older : result ≡ nat_lt cell.item.version item.version) (kept : result ≡ false → after ≡ cells)
        (put : result ≡ true → after ≡ set cells at (Some (cell_of item cell.next))) (as_many : taken after ≡ taken cells) where
      has_replaced : result ≡ true → HasItems per_bucket heads after (with_newer item items)
      has_replaced newer = record {
        chains = part_of.ahead ++ (sought.so_far.front ++ item ∷ chain cells cell.next) ∷ part_of.behind;
        table =
            table_replaced per_bucket heads cells number part_of.ahead sought.so_far.front sought.so_far.back part_of.behind before at its_state
            cell.item (chain cells cell.next) cell.next
            (back_is cells head (comes_before (place_of item.table item.key)) inside.1.free before at sought.so_far cell (sym here)) here
            (cell_first cells inside.1.free at cell here (ends_behind cells head (comes_before (place_of item.table item.key)) inside.1.free before at sought.so_far)).1
            item (sym its_number)
            (subst IsInScanOrder (sym put_is) (order_with_item item items inside.1.order))
            after (put newer) as_many;
        are = joined_put ∙ sym (cond-true (is_newer item (found item.table item.key items)) (with_item item items) items (newer_is ∙ sym older ∙ newer));
      }

      has_kept : result ≡ false → HasItems per_bucket heads after (with_newer item items)
      has_kept not_newer = record {
        chains = inside.0;
        table = subst (λ (l : Cells). IsTable per_bucket heads l inside.0) (sym (kept not_newer)) inside.1;
        are = sym (cond-false (is_newer item (found item.table item.key items)) (with_item item items) items (newer_is ∙ sym older ∙ not_newer));
      }

      cell_replaced : HasItems per_bucket heads after (with_newer item items) × (result ≡ is_newer item (found item.table item.key items))
      cell_replaced = (⊎_elim has_replaced has_kept (cases_Bool result), older ∙ sym newer_is)

  -- the same, as the code knows the cell
  pub replaced_code : item_is_at item (cell_at cells at) ≡ true → (result : Bool) (after : Cells)
      → ((cell : Cell) → cell_at cells at ≡ Some cell → result ≡ nat_lt cell.item.version item.version) → (result ≡ false → after ≡ cells)
      → ((cell : Cell) → cell_at cells at ≡ Some cell → result ≡ true → after ≡ set cells at (Some (cell_of item cell.next))) → taken after ≡ taken cells
      → HasItems per_bucket heads after (with_newer item items) × (result ≡ is_newer item (found item.table item.key items))
  replaced_code is_it result after older kept put as_many = go (cell_at cells at) refl is_it
    where
      go : (there : Option Cell) → cell_at cells at ≡ there → item_is_at item there ≡ true
          → HasItems per_bucket heads after (with_newer item items) × (result ≡ is_newer item (found item.table item.key items))
      go None here is_it = absurd (false≢true is_it)
      go (Some cell) here is_it = cell_replaced cell here is_it result after (older cell here) kept (put cell here) as_many

  -- no item with the key is there
  its_gap : item_is_at item (cell_at cells at) ≡ false
      → IsGap item.table item.key items (length (lesser per_bucket heads cells inside.0 inside.1 item.table item.key number its_number head read before at sought))
  its_gap is_not = grind (arith, cell_at, lesser, sought, gap_none, gap_cell)

  module _ (is_not : item_is_at item (cell_at cells at) ≡ false) where
    pub newer_added : true ≡ is_newer item (found item.table item.key items)
    newer_added = sym (ap (is_newer item) (its_gap is_not).absent)

    put_new : with_item item items
        ≡ (joined part_of.ahead ++ sought.so_far.front) ++ item ∷ (sought.so_far.back ++ joined part_of.behind)
    put_new =
        inserted per_bucket heads cells inside.0 inside.1 item.table item.key number its_number head read before at sought (its_gap is_not) item refl refl

    pub added_code : (added : ℕ) (more : Cells) → cell_at cells added ≡ None → cell_at more added ≡ Some (cell_of item at)
        → ((other : ℕ) → other ≢ added → cell_at more other ≡ cell_at cells other) → added < END → taken more ≡ taken cells + 1
        → (new_heads : List ℕ) (new_cells : Cells)
        → (before ≡ END → (new_heads ≡ set heads number added) × (new_cells ≡ more))
        → ((cell : Cell) → before ≢ END → cell_at more before ≡ Some cell
        → (new_heads ≡ heads) × (new_cells ≡ set more before (Some (cell_of cell.item added))))
        → taken new_cells ≡ taken more → HasItems per_bucket new_heads new_cells (with_newer item items)
    added_code added more vacant there others low one_more new_heads new_cells at_first at_cell as_many = record {
      chains = part_of.ahead ++ (sought.so_far.front ++ item ∷ sought.so_far.back) ∷ part_of.behind;
      table =
          table_added per_bucket heads cells number part_of.ahead sought.so_far.front sought.so_far.back part_of.behind before at its_state
          item (sym its_number)
          (subst IsInScanOrder
          (put_new ∙ sym (regroup (joined part_of.ahead) sought.so_far.front item sought.so_far.back (joined part_of.behind)))
          (order_with_item item items inside.1.order))
          added more vacant there others low one_more new_heads new_cells at_first at_cell as_many;
      are =
          joined_with part_of.ahead sought.so_far.front item sought.so_far.back part_of.behind ∙ sym put_new
          ∙ sym (cond-true (is_newer item (found item.table item.key items)) (with_item item items) items (sym newer_added));
    }
