-- A table whose one chain is changed at a spot.
use Rattle.rk_bucket_table.proofs.Words.{◌≡◌, ◌≢◌, ℕ, suc, ◌+◌, ◌<◌, List, [], ◌∷◌, ◌++◌, Some, None, length, take, drop, get_or, set, sym}
use Rattle.rk_bucket_table.proofs.Words.{ap, ◌∙◌, subst, arith, append_assoc, length-append, AllByRecursion, Held, IsInScanOrder, item_hash}
use Rattle.rk_bucket_table.proofs.Words.{Cell, END, AreLinked, ArePlaced, Cells, IsSegment, IsTable, cell_at, cell_of, chain_of, joined}
use Rattle.rk_bucket_table.proofs.Words.{taken, IsSpot}
use Rattle.std.proofs.lemmas.List.{get_or-set_same}
use Rattle.rk_bucket_table.specs.Cells.{IsCountOfChains}
use Rattle.rk_bucket_table.proofs.Segments.{segment_append}
use Rattle.rk_bucket_table.proofs.Tables.{IsOf, all_append, all_back, all_front, heads_split, joined_parts, linked_append, placed_back, placed_replaced}
use Rattle.rk_bucket_table.proofs.Changes.{IsOther, IsRelinked, IsSpared, all_spared, cell_within, last_spared, linked_spared, order_without_one, others_after, others_ahead, relinked, segment_spared, set_others, spared_by_new, spared_others}

-- a chain among others, apart from them
pub linked_parts : (cells : Cells) (heads : List ℕ) (ahead : List (List Held)) (mine : List Held) (behind : List (List Held))
    → AreLinked cells heads (ahead ++ mine ∷ behind)
    → AreLinked cells (take (length ahead) heads) ahead × IsSegment cells (get_or heads (length ahead) END) mine END
    × AreLinked cells (drop (suc (length ahead)) heads) behind
linked_parts cells [] [] mine behind linked = absurd linked
linked_parts cells (head ∷ heads) [] mine behind linked = (tt, linked.0, linked.1)
linked_parts cells [] (items ∷ ahead) mine behind linked = absurd linked
linked_parts cells (head ∷ heads) (items ∷ ahead) mine behind linked =
    grind (arith, linked.1, linked.0, (linked_parts cells heads ahead mine behind linked.1))

-- a table with a spot in the chain of a number
pub record IsAt (per_bucket : ℕ) (heads : List ℕ) (cells : Cells) (number : ℕ) (ahead : List (List Held)) (front back : List Held)
    (behind : List (List Held)) (before at : ℕ) : Type 0 where
  pub table : IsTable per_bucket heads cells (ahead ++ (front ++ back) ∷ behind)
  pub size : length ahead ≡ number
  pub within : number < length heads
  pub spot : IsSpot cells (get_or heads number END) front back before at

module _ (per_bucket : ℕ) (heads : List ℕ) (cells : Cells) (number : ℕ) (ahead : List (List Held)) (front back : List Held)
    (behind : List (List Held)) (before at : ℕ) (state : IsAt per_bucket heads cells number ahead front back behind before at) where
  linked_ahead : AreLinked cells (take number heads) ahead
  linked_ahead = grind (arith, linked_parts)

  linked_behind : AreLinked cells (drop (suc number) heads) behind
  linked_behind = grind (arith, linked_parts)

  pub its_placed : AllByRecursion (IsOf per_bucket number) (front ++ back)
  its_placed =
      (placed_back per_bucket 0 ahead ((front ++ back) ∷ behind) number (omega (arith, state.size)) state.table.placed).0

  pub others_placed : (other : List Held) → AllByRecursion (IsOf per_bucket number) other → ArePlaced per_bucket 0 (ahead ++ other ∷ behind)
  others_placed other all =
      placed_replaced per_bucket 0 ahead (front ++ back) other behind number (omega (arith, state.size)) state.table.placed all

  -- how many items there are with others in that chain
  lengths : (other : List Held) → length (joined (ahead ++ other ∷ behind)) ≡ length (joined ahead) + (length other + length (joined behind))
  lengths other = grind (arith, joined_parts, length-append, joined)

  still_counted : (new_heads : List ℕ) → length new_heads ≡ length heads → IsCountOfChains per_bucket (length new_heads)
  still_counted new_heads same = subst (IsCountOfChains per_bucket) (sym same) state.table.count

  in_order : (other : List Held) → IsInScanOrder (joined ahead ++ (other ++ joined behind)) → IsInScanOrder (joined (ahead ++ other ∷ behind))
  in_order other order = subst IsInScanOrder (sym (joined_parts ahead other behind)) order

  -- a cell was added at the spot
  module _ (new : Held) (its_number : chain_of per_bucket (item_hash new) ≡ number)
      (order : IsInScanOrder (joined ahead ++ ((front ++ new ∷ back) ++ joined behind)))
      (added : ℕ) (more : Cells) (vacant : cell_at cells added ≡ None) (there : cell_at more added ≡ Some (cell_of new at))
      (others : (other : ℕ) → other ≢ added → cell_at more other ≡ cell_at cells other) (low : added < END) (one_more : taken more ≡ taken cells + 1)
      (new_heads : List ℕ) (new_cells : Cells)
      (at_first : before ≡ END → (new_heads ≡ set heads number added) × (new_cells ≡ more))
      (at_cell : (cell : Cell) → before ≢ END → cell_at more before ≡ Some cell
      → (new_heads ≡ heads) × (new_cells ≡ set more before (Some (cell_of cell.item added))))
      (as_many : taken new_cells ≡ taken more) where
    new_spared : (item : Held) → IsSpared cells more item
    new_spared = spared_by_new cells more added vacant others

    new_segment : (from : ℕ) (items : List Held) (to : ℕ) → IsSegment cells from items to → IsSegment more from items to
    new_segment from items to segment = segment_spared cells more from items to (all_spared cells more new_spared items) segment

    relinked_new : IsRelinked heads more number ahead front (new ∷ back) behind before added new_heads new_cells
    relinked_new =
        relinked heads more number state.within (others END (λ same. omega arith) ∙ state.table.free) ahead behind
        (linked_spared cells more (take number heads) ahead (all_spared cells more new_spared (joined ahead)) linked_ahead)
        (linked_spared cells more (drop (suc number) heads) behind (all_spared cells more new_spared (joined behind)) linked_behind)
        (new ∷ back) before at added (at, there, new_segment at back END state.spot.from) new_heads new_cells front
        (last_spared cells more (get_or heads number END) front before at (all_spared cells more new_spared front) state.spot.last)
        order at_first at_cell

    pub table_added : IsTable per_bucket new_heads new_cells (ahead ++ (front ++ new ∷ back) ∷ behind)
    table_added = record {
      count = still_counted new_heads relinked_new.as_many;
      linked = relinked_new.linked;
      placed =
          others_placed (front ++ new ∷ back)
          (all_append (IsOf per_bucket number) front (new ∷ back) (all_front (IsOf per_bucket number) front back its_placed)
          (its_number, all_back (IsOf per_bucket number) front back its_placed));
      order = in_order (front ++ new ∷ back) order;
      all =
          omega (
            arith,
            lengths (front ++ new ∷ back),
            lengths (front ++ back),
            length-append front (new ∷ back),
            length-append front back,
            state.table.all,
            one_more,
            as_many,
          );
      free = relinked_new.free;
    }

  -- an item is in the place of the first one behind the spot, which is in the cell there
  module _ (old : Held) (rest : List Held) (next : ℕ) (first : back ≡ old ∷ rest) (here : cell_at cells at ≡ Some (cell_of old next))
      (from : IsSegment cells next rest END) where
    whole_order : IsInScanOrder ((joined ahead ++ front) ++ old ∷ (rest ++ joined behind))
    whole_order =
        subst IsInScanOrder
        (joined_parts ahead (front ++ back) behind
        ∙ ap (λ (l : List Held). joined ahead ++ ((front ++ l) ++ joined behind)) first
        ∙ ap (λ (l : List Held). joined ahead ++ l) (append_assoc front (old ∷ rest) (joined behind))
        ∙ sym (append_assoc (joined ahead) front (old ∷ (rest ++ joined behind))))
        state.table.order

    in_front : AllByRecursion (IsOther old) (joined ahead ++ front)
    in_front = others_ahead old (joined ahead ++ front) (rest ++ joined behind) whole_order

    in_back : AllByRecursion (IsOther old) (rest ++ joined behind)
    in_back = others_after old (joined ahead ++ front) (rest ++ joined behind) whole_order

    old_placed : AllByRecursion (IsOf per_bucket number) (front ++ old ∷ rest)
    old_placed = subst (λ (l : List Held). AllByRecursion (IsOf per_bucket number) (front ++ l)) first its_placed

    at_within : at ≢ END
    at_within same = absurd (cc (here, state.table.free, ap (cell_at cells) same))

    -- what stays if that cell alone changes
    module _ (after : Cells) (others : (other : ℕ) → other ≢ at → cell_at after other ≡ cell_at cells other) where
      spared : (items : List Held) → AllByRecursion (IsOther old) items → AllByRecursion (IsSpared cells after) items
      spared = spared_others cells after at old next here others

      front_stays : IsSegment after (get_or heads number END) front at
      front_stays =
          segment_spared cells after (get_or heads number END) front at (spared front (all_back (IsOther old) (joined ahead) front in_front)) state.spot.to

      rest_stays : IsSegment after next rest END
      rest_stays = segment_spared cells after next rest END (spared rest (all_front (IsOther old) rest (joined behind) in_back)) from

      ahead_stays : AreLinked after (take number heads) ahead
      ahead_stays =
          linked_spared cells after (take number heads) ahead (spared (joined ahead) (all_front (IsOther old) (joined ahead) front in_front)) linked_ahead

      behind_stays : AreLinked after (drop (suc number) heads) behind
      behind_stays =
          linked_spared cells after (drop (suc number) heads) behind (spared (joined behind) (all_back (IsOther old) rest (joined behind) in_back)) linked_behind

      still_free : cell_at after END ≡ None
      still_free = others END (λ same. at_within (sym same)) ∙ state.table.free

    module _ (new : Held) (its_number : chain_of per_bucket (item_hash new) ≡ number)
        (order : IsInScanOrder (joined ahead ++ ((front ++ new ∷ rest) ++ joined behind)))
        (new_cells : Cells) (put : new_cells ≡ set cells at (Some (cell_of new next))) (as_many : taken new_cells ≡ taken cells) where
      put_others : (other : ℕ) → other ≢ at → cell_at new_cells other ≡ cell_at cells other
      put_others other differs = ap (λ (l : Cells). cell_at l other) put ∙ set_others cells at (Some (cell_of new next)) other differs

      put_there : cell_at new_cells at ≡ Some (cell_of new next)
      put_there =
          ap (λ (l : Cells). cell_at l at) put
          ∙ get_or-set_same cells at (Some (cell_of new next)) None (cell_within cells at (cell_of old next) here)

      pub table_replaced : IsTable per_bucket heads new_cells (ahead ++ (front ++ new ∷ rest) ∷ behind)
      table_replaced = record {
        count = state.table.count;
        linked =
            subst (λ (l : List ℕ). AreLinked new_cells l (ahead ++ (front ++ new ∷ rest) ∷ behind)) (sym (heads_split heads number state.within))
            (linked_append new_cells (take number heads) (drop (suc number) heads) ahead behind (get_or heads number END) (front ++ new ∷ rest)
            (ahead_stays new_cells put_others)
            (segment_append new_cells (get_or heads number END) at END front (new ∷ rest) (front_stays new_cells put_others)
            (next, put_there, rest_stays new_cells put_others))
            (behind_stays new_cells put_others));
        placed =
            others_placed (front ++ new ∷ rest)
            (all_append (IsOf per_bucket number) front (new ∷ rest) (all_front (IsOf per_bucket number) front (old ∷ rest) old_placed)
            (its_number, (all_back (IsOf per_bucket number) front (old ∷ rest) old_placed).1));
        order = in_order (front ++ new ∷ rest) order;
        all =
            omega (
              arith,
              lengths (front ++ new ∷ rest),
              lengths (front ++ back),
              length-append front (new ∷ rest),
              length-append front back,
              ap length first,
              state.table.all,
              as_many,
            );
        free = still_free new_cells put_others;
      }

    -- or that item was taken out, and its cell freed
    module _ (gone : Cells) (others : (other : ℕ) → other ≢ at → cell_at gone other ≡ cell_at cells other) (one_less : taken gone + 1 ≡ taken cells)
        (new_heads : List ℕ) (new_cells : Cells)
        (at_first : before ≡ END → (new_heads ≡ set heads number next) × (new_cells ≡ gone))
        (at_cell : (cell : Cell) → before ≢ END → cell_at gone before ≡ Some cell
        → (new_heads ≡ heads) × (new_cells ≡ set gone before (Some (cell_of cell.item next))))
        (as_many : taken new_cells ≡ taken gone) where
      order_left : IsInScanOrder (joined ahead ++ ((front ++ rest) ++ joined behind))
      order_left =
          subst IsInScanOrder
          (append_assoc (joined ahead) front (rest ++ joined behind)
          ∙ ap (λ (l : List Held). joined ahead ++ l) (sym (append_assoc front rest (joined behind))))
          (order_without_one old (joined ahead ++ front) (rest ++ joined behind) whole_order)

      relinked_left : IsRelinked heads gone number ahead front rest behind before next new_heads new_cells
      relinked_left =
          relinked heads gone number state.within (still_free gone others) ahead behind (ahead_stays gone others) (behind_stays gone others)
          rest before at next (rest_stays gone others) new_heads new_cells front
          (last_spared cells gone (get_or heads number END) front before at
          (spared gone others front (all_back (IsOther old) (joined ahead) front in_front)) state.spot.last)
          order_left at_first at_cell

      pub state_removed : IsAt per_bucket new_heads new_cells number ahead front rest behind before next
      state_removed = record {
        table = record {
          count = still_counted new_heads relinked_left.as_many;
          linked = relinked_left.linked;
          placed =
              others_placed (front ++ rest)
              (all_append (IsOf per_bucket number) front rest (all_front (IsOf per_bucket number) front (old ∷ rest) old_placed)
              ((all_back (IsOf per_bucket number) front (old ∷ rest) old_placed).1));
          order = in_order (front ++ rest) order_left;
          all =
              omega (
                arith,
                lengths (front ++ rest),
                lengths (front ++ back),
                length-append front rest,
                length-append front back,
                ap length first,
                state.table.all,
                one_less,
                as_many,
              );
          free = relinked_left.free;
        };
        size = state.size;
        within = omega (arith, state.within, relinked_left.as_many);
        spot = relinked_left.spot;
      }
