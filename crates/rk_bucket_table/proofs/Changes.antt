-- Cells that change: which chains stay as they were, and how a chain goes on elsewhere.
use Rattle.rk_bucket_table.proofs.Words.{arith, ◌≡◌, ◌≢◌, ℕ, suc, ◌<◌, List, [], ◌∷◌, ◌++◌, ◌⊎◌, Option, Some, None, length, take, drop}
use Rattle.rk_bucket_table.proofs.Words.{get_or, set, refl, sym, ap, ◌∙◌, subst, inr, ⊎_elim, append_assoc, AllByRecursion}
use Rattle.rk_bucket_table.proofs.Words.{IsStrictlySortedBy, Less, cases_lt, Held, IsInScanOrder, item_cmp, order_of_back, Cell, END}
use Rattle.rk_bucket_table.proofs.Words.{AreLinked, Cells, IsSegment, cell_at, cell_of, joined, HasLast, IsSpot}
use Rattle.std.specs.Cmp.{tied_itself}
use Rattle.std.proofs.lemmas.List.{get_or_past, get_or-set_same, get_or-set_other, length-set, set_split}
use Rattle.rk_table.proofs.InOrder.{item_total}
use Rattle.rk_bucket_table.proofs.Segments.{segment_append}
use Rattle.rk_bucket_table.proofs.Tables.{all_append, all_back, all_front, heads_split, linked_append}

-- the cells of an item stay as they were
abbrev pub IsSpared : Cells → Cells → Held → Type 0
IsSpared cells after item = (at next : ℕ) → cell_at cells at ≡ Some (cell_of item next) → cell_at after at ≡ Some (cell_of item next)

pub segment_spared : (cells after : Cells) (at : ℕ) (items : List Held) (to : ℕ) → AllByRecursion (IsSpared cells after) items
    → IsSegment cells at items to → IsSegment after at items to
segment_spared cells after at [] to spared segment = segment
segment_spared cells after at (item ∷ items) to spared segment =
    (segment.0, spared.0 at segment.0 segment.1, segment_spared cells after segment.0 items to spared.1 segment.2)

pub linked_spared : (cells after : Cells) (heads : List ℕ) (chains : List (List Held)) → AllByRecursion (IsSpared cells after) (joined chains)
    → AreLinked cells heads chains → AreLinked after heads chains
linked_spared cells after [] [] spared linked = tt
linked_spared cells after [] (items ∷ chains) spared linked = absurd linked
linked_spared cells after (head ∷ heads) [] spared linked = absurd linked
linked_spared cells after (head ∷ heads) (items ∷ chains) spared linked = (
  segment_spared cells after head items END (all_front (IsSpared cells after) items (joined chains) spared) linked.0,
  linked_spared cells after heads chains (all_back (IsSpared cells after) items (joined chains) spared) linked.1,
)

pub all_spared : (cells after : Cells) → ((item : Held) → IsSpared cells after item) → (items : List Held) → AllByRecursion (IsSpared cells after) items
all_spared cells after spared [] = tt
all_spared cells after spared (item ∷ items) = (spared item, all_spared cells after spared items)

-- the other items of a list in scan order are others
abbrev pub IsOther : Held → Held → Type 0
IsOther item other = other ≢ item

not_before_itself : (item : Held) → item_cmp item item ≡ Less → ⊥
not_before_itself item less = absurd (cc (less, tied_itself item_total item))

others_behind : (item : Held) (items : List Held) → AllByRecursion (λ other. item_cmp item other ≡ Less) items → AllByRecursion (IsOther item) items
others_behind item [] all = tt
others_behind item (other ∷ items) all = grind (arith, not_before_itself, item_cmp, all.0, all.1, (others_behind item items all.1))

pub others_ahead : (item : Held) (front back : List Held) → IsInScanOrder (front ++ item ∷ back) → AllByRecursion (IsOther item) front
unfolding IsStrictlySortedBy
others_ahead item [] back order = tt
others_ahead item (other ∷ front) back order =
    let less : item_cmp other item ≡ Less = (all_back (λ x. item_cmp other x ≡ Less) front (item ∷ back) order.0).0 in
    ((λ same. not_before_itself item (ap (λ (x : Held). item_cmp x item) (sym same) ∙ less)), others_ahead item front back order.1)

pub others_after : (item : Held) (front back : List Held) → IsInScanOrder (front ++ item ∷ back) → AllByRecursion (IsOther item) back
unfolding IsStrictlySortedBy
others_after item front back order = others_behind item back (order_of_back front (item ∷ back) order).0

-- the same items without one of them
without_one : (item : Held) (front back : List Held) (P : Held → Type 0) → AllByRecursion P (front ++ item ∷ back) → AllByRecursion P (front ++ back)
without_one item front back P all = all_append P front back (all_front P front (item ∷ back) all) ((all_back P front (item ∷ back) all).1)

pub order_without_one : (item : Held) (front back : List Held) → IsInScanOrder (front ++ item ∷ back) → IsInScanOrder (front ++ back)
unfolding IsStrictlySortedBy
order_without_one item [] back order = order.1
order_without_one item (other ∷ front) back order =
    (without_one item front back (λ x. item_cmp other x ≡ Less) order.0, order_without_one item front back order.1)

-- a change of one cell spares the items of all others
module _ (cells after : Cells) (at : ℕ) (item : Held) (next : ℕ) (here : cell_at cells at ≡ Some (cell_of item next))
    (others : (other : ℕ) → other ≢ at → cell_at after other ≡ cell_at cells other) where
  pub spared_other : (other : Held) → other ≢ item → IsSpared cells after other
  spared_other other differs place behind there = grind (arith, cell_of, cell_at)

  pub spared_others : (items : List Held) → AllByRecursion (IsOther item) items → AllByRecursion (IsSpared cells after) items
  spared_others [] all = tt
  spared_others (other ∷ items) all = (spared_other other all.0, spared_others items all.1)

pub set_others : (cells : Cells) (at : ℕ) (cell : Option Cell) (other : ℕ) → other ≢ at → cell_at (set cells at cell) other ≡ cell_at cells other
set_others cells at cell other differs = get_or-set_other cells at other cell None differs

pub cell_within : (cells : Cells) (at : ℕ) (cell : Cell) → cell_at cells at ≡ Some cell → at < length cells
cell_within cells at cell here = grind (arith, get_or_past, cases_lt)

-- a new cell spares all items
pub spared_by_new : (cells after : Cells) (added : ℕ) → cell_at cells added ≡ None
    → ((other : ℕ) → other ≢ added → cell_at after other ≡ cell_at cells other) → (item : Held) → IsSpared cells after item
spared_by_new cells after added vacant others item place next there =
    others place (λ same. absurd (cc (there, vacant, ap (cell_at cells) same))) ∙ there

-- the cell in front of a spot stays as it was
pub last_spared : (cells after : Cells) (head : ℕ) (front : List Held) (before at : ℕ) → AllByRecursion (IsSpared cells after) front
    → ((front ≡ []) × (before ≡ END)) ⊎ HasLast cells head front before at → ((front ≡ []) × (before ≡ END)) ⊎ HasLast after head front before at
last_spared cells after head front before at spared last = grind (arith, segment_spared, all_front, all_back)

-- the chains after one goes on elsewhere from a spot on
pub record IsRelinked (heads : List ℕ) (cells : Cells) (number : ℕ) (ahead : List (List Held)) (front tail : List Held) (behind : List (List Held))
    (before next : ℕ) (new_heads : List ℕ) (new_cells : Cells) : Type 0 where
  pub as_many : length new_heads ≡ length heads
  pub linked : AreLinked new_cells new_heads (ahead ++ (front ++ tail) ∷ behind)
  pub spot : IsSpot new_cells (get_or new_heads number END) front tail before next
  pub free : cell_at new_cells END ≡ None

module _ (heads : List ℕ) (cells : Cells) (number : ℕ) (within : number < length heads) (free : cell_at cells END ≡ None)
    (ahead behind : List (List Held)) (linked_ahead : AreLinked cells (take number heads) ahead)
    (linked_behind : AreLinked cells (drop (suc number) heads) behind) (tail : List Held) (before at next : ℕ) (from : IsSegment cells next tail END)
    (new_heads : List ℕ) (new_cells : Cells) where
  -- the chain begins elsewhere
  at_head : new_heads ≡ set heads number next → new_cells ≡ cells → before ≡ END
      → IsRelinked heads cells number ahead [] tail behind before next new_heads new_cells
  at_head its_heads its_cells first = grind (arith, length-set, set_split, linked_append, get_or-set_same)

  -- or a cell of it has another one behind it
  module _ (others : List Held) (item : Held) (to : IsSegment cells (get_or heads number END) others before)
      (here : cell_at cells before ≡ Some (cell_of item at))
      (order : IsInScanOrder (joined ahead ++ (((others ++ item ∷ []) ++ tail) ++ joined behind))) where
    abbrev after : Cells
    after = set cells before (Some (cell_of item next))

    regrouped : joined ahead ++ (((others ++ item ∷ []) ++ tail) ++ joined behind) ≡ (joined ahead ++ others) ++ item ∷ (tail ++ joined behind)
    regrouped =
        ap (λ (l : List Held). joined ahead ++ (l ++ joined behind)) (append_assoc others (item ∷ []) tail)
        ∙ ap (λ (l : List Held). joined ahead ++ l) (append_assoc others (item ∷ tail) (joined behind))
        ∙ sym (append_assoc (joined ahead) others (item ∷ (tail ++ joined behind)))

    its_order : IsInScanOrder ((joined ahead ++ others) ++ item ∷ (tail ++ joined behind))
    its_order = subst IsInScanOrder regrouped order

    in_front : AllByRecursion (IsOther item) (joined ahead ++ others)
    in_front = others_ahead item (joined ahead ++ others) (tail ++ joined behind) its_order

    in_back : AllByRecursion (IsOther item) (tail ++ joined behind)
    in_back = others_after item (joined ahead ++ others) (tail ++ joined behind) its_order

    spared : (items : List Held) → AllByRecursion (IsOther item) items → AllByRecursion (IsSpared cells after) items
    spared = spared_others cells after before item at here (set_others cells before (Some (cell_of item next)))

    to_here : IsSegment after (get_or heads number END) (others ++ item ∷ []) next
    to_here =
        segment_append after (get_or heads number END) before next others (item ∷ [])
        (segment_spared cells after (get_or heads number END) others before (spared others (all_back (IsOther item) (joined ahead) others in_front)) to)
        (next, get_or-set_same cells before (Some (cell_of item next)) None (cell_within cells before (cell_of item at) here), refl)

    from_here : IsSegment after next tail END
    from_here = segment_spared cells after next tail END (spared tail (all_front (IsOther item) tail (joined behind) in_back)) from

    not_end : before ≢ END
    not_end same = absurd (cc (here, free, ap (cell_at cells) same))

    behind_cell : new_heads ≡ heads → new_cells ≡ after → IsRelinked heads cells number ahead (others ++ item ∷ []) tail behind before next new_heads new_cells
    behind_cell its_heads its_cells =
        subst (λ (l : Cells). IsRelinked heads cells number ahead (others ++ item ∷ []) tail behind before next new_heads l) (sym its_cells)
        (subst (λ (l : List ℕ). IsRelinked heads cells number ahead (others ++ item ∷ []) tail behind before next l after) (sym its_heads)
        (record {
          as_many = refl;
          linked =
              subst (λ (l : List ℕ). AreLinked after l (ahead ++ ((others ++ item ∷ []) ++ tail) ∷ behind)) (sym (heads_split heads number within))
              (linked_append after (take number heads) (drop (suc number) heads) ahead behind (get_or heads number END) ((others ++ item ∷ []) ++ tail)
              (linked_spared cells after (take number heads) ahead (spared (joined ahead) (all_front (IsOther item) (joined ahead) others in_front)) linked_ahead)
              (segment_append after (get_or heads number END) next END (others ++ item ∷ []) tail to_here from_here)
              (linked_spared cells after (drop (suc number) heads) behind (spared (joined behind) (all_back (IsOther item) tail (joined behind) in_back)) linked_behind));
          spot = record {
            to = to_here;
            from = from_here;
            last = inr (record {
              others = others;
              item = item;
              whole = refl;
              to = segment_spared cells after (get_or heads number END) others before (spared others (all_back (IsOther item) (joined ahead) others in_front)) to;
              here = get_or-set_same cells before (Some (cell_of item next)) None (cell_within cells before (cell_of item at) here);
            });
          };
          free = set_others cells before (Some (cell_of item next)) END (λ same. not_end (sym same)) ∙ free;
        }))

  -- the same for what the code does at a spot
  pub relinked : (front : List Held) → (((front ≡ []) × (before ≡ END)) ⊎ HasLast cells (get_or heads number END) front before at)
      → IsInScanOrder (joined ahead ++ ((front ++ tail) ++ joined behind))
      → (before ≡ END → (new_heads ≡ set heads number next) × (new_cells ≡ cells))
      → ((cell : Cell) → before ≢ END → cell_at cells before ≡ Some cell → (new_heads ≡ heads) × (new_cells ≡ set cells before (Some (cell_of cell.item next))))
      → IsRelinked heads cells number ahead front tail behind before next new_heads new_cells
  relinked front last order at_first at_cell =
      ⊎_elim
      (λ (none : (front ≡ []) × (before ≡ END)).
      let now = at_first none.1 in
      subst (λ (l : List Held). IsRelinked heads cells number ahead l tail behind before next new_heads new_cells) (sym none.0)
      (at_head now.0 now.1 none.1))
      (λ (some : HasLast cells (get_or heads number END) front before at).
      let its_order : IsInScanOrder (joined ahead ++ (((some.others ++ some.item ∷ []) ++ tail) ++ joined behind)) =
      subst (λ (l : List Held). IsInScanOrder (joined ahead ++ ((l ++ tail) ++ joined behind))) some.whole order in
      let now = at_cell (cell_of some.item at) (not_end some.others some.item some.to some.here its_order) some.here in
      subst (λ (l : List Held). IsRelinked heads cells number ahead l tail behind before next new_heads new_cells) (sym some.whole)
      (behind_cell some.others some.item some.to some.here its_order now.0 now.1))
      last
