-- A table of chains: one chain among the others.
use Rattle.rk_bucket_table.proofs.Words.{◌≡◌, ℕ, zero, suc, ◌+◌, ◌<◌, ◌≤◌, false, List, [], ◌∷◌, ◌++◌, None, is_some, length, take, drop}
use Rattle.rk_bucket_table.proofs.Words.{get_or, refl, sym, ap, ◌∙◌, subst, arith, length-append, AllByRecursion, IsStrictlySortedBy, Less}
use Rattle.rk_bucket_table.proofs.Words.{drop_more, count_by-le-length, Held, IsInScanOrder, Place, item_cmp, item_hash, comes_before, END}
use Rattle.rk_bucket_table.proofs.Words.{AreChains, AreLinked, ArePlaced, Cells, IsChain, IsSegment, IsTable, cell_at, chain, chain_of}
use Rattle.rk_bucket_table.proofs.Words.{items_in, joined, StopsAt}
use Rattle.std.proofs.Common.{add-one}
use Rattle.std.specs.Ordering.{is_lt, ordering_reverse}
use Rattle.std.proofs.lemmas.List.{get_or_default, take-append-drop}
use Rattle.std.proofs.lemmas.List.Concat.{flat_map-append}
use Rattle.rk_table.specs.Order.{item_place, place_cmp}
use Rattle.rk_table.proofs.Found.{all_behind}
use Rattle.rk_table.proofs.InOrder.{place_total}
use Rattle.rk_bucket_table.proofs.Segments.{chain_is}

-- what holds of items in two parts
pub all_append : (P : Held → Type 0) (front back : List Held) → AllByRecursion P front → AllByRecursion P back → AllByRecursion P (front ++ back)
all_append P [] back all rest = rest
all_append P (item ∷ front) back all rest = (all.0, all_append P front back all.1 rest)

pub all_front : (P : Held → Type 0) (front back : List Held) → AllByRecursion P (front ++ back) → AllByRecursion P front
all_front P [] back all = tt
all_front P (item ∷ front) back all = (all.0, all_front P front back all.1)

pub all_back : (P : Held → Type 0) (front back : List Held) → AllByRecursion P (front ++ back) → AllByRecursion P back
all_back P [] back all = all
all_back P (item ∷ front) back all = all_back P front back all.1

pub all_weaker : (P Q : Held → Type 0) → ((item : Held) → P item → Q item) → (items : List Held) → AllByRecursion P items → AllByRecursion Q items
all_weaker P Q weaker [] all = tt
all_weaker P Q weaker (item ∷ items) all = (weaker item all.0, all_weaker P Q weaker items all.1)

-- the front of items in scan order is in scan order
pub order_front : (front back : List Held) → IsInScanOrder (front ++ back) → IsInScanOrder front
unfolding IsStrictlySortedBy
order_front [] back order = tt
order_front (item ∷ front) back order =
    (all_front (λ other. item_cmp item other ≡ Less) front back order.0, order_front front back order.1)

-- if the first item does not come before a place, none does
pub none_before : (place : Place) (items : List Held) → IsInScanOrder items → StopsAt (comes_before place) items
    → AllByRecursion (λ item. comes_before place item ≡ false) items
unfolding IsStrictlySortedBy
none_before place [] order stops = tt
none_before place (item ∷ items) order stops = (
  stops,
  all_weaker (λ other. place_cmp place (item_place other) ≡ Less) (λ other. comes_before place other ≡ false)
      (λ other behind. ap is_lt (place_total.antisymm (item_place other) place ∙ ap ordering_reverse behind)) items
      (all_behind place item items stops order.0),
)

-- the chain of a number, and those ahead of it and behind it
pub record IsPart (cells : Cells) (heads : List ℕ) (chains : List (List Held)) (number : ℕ) : Type 0 where
  pub ahead : List (List Held)
  pub mine : List Held
  pub behind : List (List Held)
  pub whole : chains ≡ ahead ++ mine ∷ behind
  pub size : length ahead ≡ number
  pub linked_ahead : AreLinked cells (take number heads) ahead
  pub linked : IsSegment cells (get_or heads number END) mine END
  pub linked_behind : AreLinked cells (drop (suc number) heads) behind

pub part_at : (cells : Cells) (heads : List ℕ) (chains : List (List Held)) (number : ℕ) → AreLinked cells heads chains → number < length heads
    → IsPart cells heads chains number
part_at cells [] chains number linked within = absurd (omega arith)
part_at cells (head ∷ heads) [] number linked within = absurd linked
part_at cells (head ∷ heads) (items ∷ chains) zero linked within = record {
  ahead = [];
  mine = items;
  behind = chains;
  whole = refl;
  size = refl;
  linked_ahead = tt;
  linked = linked.0;
  linked_behind = linked.1;
}
part_at cells (head ∷ heads) (items ∷ chains) (suc number) linked within =
    let part = part_at cells heads chains number linked.1 (omega arith) in
    record {
      ahead = items ∷ part.ahead;
      mine = part.mine;
      behind = part.behind;
      whole = ap (λ (l : List (List Held)). items ∷ l) part.whole;
      size = ap suc part.size;
      linked_ahead = (linked.0, part.linked_ahead);
      linked = part.linked;
      linked_behind = part.linked_behind;
    }

pub heads_split : (heads : List ℕ) (number : ℕ) → number < length heads
    → heads ≡ take number heads ++ get_or heads number END ∷ drop (suc number) heads
heads_split heads number within = grind (arith, take-append-drop, drop_more, add-one)

pub linked_append : (cells : Cells) (heads more : List ℕ) (chains others : List (List Held)) (head : ℕ) (items : List Held)
    → AreLinked cells heads chains → IsSegment cells head items END → AreLinked cells more others
    → AreLinked cells (heads ++ head ∷ more) (chains ++ items ∷ others)
linked_append cells [] more [] others head items linked segment rest = (segment, rest)
linked_append cells [] more (first ∷ chains) others head items linked segment rest = absurd linked
linked_append cells (first ∷ heads) more [] others head items linked segment rest = absurd linked
linked_append cells (first ∷ heads) more (its ∷ chains) others head items linked segment rest =
    (linked.0, linked_append cells heads more chains others head items linked.1 segment rest)

pub joined_parts : (ahead : List (List Held)) (mine : List Held) (behind : List (List Held))
    → joined (ahead ++ mine ∷ behind) ≡ joined ahead ++ (mine ++ joined behind)
joined_parts ahead mine behind = flat_map-append (λ (items : List Held). items) ahead (mine ∷ behind)

-- where the items of lists by number are
abbrev pub IsBelow : ℕ → ℕ → Held → Type 0
IsBelow per_bucket number item = chain_of per_bucket (item_hash item) < number

abbrev pub IsFromOn : ℕ → ℕ → Held → Type 0
IsFromOn per_bucket number item = number ≤ chain_of per_bucket (item_hash item)

abbrev pub IsOf : ℕ → ℕ → Held → Type 0
IsOf per_bucket number item = chain_of per_bucket (item_hash item) ≡ number

module _ (per_bucket : ℕ) where
  pub placed_from : (number : ℕ) (chains : List (List Held)) → ArePlaced per_bucket number chains
      → AllByRecursion (IsFromOn per_bucket number) (joined chains)
  placed_from number [] placed = tt
  placed_from number (items ∷ chains) placed =
      grind (arith, all_append, joined, all_weaker, placed.0, placed.1, (placed_from (suc number) chains placed.1))

  pub placed_ahead : (first : ℕ) (ahead : List (List Held)) (rest : List (List Held)) (number : ℕ) → number ≡ first + length ahead
      → ArePlaced per_bucket first (ahead ++ rest) → AllByRecursion (IsBelow per_bucket number) (joined ahead)
  placed_ahead first [] rest number size placed = tt
  placed_ahead first (items ∷ ahead) rest number size placed =
      all_append (IsBelow per_bucket number) items (joined ahead)
      (all_weaker (IsOf per_bucket first) (IsBelow per_bucket number) (λ item is. omega arith) items placed.0)
      (placed_ahead (suc first) ahead rest number (omega arith) placed.1)

  pub placed_back : (first : ℕ) (ahead : List (List Held)) (rest : List (List Held)) (number : ℕ) → number ≡ first + length ahead
      → ArePlaced per_bucket first (ahead ++ rest) → ArePlaced per_bucket number rest
  placed_back first [] rest number size placed = grind arith
  placed_back first (items ∷ ahead) rest number size placed = placed_back (suc first) ahead rest number (omega arith) placed.1

  -- another list in the place of one
  pub placed_replaced : (first : ℕ) (ahead : List (List Held)) (mine other : List Held) (behind : List (List Held)) (number : ℕ)
      → number ≡ first + length ahead → ArePlaced per_bucket first (ahead ++ mine ∷ behind) → AllByRecursion (IsOf per_bucket number) other
      → ArePlaced per_bucket first (ahead ++ other ∷ behind)
  placed_replaced first [] mine other behind number size placed all = grind (arith, placed.1)
  placed_replaced first (items ∷ ahead) mine other behind number size placed all =
      (placed.0, placed_replaced (suc first) ahead mine other behind number (omega arith) placed.1 all)

-- the chains have the items that they are linked with
module _ (cells : Cells) (free : cell_at cells END ≡ None) where
  pub items_linked : (heads : List ℕ) (chains : List (List Held)) → AreLinked cells heads chains → length (joined chains) ≤ length cells
      → items_in heads cells ≡ joined chains
  items_linked [] [] linked short = refl
  items_linked [] (items ∷ chains) linked short = absurd linked
  items_linked (head ∷ heads) [] linked short = absurd linked
  items_linked (head ∷ heads) (items ∷ chains) linked short =
      let here : chain cells head ≡ items = chain_is cells free head items linked.0 (omega (arith, length-append items (joined chains))) in
      let rest : items_in heads cells ≡ joined chains =
      items_linked heads chains linked.1 (omega (arith, length-append items (joined chains))) in
      λ i. here i ++ rest i

  pub chains_linked : (heads : List ℕ) (chains : List (List Held)) → AreLinked cells heads chains → length (joined chains) ≤ length cells
      → AreChains heads cells
  chains_linked [] [] linked short = tt
  chains_linked [] (items ∷ chains) linked short = absurd linked
  chains_linked (head ∷ heads) [] linked short = absurd linked
  chains_linked (head ∷ heads) (items ∷ chains) linked short =
      let here : chain cells head ≡ items = chain_is cells free head items linked.0 (omega (arith, length-append items (joined chains))) in (
        subst (λ (l : List Held). IsSegment cells head l END) (sym here) linked.0,
        chains_linked heads chains linked.1 (omega (arith, length-append items (joined chains))),
      )

module _ (per_bucket : ℕ) (heads : List ℕ) (cells : Cells) (chains : List (List Held)) (table : IsTable per_bucket heads cells chains) where
  pub short : length (joined chains) ≤ length cells
  short = omega (arith, table.all, count_by-le-length is_some cells)

  -- the items that contracts see
  pub table_items : items_in heads cells ≡ joined chains
  table_items = items_linked cells table.free heads chains table.linked short

  pub table_chains : AreChains heads cells
  table_chains = chains_linked cells table.free heads chains table.linked short

  -- the chain of a number
  module _ (number : ℕ) (within : number < length heads) where
    abbrev pub part : IsPart cells heads chains number
    part = part_at cells heads chains number table.linked within

    pub table_parts : joined chains ≡ joined part.ahead ++ (part.mine ++ joined part.behind)
    table_parts = ap joined part.whole ∙ joined_parts part.ahead part.mine part.behind

    pub mine_is : chain cells (get_or heads number END) ≡ part.mine
    mine_is =
        chain_is cells table.free (get_or heads number END) part.mine part.linked
        (omega (
          arith,
          short,
          ap length table_parts,
          length-append (joined part.ahead) (part.mine ++ joined part.behind),
          length-append part.mine (joined part.behind),
        ))

    pub chain_ends : IsChain cells (get_or heads number END)
    chain_ends = subst (λ (l : List Held). IsSegment cells (get_or heads number END) l END) (sym mine_is) part.linked

    parts_placed : ArePlaced per_bucket 0 (part.ahead ++ part.mine ∷ part.behind)
    parts_placed = subst (ArePlaced per_bucket 0) part.whole table.placed

    here_placed : ArePlaced per_bucket number (part.mine ∷ part.behind)
    here_placed = placed_back per_bucket 0 part.ahead (part.mine ∷ part.behind) number (omega (arith, part.size)) parts_placed

    pub ahead_placed : AllByRecursion (IsBelow per_bucket number) (joined part.ahead)
    ahead_placed = placed_ahead per_bucket 0 part.ahead (part.mine ∷ part.behind) number (omega (arith, part.size)) parts_placed

    pub mine_placed : AllByRecursion (IsOf per_bucket number) part.mine
    mine_placed = here_placed.0

    pub behind_placed : AllByRecursion (IsFromOn per_bucket (suc number)) (joined part.behind)
    behind_placed = placed_from per_bucket (suc number) part.behind here_placed.1

    pub other_placed : (other : List Held) → AllByRecursion (IsOf per_bucket number) other
        → ArePlaced per_bucket 0 (part.ahead ++ other ∷ part.behind)
    other_placed other all =
        placed_replaced per_bucket 0 part.ahead part.mine other part.behind number (omega (arith, part.size)) parts_placed all

-- the head of a chain, as the code reads it
pub head_read : (heads : List ℕ) (number head : ℕ) → number < length heads → head ≡ get_or heads number head → head ≡ get_or heads number END
head_read heads number head within read = read ∙ get_or_default heads number head END within
