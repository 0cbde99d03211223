-- An item among others in scan order: where it is found, and where it goes.
use Rattle.std.proofs.Common.{arith}
use Rattle.std.proofs.Common.{◌≡◌, ℕ, ◌+◌, ◌<◌, ◌≤◌, Bool, true, false, List, [], ◌∷◌, ◌++◌, ◌⊎◌, Some, None, length, take, drop, get_or, set, refl, sym, ap, ◌∙◌, subst, inl, inr, ⊎_elim, add-one}
use Rattle.std.specs.Prelude.{find}
use Rattle.std.specs.Cmp.{tied_itself}
use Rattle.std.specs.Cmp.Lexicographic.{slice_cmp, bytes_decides}
use Rattle.std.specs.List.{All, AllByRecursion, filter, insert}
use Rattle.std.specs.List.Sorted.{IsStrictlySortedBy}
use Rattle.std.specs.Ordering.{nat_cmp, ordering_then, ordering_reverse, is_lt, is_eq}
use Rattle.std.specs.declared.cmp.Ordering.{Ordering}
use Rattle.std.specs.declared.cmp.Ordering.TheVariants.{Less, Equal, Greater}
use Rattle.std.proofs.lemmas.Bool.{and_from, and_parts, cond-true, cond-false, eq-eqb, eqb-true, false_from_ne_true, false≢true}
use Rattle.std.proofs.lemmas.Cmp.{ranked}
use Rattle.std.proofs.lemmas.List.{append-nil, drop_all, drop_more, get_or_default, set_split, take-append-drop}
use Rattle.std.proofs.lemmas.List.Elements.{All-head, All-tail, All-weaker, filter-append, filter_passes, recursion_from_All}
use Rattle.std.proofs.lemmas.List.Kept.{IsStrictlySortedBy-filter}
use Rattle.std.proofs.lemmas.Map.Text.{is_eq-slice_cmp}
use Rattle.rk_types.specs.declared.held.Held.{Held}
use Rattle.rk_table.specs.Order.{Place, place_of, place_cmp, item_place, item_cmp, is_before, IsInScanOrder}
use Rattle.rk_table.specs.Items.{is_at, found, with_item}
use Rattle.rk_table.specs.Places.{IsCut, IsGap, IsHere, comes_before}
use Rattle.rk_table.proofs.Ordered.{filter_kept, filter_left_out}
use Rattle.rk_table.proofs.InOrder.{item_total, place_total}
use Rattle.rk_table.proofs.Cuts.{less_is}
use Rattle.rk_table.proofs.Walks.{filter_all_here, filter_none_here}

then_equal : (r s : Ordering) → ordering_then r s ≡ Equal → (r ≡ Equal) × (s ≡ Equal)
then_equal r s h = grind arith

-- an item is that of a key of a table exactly if the two places are the same
pub at_from_tie : (table : ℕ) (key : List ℕ) (item : Held) → place_cmp (item_place item) (place_of table key) ≡ Equal → is_at table key item ≡ true
at_from_tie table key item tie =
    let inner : ordering_then (nat_cmp item.table table) (slice_cmp nat_cmp item.key key) ≡ Equal =
    (then_equal _ _ (then_equal _ _ tie).1).1 in
    let both = then_equal (nat_cmp item.table table) (slice_cmp nat_cmp item.key key) inner in
    and_from _ _ (eq-eqb item.table table (ranked item.table table Equal (sym both.0)))
    (sym (is_eq-slice_cmp item.key key) ∙ ap is_eq both.1)

pub tie_from_at : (table : ℕ) (key : List ℕ) (item : Held) → is_at table key item ≡ true → place_cmp (item_place item) (place_of table key) ≡ Equal
tie_from_at table key item here =
    let both = and_parts _ _ here in
    let its_table : item.table ≡ table = eqb-true _ _ both.0 in
    let its_key : item.key ≡ key = (bytes_decides item.key key).0 both.1 in
    (λ i. place_cmp (place_of (its_table i) (its_key i)) (place_of table key)) ∙ tied_itself place_total (place_of table key)

-- an item before a place, or behind it, is not the one there
pub not_at_before : (table : ℕ) (key : List ℕ) (item : Held) → comes_before (place_of table key) item ≡ true → is_at table key item ≡ false
not_at_before table key item before =
    false_from_ne_true _ (λ here. false≢true (sym (ap is_lt (tie_from_at table key item here)) ∙ before))

turned_back : (r s : Ordering) → r ≡ ordering_reverse s → s ≡ Less → r ≡ Greater
turned_back r s e h = e ∙ ap ordering_reverse h

pub not_at_behind : (table : ℕ) (key : List ℕ) (item : Held) → place_cmp (place_of table key) (item_place item) ≡ Less → is_at table key item ≡ false
not_at_behind table key item behind =
    let greater : place_cmp (item_place item) (place_of table key) ≡ Greater = turned_back _ _ (place_total.antisymm (item_place item) (place_of table key)) behind in
    false_from_ne_true _ (λ here. absurd (cc (greater, tie_from_at table key item here)))

-- an item that does not come before a place is there or comes behind it
pub at_or_behind : (place : Place) (item : Held) (r : Ordering) → place_cmp (item_place item) place ≡ r → is_lt r ≡ false
    → (place_cmp (item_place item) place ≡ Equal) ⊎ (place_cmp place (item_place item) ≡ Less)
at_or_behind place item Less e h = absurd (cc)
at_or_behind place item Equal e h = inl e
at_or_behind place item Greater e h = inr (place_total.antisymm place (item_place item) ∙ ap ordering_reverse e)

-- what comes behind such an item comes behind the place
behind_both : (place : Place) (item other : Held) → comes_before place item ≡ false → item_cmp item other ≡ Less → place_cmp place (item_place other) ≡ Less
behind_both place item other from less =
    ⊎_elim
    (λ (tie : place_cmp (item_place item) place ≡ Equal). sym (place_total.congr (item_place item) place (item_place other) tie) ∙ less)
    (λ (behind : place_cmp place (item_place item) ≡ Less). place_total.trans place (item_place item) (item_place other) behind less)
    (at_or_behind place item _ refl from)

pub all_behind : (place : Place) (item : Held) (items : List Held) → comes_before place item ≡ false
    → AllByRecursion (λ other. item_cmp item other ≡ Less) items → AllByRecursion (λ other. place_cmp place (item_place other) ≡ Less) items
all_behind place item [] from all = tt
all_behind place item (other ∷ items) from all = (behind_both place item other from all.0, all_behind place item items from all.1)

-- a search among items of which none is the one
find_none : (p : Held → Bool) (items : List Held) → AllByRecursion (λ item. p item ≡ false) items → find p items ≡ None
find_none p [] all = refl
find_none p (item ∷ items) all = cond-false (p item) (Some item) (find p items) all.0 ∙ find_none p items all.1

pub find_past : (p : Held → Bool) (front back : List Held) → All (λ item. p item ≡ false) front → find p (front ++ back) ≡ find p back
find_past p [] back all = refl
find_past p (item ∷ front) back all =
    cond-false (p item) (Some item) (find p (front ++ back)) (All-head (λ x. p x ≡ false) item front all)
    ∙ find_past p front back (All-tail (λ x. p x ≡ false) item front all)

none_at : (table : ℕ) (key : List ℕ) (items : List Held) → AllByRecursion (λ other. place_cmp (place_of table key) (item_place other) ≡ Less) items
    → AllByRecursion (λ other. is_at table key other ≡ false) items
none_at table key [] all = tt
none_at table key (item ∷ items) all = (not_at_behind table key item all.0, none_at table key items all.1)

-- the items behind a place
abbrev pub behind : Place → List Held → List Held
behind place items = filter (λ other. is_lt (place_cmp place (item_place other))) items

pub behind_all : (place : Place) (items : List Held) → AllByRecursion (λ other. place_cmp place (item_place other) ≡ Less) items → behind place items ≡ items
behind_all place [] all = refl
behind_all place (item ∷ items) all = grind (arith, filter_kept, all.0, all.1, (behind_all place items all.1))

-- of items in scan order from a place on, the first is the one there, and all others come behind
tail_here : (table : ℕ) (key : List ℕ) (item : Held) (items : List Held) → IsInScanOrder (item ∷ items)
    → is_at table key item ≡ true → behind (place_of table key) (item ∷ items) ≡ items
unfolding IsStrictlySortedBy
tail_here table key item items order here =
    let place : Place = place_of table key in
    let tie : place_cmp (item_place item) place ≡ Equal = tie_from_at table key item here in
    let back : place_cmp place (item_place item) ≡ Equal = place_total.antisymm place (item_place item) ∙ ap ordering_reverse tie in
    filter_left_out (λ other. is_lt (place_cmp place (item_place other))) item items (ap is_lt back)
    ∙ behind_all place items (all_behind place item items (ap is_lt tie) order.0)

-- or all come behind
tail_behind : (table : ℕ) (key : List ℕ) (item : Held) (items : List Held) → IsInScanOrder (item ∷ items)
    → comes_before (place_of table key) item ≡ false → is_at table key item ≡ false
    → AllByRecursion (λ other. place_cmp (place_of table key) (item_place other) ≡ Less) (item ∷ items)
unfolding IsStrictlySortedBy
tail_behind table key item items order from absent =
    ⊎_elim
    (λ (tie : place_cmp (item_place item) (place_of table key) ≡ Equal). absurd (false≢true (sym absent ∙ at_from_tie table key item tie)))
    (λ (less : place_cmp (place_of table key) (item_place item) ≡ Less). (less, all_behind (place_of table key) item items from order.0))
    (at_or_behind (place_of table key) item _ refl from)

-- the back of a list in scan order is in scan order
pub order_of_back : (front back : List Held) → IsInScanOrder (front ++ back) → IsInScanOrder back
unfolding IsStrictlySortedBy
order_of_back [] back order = order
order_of_back (item ∷ front) back order = order_of_back front back order.1

module _ (table : ℕ) (key : List ℕ) (items : List Held) (order : IsInScanOrder items) (cut : ℕ) (at : IsCut (comes_before (place_of table key)) items cut) where
  abbrev there : Place
  there = place_of table key

  whole : take cut items ++ drop cut items ≡ items
  whole = take-append-drop cut items

  back_order : IsInScanOrder (drop cut items)
  back_order = order_of_back (take cut items) (drop cut items) (subst IsInScanOrder (sym whole) order)

  -- what is found is behind the cut
  found_back : found table key items ≡ found table key (drop cut items)
  found_back = grind (arith, whole, find_past, not_at_before)

  -- the items before the place are those before the cut
  before_front : filter (comes_before there) items ≡ take cut items
  before_front = grind (arith, whole, filter-append, filter_all_here, filter_none_here, append-nil)

  not_behind : (item : Held) → comes_before there item ≡ true → is_lt (place_cmp there (item_place item)) ≡ false
  not_behind item before = ap is_lt (place_total.antisymm there (item_place item) ∙ ap ordering_reverse (less_is _ before))

  -- and those behind it are behind the cut
  behind_back : behind there items ≡ behind there (drop cut items)
  behind_back =
      ap (behind there) (sym whole)
      ∙ filter-append _ (take cut items) (drop cut items)
      ∙ ap (λ (l : List Held). l ++ behind there (drop cut items))
      (filter_none_here _ (take cut items) (λ k d h. not_behind (get_or (take cut items) k d) (at.front k d h)))

  -- an item goes to its place
  goes : (item : Held) → item.table ≡ table → item.key ≡ key → with_item item items ≡ filter (comes_before there) items ++ item ∷ behind there items
  goes item its_table its_key = grind arith

  module _ (item : Held) (within : cut < length items) (read : item ≡ get_or items cut item) where
    tail : drop cut items ≡ item ∷ drop (cut + 1) items
    tail = drop_more items cut item within ∙ ap (λ (x : Held). x ∷ drop (cut + 1) items) (sym read)

    tail_order : IsInScanOrder (item ∷ drop (cut + 1) items)
    tail_order = subst IsInScanOrder tail back_order

    -- if the item behind the cut is that of the key, it is found
    pub found_here : is_at table key item ≡ true → found table key items ≡ Some item
    found_here here = found_back ∙ ap (found table key) tail ∙ cond-true (is_at table key item) (Some item) (found table key (drop (cut + 1) items)) here

    -- and another with its key takes its place
    pub replaced_here : is_at table key item ≡ true → (new : Held) → new.table ≡ table → new.key ≡ key → with_item new items ≡ set items cut new
    replaced_here here new its_table its_key =
        let after : behind there items ≡ drop (cut + 1) items =
        behind_back ∙ ap (behind there) tail ∙ tail_here table key item (drop (cut + 1) items) tail_order here in
        goes new its_table its_key ∙ (λ i. before_front i ++ new ∷ after i)
        ∙ ap (λ (k : ℕ). take cut items ++ new ∷ drop k items) (add-one cut) ∙ sym (set_split items cut new within)

    first_from : comes_before there item ≡ false
    first_from = All-head (λ x. comes_before there x ≡ false) item (drop (cut + 1) items) (subst (All (λ x. comes_before there x ≡ false)) tail at.back)

    -- if it is another, none is found
    pub none_here : is_at table key item ≡ false → found table key items ≡ None
    none_here absent =
        found_back ∙ ap (found table key) tail
        ∙ find_none (is_at table key) (item ∷ drop (cut + 1) items) (none_at table key (item ∷ drop (cut + 1) items) (tail_behind table key item (drop (cut + 1) items) tail_order first_from absent))

    -- and an item goes before it
    pub inserted_here : is_at table key item ≡ false → (new : Held) → new.table ≡ table → new.key ≡ key → with_item new items ≡ insert items cut new
    inserted_here absent new its_table its_key =
        let after : behind there items ≡ drop cut items =
        behind_back ∙ ap (behind there) tail
        ∙ behind_all there (item ∷ drop (cut + 1) items) (tail_behind table key item (drop (cut + 1) items) tail_order first_from absent)
        ∙ sym tail in
        goes new its_table its_key ∙ (λ i. before_front i ++ new ∷ after i)

  module _ (past : length items ≤ cut) where
    nothing : drop cut items ≡ []
    nothing = drop_all cut items past

    -- if the cut is at the end, none is found
    pub none_past : found table key items ≡ None
    none_past = found_back ∙ ap (found table key) nothing

    -- and an item goes to the end
    pub inserted_past : (new : Held) → new.table ≡ table → new.key ≡ key → with_item new items ≡ insert items cut new
    inserted_past new its_table its_key =
        let after : behind there items ≡ drop cut items = behind_back ∙ ap (behind there) nothing ∙ sym nothing in
        goes new its_table its_key ∙ (λ i. before_front i ++ new ∷ after i)

-- what a search found, as the code knows its place
pub here_found : (table : ℕ) (key : List ℕ) (place : Place) (items : List Held) (cut : ℕ) (item : Held) → IsInScanOrder items → place ≡ place_of table key
    → IsCut (comes_before place) items cut → cut < length items → item ≡ get_or items cut item → is_at table key item ≡ true → IsHere table key items cut
here_found table key place items cut item order its_place at within read here =
    let cut_here : IsCut (comes_before (place_of table key)) items cut = subst (λ (p : Place). IsCut (comes_before p) items cut) its_place at in
    record {
      within = within;
      value = λ d.
          subst (λ (x : Held). found table key items ≡ Some x) (read ∙ get_or_default items cut item d within)
          (found_here table key items order cut cut_here item within read here);
      replaced = replaced_here table key items order cut cut_here item within read here;
    }

pub gap_found : (table : ℕ) (key : List ℕ) (place : Place) (items : List Held) (cut : ℕ) (item : Held) → IsInScanOrder items → place ≡ place_of table key
    → IsCut (comes_before place) items cut → cut < length items → item ≡ get_or items cut item → is_at table key item ≡ false → IsGap table key items cut
gap_found table key place items cut item order its_place at within read absent =
    let cut_here : IsCut (comes_before (place_of table key)) items cut = subst (λ (p : Place). IsCut (comes_before p) items cut) its_place at in
    record {
      within = at.within;
      absent = none_here table key items order cut cut_here item within read absent;
      inserted = inserted_here table key items order cut cut_here item within read absent;
    }

pub gap_past : (table : ℕ) (key : List ℕ) (place : Place) (items : List Held) (cut : ℕ) → IsInScanOrder items → place ≡ place_of table key
    → IsCut (comes_before place) items cut → length items ≤ cut → IsGap table key items cut
gap_past table key place items cut order its_place at past =
    let cut_here : IsCut (comes_before (place_of table key)) items cut = subst (λ (p : Place). IsCut (comes_before p) items cut) its_place at in
    record {
      within = at.within;
      absent = none_past table key items order cut cut_here past;
      inserted = inserted_past table key items order cut cut_here past;
    }

before_all : (x item : Held) (front back : List Held) → AllByRecursion (λ y. item_cmp x y ≡ Less) front → item_cmp x item ≡ Less
    → AllByRecursion (λ y. item_cmp item y ≡ Less) back → AllByRecursion (λ y. item_cmp x y ≡ Less) (front ++ item ∷ back)
before_all x item [] back all less rest = (less, before_rest back rest)
  where
    before_rest : (ys : List Held) → AllByRecursion (λ y. item_cmp item y ≡ Less) ys → AllByRecursion (λ y. item_cmp x y ≡ Less) ys
    before_rest [] rest = tt
    before_rest (y ∷ ys) rest = (item_total.trans x item y less rest.0, before_rest ys rest.1)
before_all x item (y ∷ front) back all less rest = (all.0, before_all x item front back all.1 less rest)

-- items in scan order before an item, the item, and items in scan order behind it
pub order_around : (front : List Held) (item : Held) (back : List Held) → IsInScanOrder front → AllByRecursion (λ x. item_cmp x item ≡ Less) front
    → AllByRecursion (λ y. item_cmp item y ≡ Less) back → IsInScanOrder back → IsInScanOrder (front ++ item ∷ back)
unfolding IsStrictlySortedBy
order_around [] item back order before behind back_order = (behind, back_order)
order_around (x ∷ front) item back order before behind back_order =
    (before_all x item front back order.0 before.0 behind, order_around front item back order.1 before.1 behind back_order)

-- a test that decides which items come first
less_all : (p : Held → Bool) (P : Held → Type 0) → ((x : Held) → p x ≡ true → P x) → (items : List Held) → AllByRecursion P (filter p items)
less_all p P tells items =
    recursion_from_All P (filter p items) (All-weaker (λ x. p x ≡ true) P tells (filter p items) (filter_passes p items))

-- an item at its place leaves the items in scan order
pub order_with_item : (item : Held) (items : List Held) → IsInScanOrder items → IsInScanOrder (with_item item items)
order_with_item item items order =
    order_around (filter (λ other. is_before other item) items) item (filter (λ other. is_before item other) items)
    (IsStrictlySortedBy-filter item_cmp (λ other. is_before other item) items order)
    (less_all (λ other. is_before other item) (λ x. item_cmp x item ≡ Less) (λ x h. less_is (item_cmp x item) h) items)
    (less_all (λ other. is_before item other) (λ y. item_cmp item y ≡ Less) (λ y h. less_is (item_cmp item y) h) items)
    (IsStrictlySortedBy-filter item_cmp (λ other. is_before item other) items order)
