-- The items of the tree, sorted, are the newest items in order.
use Rattle.std.proofs.Common.{◌≡◌, ◌+◌, ◌<◌, Bool, false, List, [], ◌∷◌, Option, Some, None, length, map, get_or, refl, sym, ap, ◌∙◌, subst, ⊎_elim, arith, rules}
use Rattle.std.specs.Prelude.{IfSome}
use Rattle.std.specs.BTreeMap.{BTreeMap, get, values, IsOrdered, is_at}
use Rattle.std.specs.Cmp.{IsTotalOrder, on_total, eq_by_cmp_equiv}
use Rattle.std.specs.Cmp.Rules.{comparing}
use Rattle.std.specs.List.{All, AllByRecursion, Contains, IsDistinct}
use Rattle.std.specs.List.Sorted.{IsPermutation, IsSortedBy, IsStrictlySortedBy}
use Rattle.std.specs.Map.{keys_of, values_of}
use Rattle.std.specs.Option.{option_copied}
use Rattle.std.specs.Ordering.{is_eq, is_lt}
use Rattle.std.specs.declared.cmp.Ordering.{Ordering}
use Rattle.std.specs.declared.cmp.Ordering.TheVariants.{Less}
use Rattle.std.proofs.lemmas.Bool.{false≢true}
use Rattle.std.proofs.lemmas.List.{get_or-map, length-map}
use Rattle.std.proofs.lemmas.List.Elements.{All-contains, All-contains_itself, recursion_from_All}
use Rattle.std.proofs.lemmas.List.Sorted.{Contains-permutation, IsPermutation-sym}
use Rattle.std.proofs.lemmas.Map.Keys.{IsDistinct-cons, IsDistinct-IsPermutation, apart_from_distinct, sorted_from_all_adjacent}
use Rattle.std.proofs.lemmas.Map.Views.{All-found, IfSome-lookup_from_All}
use denote.Ref.{Bor}
use Rattle.rk_types.specs.declared.held.Held.{Held}
use Rattle.rk_overlay.specs.Newest.{newest}
use Rattle.rk_overlay.specs.Overlay.{item_cmp, newest_items}
use Rattle.rk_overlay.specs.Lent.{Name, IsTreeOf, name_cmp}
use Rattle.rk_overlay.proofs.Members.{none_stands, first_stands, behind_stands, stands_cases}
use Rattle.rk_overlay.proofs.Names.{is_of_parts}
use Rattle.rk_overlay.proofs.Bridges.{newest_is}
use Rattle.rk_overlay.proofs.Ordered.{item_total}
use Rattle.rk_overlay.proofs.Overlays.{newest_own, newest_items_alone, tie_parts}
use Rattle.rk_overlay.proofs.Trees.{name_of}

-- the order of names is total
name_total : IsTotalOrder name_cmp
name_total = search (comparing, rules)

-- what is in a list that a function gave comes from what is in the list
mapped_from : {X Y : Type 0} (f : X → Y) (xs : List X) (y : Y) → Contains (map f xs) y → (x : X) × Contains xs x × (f x ≡ y)
mapped_from f [] y at = absurd (none_stands y at)
mapped_from {X} {Y} f (x ∷ xs) y at =
    let rest = mapped_from f xs y in
    ⊎_elim
    (λ (same : f x ≡ y). (x, first_stands x xs, same))
    (λ (behind : Contains (map f xs) y). let from = rest behind in (from.0, behind_stands x xs from.0 from.1, from.2))
    (stands_cases (f x) (map f xs) y at)

-- and goes there
mapped_stands : {X Y : Type 0} (f : X → Y) (xs : List X) (x : X) → Contains xs x → Contains (map f xs) (f x)
mapped_stands f [] x at = absurd (none_stands x at)
mapped_stands {X} {Y} f (z ∷ xs) x at =
    ⊎_elim
    (λ (same : z ≡ x). subst (λ (w : X). Contains (map f (z ∷ xs)) (f w)) same (first_stands (f z) (map f xs)))
    (λ (behind : Contains xs x). behind_stands (f z) (map f xs) (f x) (mapped_stands f xs x behind))
    (stands_cases z xs x at)

-- an entry whose name is that of its item
abbrev HasOwnName : Name × Bor Held → Type 0
HasOwnName entry = (entry.0.0 ≡ entry.1.now.table) × (entry.0.1.now ≡ entry.1.now.key)

-- whether two items that are lent have one name
abbrev have_one_name : Bor Held → Bor Held → Bool
have_one_name x y = is_eq (name_cmp (name_of x.now) (name_of y.now))

one_name_back : (x y : Bor Held) → have_one_name x y ≡ have_one_name y x
one_name_back = (eq_by_cmp_equiv (on_total (λ (x : Bor Held). name_of x.now) name_total)).symm

-- entries of different names have items of different names
apart_behind :
    (first : Name × Bor Held) (entries : List (Name × Bor Held)) → HasOwnName first → AllByRecursion HasOwnName entries
    → AllByRecursion (λ name. name_cmp first.0 name ≡ Less) (keys_of entries) → AllByRecursion (λ x. have_one_name first.1 x ≡ false) (values_of entries)
apart_behind first [] own owns less = tt
apart_behind first (entry ∷ entries) own owns less =
    let same : name_cmp first.0 entry.0 ≡ name_cmp (name_of first.1.now) (name_of entry.1.now) =
    λ i. name_cmp (own.0 i, record { ref_ptr = (0, 0); now = own.1 i }) (owns.0.0 i, record { ref_ptr = (0, 0); now = owns.0.1 i }) in
    (ap is_eq (sym same ∙ less.0), apart_behind first entries own owns.1 less.1)

distinct_names : (entries : List (Name × Bor Held)) → AllByRecursion HasOwnName entries → IsStrictlySortedBy name_cmp (keys_of entries) → IsDistinct have_one_name (values_of entries)
unfolding IsStrictlySortedBy IsDistinct
distinct_names [] owns order = tt
distinct_names (first ∷ entries) owns order =
    IsDistinct-cons have_one_name first.1 (values_of entries) (apart_behind first entries owns.0 owns.1 order.0) (distinct_names entries owns.1 order.1)

-- one of two neighbours that do not fall and have different names comes before the other
before_next : (x y : Held) (r : Ordering) → item_cmp x y ≡ r → is_lt (item_cmp y x) ≡ false → is_eq (name_cmp (name_of x) (name_of y)) ≡ false → item_cmp x y ≡ Less
before_next x y r is rises apart = grind (arith, tie_parts, name_of, false≢true, name_total, item_total)

-- items that do not fall, and of which no two have one name, come each before all those behind it
abbrev lent_items : List (Bor Held) → List Held
lent_items lent = map (λ item. item.now) lent

rises_strictly : (lent : List (Bor Held)) → IsSortedBy (λ x y. is_lt (item_cmp x.now y.now)) lent → IsDistinct have_one_name lent → IsStrictlySortedBy item_cmp (lent_items lent)
unfolding IsStrictlySortedBy
rises_strictly [] rises distinct = tt
rises_strictly (first ∷ lent) rises distinct =
    sorted_from_all_adjacent item_total (lent_items (first ∷ lent)) first.now
    (λ k within.
    let all : List (Bor Held) = first ∷ lent in
    let longer : length (lent_items all) ≡ length all = length-map all (λ item. item.now) in
    let next_within : k + 1 < length all = omega arith in
    let here : get_or (lent_items all) k first.now ≡ (get_or all k first).now = get_or-map (λ item. item.now) all k first first.now (omega arith) in
    let next : get_or (lent_items all) (k + 1) first.now ≡ (get_or all (k + 1) first).now = get_or-map (λ item. item.now) all (k + 1) first first.now next_within in
    (λ i. item_cmp (here i) (next i))
    ∙ before_next (get_or all k first).now (get_or all (k + 1) first).now _ refl (rises k first (omega arith) next_within)
    (apart_from_distinct have_one_name all k (k + 1) first distinct (omega arith) next_within))

-- an option that a reference lent
shown_by : (seen : Option (Bor Held)) (item : Held) → option_copied seen ≡ Some item → (lent : Bor Held) × (seen ≡ Some lent) × (lent.now ≡ item)
shown_by None item is = absurd (cc (is))
shown_by (Some lent) item is = let same : lent.now ≡ item = cc (is) in (lent, refl, same)

module _ (tree : BTreeMap Name (Bor Held)) (items : List Held) (ordered : IsOrdered name_cmp tree) (is_tree : IsTreeOf tree (newest items)) where
  -- each entry is under the name of its item, which is the newest there
  entry_is : All (λ (entry : Name × Bor Held). newest items entry.0.0 entry.0.1.now ≡ Some entry.1.now) tree.entries
  entry_is k d within =
      let entry = get_or tree.entries k d in
      sym (is_tree entry.0) ∙ ap option_copied (All-found name_total tree ordered k d within)

  entry_own : All HasOwnName tree.entries
  entry_own k d within =
      let entry = get_or tree.entries k d in
      let its = is_of_parts entry.0.0 entry.0.1.now entry.1.now (newest_is items entry.0.0 entry.0.1.now entry.1.now (entry_is k d within)).of_record in
      (sym its.0, sym its.1)

  value_own : (lent : Bor Held) → Contains (values tree) lent → newest items lent.now.table lent.now.key ≡ Some lent.now
  value_own lent at =
      let from = mapped_from (λ (entry : Name × Bor Held). entry.1) tree.entries lent at in
      let is : newest items from.0.0.0 from.0.0.1.now ≡ Some from.0.1.now =
      All-contains (λ (entry : Name × Bor Held). newest items entry.0.0 entry.0.1.now ≡ Some entry.1.now) tree.entries from.0 entry_is from.1 in
      subst (λ (x : Bor Held). newest items x.now.table x.now.key ≡ Some x.now) from.2 (newest_own items from.0.0.0 from.0.0.1.now from.0.1.now is)

  -- and each newest item is in the tree
  newest_stands : (item : Held) → newest items item.table item.key ≡ Some item → (lent : Bor Held) × Contains (values tree) lent × (lent.now ≡ item)
  newest_stands item is =
      let shown = shown_by (get name_cmp tree (name_of item)) item (is_tree (name_of item) ∙ is) in
      let among : IfSome (get name_cmp tree (name_of item)) (Contains (values tree)) =
      IfSome-lookup_from_All (Contains (values tree)) (is_at (name_cmp (name_of item))) tree.entries (All-contains_itself (values tree)) in
      (shown.0, subst (λ (o : Option (Bor Held)). IfSome o (Contains (values tree))) shown.1 among, shown.2)

  -- sorted, they are the newest items in order
  pub sorted_are : (lent : List (Bor Held)) → IsPermutation (values tree) lent → IsSortedBy (λ x y. is_lt (item_cmp x.now y.now)) lent → lent_items lent ≡ newest_items items
  sorted_are lent moved rises =
      newest_items_alone items (lent_items lent) (record {
        newest = λ item. (
          λ at.
              let from = mapped_from (λ (x : Bor Held). x.now) lent item at in
              subst (λ (x : Held). newest items x.table x.key ≡ Some x) from.2
              (value_own from.0 (Contains-permutation lent (values tree) from.0 (IsPermutation-sym (values tree) lent moved) from.1)),
          λ is.
              let found = newest_stands item is in
              subst (Contains (lent_items lent)) found.2
              (mapped_stands (λ (x : Bor Held). x.now) lent found.0 (Contains-permutation (values tree) lent found.0 moved found.1)),
        );
        order =
            rises_strictly lent rises
            (IsDistinct-IsPermutation have_one_name one_name_back (values tree) lent moved
            (distinct_names tree.entries (recursion_from_All HasOwnName tree.entries entry_own) ordered));
      })
