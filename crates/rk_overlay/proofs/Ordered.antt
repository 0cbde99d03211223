-- Items in order: an item at its place, what is in the list then, and that order and members determine the list.
use Rattle.std.proofs.Common.{arith, ◌≡◌, List, [], ◌∷◌, ◌⊎◌, refl, sym, ap, ◌∙◌, subst, inl, inr, ⊎_elim, rules}
use Rattle.std.specs.Prelude.{◌↔◌, fold}
use Rattle.std.specs.BTreeSet.{insert_key}
use Rattle.std.specs.Cmp.{IsTotalOrder, tied_itself}
use Rattle.std.specs.Cmp.Rules.{comparing}
use Rattle.std.specs.List.{AllByRecursion, Contains}
use Rattle.std.specs.List.Sorted.{IsStrictlySortedBy}
use Rattle.std.specs.Ordering.{match_ordering, ordering_reverse}
use Rattle.std.specs.declared.cmp.Ordering.{Ordering}
use Rattle.std.specs.declared.cmp.Ordering.TheVariants.{Less, Equal, Greater}
use Rattle.std.proofs.lemmas.List.Elements.{All-contains, All-from_recursion}
use Rattle.rk_overlay.specs.Overlay.{item_cmp}
use Rattle.rk_overlay.proofs.Members.{none_stands, first_stands, behind_stands, stands_cases}

-- the order of items is total
pub item_total : IsTotalOrder item_cmp
item_total = search (comparing, rules)

module _ {X : Type 0} (R : X → X → Ordering) (total : IsTotalOrder R) where
  -- what comes after the first of a list in order comes after what is before that one
  after_both : (x y : X) (xs : List X) → R x y ≡ Less → AllByRecursion (λ z. R y z ≡ Less) xs → AllByRecursion (λ z. R x z ≡ Less) xs
  after_both x y [] less all = tt
  after_both x y (z ∷ xs) less all = (total.trans x y z less all.0, after_both x y xs less all.1)

  -- and so does an item that is put among them
  after_inserted : (x y : X) (xs : List X) → R x y ≡ Less → AllByRecursion (λ z. R x z ≡ Less) xs → AllByRecursion (λ z. R x z ≡ Less) (insert_key R xs y)
  after_inserted x y [] less all = (less, tt)
  after_inserted x y (z ∷ xs) less all = grind (arith, all.1, all.0, (after_inserted x y xs less all.1))

  -- an item at its place leaves a list in order
  pub order_inserted : (y : X) (xs : List X) → IsStrictlySortedBy R xs → IsStrictlySortedBy R (insert_key R xs y)
  unfolding IsStrictlySortedBy
  order_inserted y [] order = (tt, tt)
  order_inserted y (x ∷ xs) order = go (R y x) refl (order_inserted y xs order.1)
    where
      go : (r : Ordering) → R y x ≡ r → IsStrictlySortedBy R (insert_key R xs y) → IsStrictlySortedBy R (match_ordering r (y ∷ x ∷ xs) (x ∷ xs) (x ∷ insert_key R xs y))
      go Less is rest = ((is, after_both y x xs is order.0), order)
      go Equal is rest = order
      go Greater is rest = (after_inserted x y xs (total.antisymm x y ∙ ap ordering_reverse is) order.0, rest)

  -- what is in a list with one more item at its place is that item, or was there before
  pub inserted_cases : (y : X) (xs : List X) (z : X) → Contains (insert_key R xs y) z → (y ≡ z) ⊎ Contains xs z
  inserted_cases y [] z at = stands_cases y [] z at
  inserted_cases y (x ∷ xs) z at = go (R y x) (inserted_cases y xs z) at
    where
      go : (r : Ordering) → (Contains (insert_key R xs y) z → (y ≡ z) ⊎ Contains xs z)
          → Contains (match_ordering r (y ∷ x ∷ xs) (x ∷ xs) (x ∷ insert_key R xs y)) z → (y ≡ z) ⊎ Contains (x ∷ xs) z
      go Less rest at = stands_cases y (x ∷ xs) z at
      go Equal rest at = inr at
      go Greater rest at =
          ⊎_elim
          (λ (same : x ≡ z). inr (subst (Contains (x ∷ xs)) same (first_stands x xs)))
          (λ (behind : Contains (insert_key R xs y) z).
          ⊎_elim (λ (its : y ≡ z). inl its) (λ (stood : Contains xs z). inr (behind_stands x xs z stood)) (rest behind))
          (stands_cases x (insert_key R xs y) z at)

  -- what was in the list still is
  pub inserted_keeps : (y : X) (xs : List X) (z : X) → Contains xs z → Contains (insert_key R xs y) z
  inserted_keeps y [] z at = absurd (none_stands z at)
  inserted_keeps y (x ∷ xs) z at = go (R y x) (inserted_keeps y xs z)
    where
      go : (r : Ordering) → (Contains xs z → Contains (insert_key R xs y) z) → Contains (match_ordering r (y ∷ x ∷ xs) (x ∷ xs) (x ∷ insert_key R xs y)) z
      go Less rest = behind_stands y (x ∷ xs) z at
      go Equal rest = at
      go Greater rest =
          ⊎_elim
          (λ (same : x ≡ z). subst (Contains (x ∷ insert_key R xs y)) same (first_stands x (insert_key R xs y)))
          (λ (behind : Contains xs z). behind_stands x (insert_key R xs y) z (rest behind))
          (stands_cases x xs z at)

  -- and so is the item, if no other one has its place
  pub inserted_stands : (y : X) (xs : List X) → ((x : X) → Contains xs x → R y x ≡ Equal → x ≡ y) → Contains (insert_key R xs y) y
  inserted_stands y [] alone = first_stands y []
  inserted_stands y (x ∷ xs) alone =
      go (R y x) refl (inserted_stands y xs (λ z at tie. alone z (behind_stands x xs z at) tie))
    where
      go : (r : Ordering) → R y x ≡ r → Contains (insert_key R xs y) y → Contains (match_ordering r (y ∷ x ∷ xs) (x ∷ xs) (x ∷ insert_key R xs y)) y
      go Less is rest = first_stands y (x ∷ xs)
      go Equal is rest = subst (Contains (x ∷ xs)) (alone x (first_stands x xs) is) (first_stands x xs)
      go Greater is rest = behind_stands x (insert_key R xs y) y rest

  -- the same of many items
  pub order_folded : (before items : List X) → IsStrictlySortedBy R before → IsStrictlySortedBy R (fold (insert_key R) before items)
  order_folded before [] order = order
  order_folded before (y ∷ items) order = order_folded (insert_key R before y) items (order_inserted y before order)

  pub folded_cases : (before items : List X) (z : X) → Contains (fold (insert_key R) before items) z → Contains before z ⊎ Contains items z
  folded_cases before [] z at = inl at
  folded_cases before (y ∷ items) z at =
      ⊎_elim
      (λ (stood : Contains (insert_key R before y) z).
      ⊎_elim
      (λ (its : y ≡ z). inr (subst (Contains (y ∷ items)) its (first_stands y items)))
      (λ (older : Contains before z). inl older)
      (inserted_cases y before z stood))
      (λ (behind : Contains items z). inr (behind_stands y items z behind))
      (folded_cases (insert_key R before y) items z at)

  pub folded_keeps : (before items : List X) (z : X) → Contains before z → Contains (fold (insert_key R) before items) z
  folded_keeps before [] z at = at
  folded_keeps before (y ∷ items) z at = folded_keeps (insert_key R before y) items z (inserted_keeps y before z at)

  -- if items of one place are equal, each of them is there
  pub folded_stands :
      (P : X → Type 0) → ((x y : X) → P x → P y → R y x ≡ Equal → x ≡ y)
      → (before items : List X) → ((z : X) → Contains before z → P z) → ((z : X) → Contains items z → P z)
      → (z : X) → Contains items z → Contains (fold (insert_key R) before items) z
  folded_stands P alike before [] old new z at = absurd (none_stands z at)
  folded_stands P alike before (y ∷ items) old new z at =
      let own : P y = new y (first_stands y items) in
      let its : Contains (insert_key R before y) y = inserted_stands y before (λ x stood tie. alike x y (old x stood) own tie) in
      ⊎_elim
      (λ (same : y ≡ z). folded_keeps (insert_key R before y) items z (subst (Contains (insert_key R before y)) same its))
      (λ (behind : Contains items z).
      folded_stands P alike (insert_key R before y) items
      (λ x stood.
      ⊎_elim (λ (same : y ≡ x). subst P same own) (λ (older : Contains before x). old x older) (inserted_cases y before x stood))
      (λ x later. new x (behind_stands y items x later)) z behind)
      (stands_cases y items z at)

  -- no item comes before itself
  not_before_itself : (x : X) → R x x ≡ Less → ⊥
  not_before_itself x less = let tie : R x x ≡ Equal = tied_itself total x in cc (less, tie)

  -- each behind the first of a list in order comes after it
  comes_after : (x : X) (xs : List X) (z : X) → AllByRecursion (λ y. R x y ≡ Less) xs → Contains xs z → R x z ≡ Less
  comes_after x xs z all at = All-contains (λ y. R x y ≡ Less) xs z (All-from_recursion (λ y. R x y ≡ Less) xs all) at

  -- two lists in order have one first item, if both have the same items
  same_first : (x y : X) (xs ys : List X) → AllByRecursion (λ z. R x z ≡ Less) xs → AllByRecursion (λ z. R y z ≡ Less) ys
      → Contains (y ∷ ys) x → Contains (x ∷ xs) y → x ≡ y
  same_first x y xs ys after_x after_y x_there y_here =
      ⊎_elim
      (λ (same : y ≡ x). sym same)
      (λ (x_behind : Contains ys x).
      ⊎_elim
      (λ (same : x ≡ y). same)
      (λ (y_behind : Contains xs y).
      absurd (not_before_itself x (total.trans x y x (comes_after x xs y after_x y_behind) (comes_after y ys x after_y x_behind))))
      (stands_cases x xs y y_here))
      (stands_cases y ys x x_there)

  -- what is behind the first item in one list is behind it in the other
  same_behind : (x : X) (xs ys : List X) → AllByRecursion (λ z. R x z ≡ Less) xs
      → ((z : X) → Contains (x ∷ xs) z → Contains (x ∷ ys) z) → (z : X) → Contains xs z → Contains ys z
  same_behind x xs ys after moves z at =
      ⊎_elim
      (λ (same : x ≡ z). absurd (not_before_itself x (subst (λ y. R x y ≡ Less) (sym same) (comes_after x xs z after at))))
      (λ (behind : Contains ys z). behind)
      (stands_cases x ys z (moves z (behind_stands x xs z at)))

  -- two lists in order with the same items are one
  pub one_order : (xs ys : List X) → IsStrictlySortedBy R xs → IsStrictlySortedBy R ys → ((z : X) → Contains xs z ↔ Contains ys z) → xs ≡ ys
  unfolding IsStrictlySortedBy
  one_order [] [] order other same = refl
  one_order [] (y ∷ ys) order other same = absurd (none_stands y ((same y).1 (first_stands y ys)))
  one_order (x ∷ xs) [] order other same = absurd (none_stands x ((same x).0 (first_stands x xs)))
  one_order (x ∷ xs) (y ∷ ys) order other same =
      let first : x ≡ y = same_first x y xs ys order.0 other.0 ((same x).0 (first_stands x xs)) ((same y).1 (first_stands y ys)) in
      let other_first : AllByRecursion (λ z. R x z ≡ Less) ys = subst (λ w. AllByRecursion (λ z. R w z ≡ Less) ys) (sym first) other.0 in
      let there : (z : X) → Contains (x ∷ xs) z → Contains (x ∷ ys) z = λ z at. subst (λ w. Contains (w ∷ ys) z) (sym first) ((same z).0 at) in
      let back : (z : X) → Contains (x ∷ ys) z → Contains (x ∷ xs) z = λ z at. (same z).1 (subst (λ w. Contains (w ∷ ys) z) first at) in
      let rest : xs ≡ ys =
      one_order xs ys order.1 other.1 (λ z. (same_behind x xs ys order.0 there z, same_behind x ys xs other_first back z)) in
      λ i. first i ∷ rest i
