-- Items by key rise and keep those of one key in their order, and no other list of these items does.
use Rattle.std.proofs.Common.{◌≡◌, ℕ, zero, ◌+◌, ◌<◌, ◌≤◌, Bool, true, false, cond, List, [], ◌∷◌, length, get_or, refl, sym, ap, ◌∙◌, subst, suc, arith}
use Rattle.std.specs.Prelude.{◌&&◌, not, filter}
use Rattle.std.specs.Cmp.{IsStrictWeakOrder}
use Rattle.std.specs.Cmp.Rules.{comparing}
use Rattle.std.specs.List.{AllByRecursion}
use Rattle.std.specs.List.Sorted.{IsPermutation, IsSortedBy, IsStableBy, ties}
use Rattle.std.proofs.lemmas.Bool.{false≢true}
use Rattle.std.proofs.lemmas.List.Sorted.{IsPermutation-append_comm, IsPermutation-append_left, IsPermutation-cons, IsPermutation-refl, IsPermutation-trans, ranks_by, sorted_far}
use Rattle.rk_types.specs.declared.held.Held.{Held}
use Rattle.rk_lines.specs.Records.{by_key, is_before, put_by_key}

-- keys can be compared
pub key_order : IsStrictWeakOrder is_before
key_order = grind (arith, ranks_by, comparing)

-- whether items have one key
abbrev ties_with : Held → Held → Bool
ties_with = ties is_before

-- no key of these items comes before that of this one
abbrev AreNotBefore : Held → List Held → Type 0
AreNotBefore item items = AllByRecursion (λ other. is_before other item ≡ false) items

-- no key comes before an earlier one
abbrev Rises : List Held → Type 0
Rises [] = Unit {0}
Rises (item ∷ items) = AreNotBefore item items × Rises items

-- what does not fall from neighbour to neighbour rises
rises_from_far : (items : List Held) → ((i j : ℕ) (d : Held) → i ≤ j → j < length items → is_before (get_or items j d) (get_or items i d) ≡ false) → Rises items
rises_from_far [] far = tt
rises_from_far (item ∷ items) far = (
  go items (λ k within. far 0 (suc k) item (omega arith) (omega arith)),
  rises_from_far items (λ i j d order within. far (suc i) (suc j) d (omega arith) (omega arith)),
)
  where
    go : (rest : List Held) → ((k : ℕ) → k < length rest → is_before (get_or rest k item) item ≡ false) → AreNotBefore item rest
    go [] above = tt
    go (other ∷ rest) above = (above 0 (omega arith), go rest (λ k within. above (suc k) (omega arith)))

pub rises_from_sorted : (items : List Held) → IsSortedBy is_before items → Rises items
rises_from_sorted items sorted = rises_from_far items (sorted_far is_before key_order items sorted)

-- a key does not come before itself
not_before_itself : (item : Held) → is_before item item ≡ false
not_before_itself item = grind (arith, key_order)

-- two tests that fail make a tie
tie_from : (a b : Held) → is_before a b ≡ false → is_before b a ≡ false → ties_with a b ≡ true
tie_from a b ab ba = λ i. not (ab i) && not (ba i)

ties_with_itself : (item : Held) → ties_with item item ≡ true
ties_with_itself item = tie_from item item (not_before_itself item) (not_before_itself item)

tie_parts : (a b : Held) → ties_with a b ≡ true → (is_before a b ≡ false) × (is_before b a ≡ false)
tie_parts a b = grind (arith, false≢true)

module _ (test : Held → Bool) where
  -- what a test leaves of items that come not before one comes not before it
  not_before_kept : (item : Held) (items : List Held) → AreNotBefore item items → AreNotBefore item (filter test items)
  not_before_kept item [] all = tt
  not_before_kept item (other ∷ items) all = grind (arith, all.1, all.0, (not_before_kept item items all.1))

-- the first of items that rise does not come after the first of others, if the test for ties with that one leaves the same of both
not_after_first :
    (x y : Held) (xs ys : List Held) → Rises (y ∷ ys) → filter (ties_with x) (x ∷ xs) ≡ filter (ties_with x) (y ∷ ys) → is_before x y ≡ false
not_after_first x y xs ys rises same =
    let all : AreNotBefore y (filter (ties_with x) (y ∷ ys)) = not_before_kept (ties_with x) y (y ∷ ys) (not_before_itself y, rises.0) in
    let first : filter (ties_with x) (x ∷ xs) ≡ x ∷ filter (ties_with x) xs =
    ap (λ b. cond b (x ∷ filter (ties_with x) xs) (filter (ties_with x) xs)) (ties_with_itself x) in
    (subst (AreNotBefore y) (sym same ∙ first) all).0

-- if a test leaves the same of two lists with the same first item, it leaves the same behind that item
same_behind : (b : Bool) (x y : Held) (xs ys : List Held) → x ≡ y → cond b (x ∷ xs) xs ≡ cond b (y ∷ ys) ys → xs ≡ ys
same_behind b x y xs ys first same = grind arith

-- items that rise are known by what each key leaves of them
one_list : (xs ys : List Held) → Rises xs → Rises ys → ((z : Held) → filter (ties_with z) xs ≡ filter (ties_with z) ys) → xs ≡ ys
one_list [] [] x_rises y_rises same = refl
one_list [] (y ∷ ys) x_rises y_rises same =
    let kept : filter (ties_with y) (y ∷ ys) ≡ y ∷ filter (ties_with y) ys =
    ap (λ b. cond b (y ∷ filter (ties_with y) ys) (filter (ties_with y) ys)) (ties_with_itself y) in
    let none : [] ≡ y ∷ filter (ties_with y) ys = same y ∙ kept in
    absurd (cc)
one_list (x ∷ xs) [] x_rises y_rises same =
    let kept : filter (ties_with x) (x ∷ xs) ≡ x ∷ filter (ties_with x) xs =
    ap (λ b. cond b (x ∷ filter (ties_with x) xs) (filter (ties_with x) xs)) (ties_with_itself x) in
    let none : [] ≡ x ∷ filter (ties_with x) xs = sym (same x) ∙ kept in
    absurd (cc)
one_list (x ∷ xs) (y ∷ ys) x_rises y_rises same =
    let before : is_before x y ≡ false = not_after_first x y xs ys y_rises (same x) in
    let after : is_before y x ≡ false = not_after_first y x ys xs x_rises (sym (same y)) in
    let own : ties_with x x ≡ true = ties_with_itself x in
    let tie : ties_with x y ≡ true = tie_from x y before after in
    let kept : x ∷ filter (ties_with x) xs ≡ y ∷ filter (ties_with x) ys =
    ap (λ b. cond b (x ∷ filter (ties_with x) xs) (filter (ties_with x) xs)) (sym own)
    ∙ same x
    ∙ ap (λ b. cond b (y ∷ filter (ties_with x) ys) (filter (ties_with x) ys)) tie
    in
    let first : x ≡ y = cc in
    let rest : xs ≡ ys =
    one_list xs ys x_rises.1 y_rises.1
    (λ z. same_behind (ties_with z x) x y (filter (ties_with z) xs) (filter (ties_with z) ys) first
    (same z ∙ ap (λ w. cond (ties_with z w) (y ∷ filter (ties_with z) ys) (filter (ties_with z) ys)) (sym first)))
    in
    λ i. first i ∷ rest i

-- an item at its place comes not before what comes not before it
not_before_put : (first item : Held) (items : List Held) → is_before item first ≡ false → AreNotBefore first items → AreNotBefore first (put_by_key item items)
not_before_put first item [] its all = (its, tt)
not_before_put first item (other ∷ items) its all = grind (arith, all.1, all.0, (not_before_put first item items its all.1))

-- what is not before an item, which is not before another, is not before that other one
not_before_chain : (item first : Held) (items : List Held) → is_before first item ≡ false → AreNotBefore first items → AreNotBefore item items
not_before_chain item first [] its all = tt
not_before_chain item first (other ∷ items) its all = grind (arith, key_order, all.0, all.1, (not_before_chain item first items its all.1))

rises_put : (item : Held) (items : List Held) → Rises items → Rises (put_by_key item items)
rises_put item [] rises = (tt, tt)
rises_put item (first ∷ items) rises =
    grind (arith, not_before_put, key_order, not_before_chain, rises.1, rises.0, (rises_put item items rises.1))

-- items by key rise
pub rises_by_key : (items : List Held) → Rises (by_key items)
rises_by_key [] = tt
rises_by_key (item ∷ items) = rises_put item (by_key items) (rises_by_key items)

-- an item that is passed over has another key
not_both : (z item first : Held) → is_before first item ≡ true → ties_with z item ≡ true → ties_with z first ≡ true → ⊥
not_both z item first before with_item with_first = grind (arith, key_order, tie_parts, false≢true)

-- what a key leaves of items with one more at its place is what it leaves with that one in front
kept_put : (z item : Held) (items : List Held) → filter (ties_with z) (put_by_key item items) ≡ filter (ties_with z) (item ∷ items)
kept_put z item [] = refl
kept_put z item (first ∷ items) = grind (arith, not_both, (kept_put z item items))

-- items by key keep those of one key in their order
pub kept_by_key : (z : Held) (items : List Held) → filter (ties_with z) (by_key items) ≡ filter (ties_with z) items
kept_by_key z [] = refl
kept_by_key z (item ∷ items) = grind (arith, kept_put, (kept_by_key z items))

-- a stable sort gives the items by key
pub by_key_alone : (items sorted : List Held) → IsSortedBy is_before sorted → IsStableBy is_before items sorted → sorted ≡ by_key items
by_key_alone items sorted rises stable = grind (arith, one_list, rises_from_sorted, rises_by_key, kept_by_key)

-- items that rise do so from each to the next
next_rises : (items : List Held) → Rises items → (k : ℕ) (d : Held) → suc k < length items → is_before (get_or items (suc k) d) (get_or items k d) ≡ false
next_rises [] rises k d within = absurd (omega arith)
next_rises (item ∷ []) rises k d within = absurd (omega arith)
next_rises (item ∷ next ∷ items) rises zero d within = rises.0.0
next_rises (item ∷ next ∷ items) rises (suc k) d within = next_rises (next ∷ items) rises.1 k d (omega arith)

pub sorted_from_rises : (items : List Held) → Rises items → IsSortedBy is_before items
sorted_from_rises items rises k d low within =
    let next : k + 1 ≡ suc k = omega arith in
    ap (λ n. is_before (get_or items n d) (get_or items k d)) next ∙ next_rises items rises k d (omega arith)

-- the first two of some items, the other way round
swapped_first : (a b : Held) (items : List Held) → IsPermutation (a ∷ b ∷ items) (b ∷ a ∷ items)
swapped_first a b items =
    IsPermutation-append_left items (a ∷ b ∷ []) (b ∷ a ∷ []) (IsPermutation-append_comm (a ∷ []) (b ∷ []))

-- items with one more at its place are the same as with it in front
same_put : (item : Held) (items : List Held) → IsPermutation (item ∷ items) (put_by_key item items)
same_put item [] = IsPermutation-refl (item ∷ [])
same_put item (first ∷ items) = go (is_before first item) (same_put item items)
  where
    go : (b : Bool) → IsPermutation (item ∷ items) (put_by_key item items)
        → IsPermutation (item ∷ first ∷ items) (cond b (first ∷ put_by_key item items) (item ∷ first ∷ items))
    go true rest =
        IsPermutation-trans (item ∷ first ∷ items) (first ∷ item ∷ items) (first ∷ put_by_key item items)
        (swapped_first item first items)
        (IsPermutation-cons first (item ∷ items) (put_by_key item items) rest)
    go false rest = IsPermutation-refl (item ∷ first ∷ items)

pub same_by_key : (items : List Held) → IsPermutation items (by_key items)
same_by_key [] = IsPermutation-refl []
same_by_key (item ∷ items) =
    IsPermutation-trans (item ∷ items) (item ∷ by_key items) (put_by_key item (by_key items))
    (IsPermutation-cons item items (by_key items) (same_by_key items))
    (same_put item (by_key items))
