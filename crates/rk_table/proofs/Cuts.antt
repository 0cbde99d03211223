-- Searches: what they find in a list in scan order, place by place.
use Rattle.std.proofs.Common.{◌≡◌, ℕ, ◌<◌, ◌≤◌, Bool, true, false, eqb, List, [], length, get_or, refl, sym, ap, ◌∙◌, subst, ⊎_elim, arith}
use Rattle.std.specs.List.{All}
use Rattle.std.specs.List.Sorted.{IsPartitionPoint, IsPartitionedBy, IsNonDecreasingBy}
use Rattle.std.specs.Ordering.{nat_cmp, ordering_then, is_lt}
use Rattle.std.specs.declared.cmp.Ordering.{Ordering}
use Rattle.std.specs.declared.cmp.Ordering.TheVariants.{Less}
use Rattle.std.proofs.lemmas.Bool.{cases_lt, eqb-true, eq-eqb}
use Rattle.std.proofs.lemmas.Cmp.{ranked}
use Rattle.std.proofs.lemmas.List.{get_or-take, get_or-drop, length-take, length-drop}
use Rattle.std.proofs.lemmas.Map.Keys.{Less-from_sorted}
use Rattle.rk_types.specs.declared.held.Held.{Held}
use Rattle.rk_types.specs.Hashing.{bucket_of}
use Rattle.rk_table.specs.Order.{Place, item_place, item_cmp, item_bucket, item_hash, IsInScanOrder}
use Rattle.rk_table.specs.Places.{IsCut, comes_before}
use Rattle.rk_table.proofs.InOrder.{place_total, bucket_before}

-- where a search ends is a cut
pub cut_from_point : (test : Held → Bool) (items : List Held) (cut : ℕ) → cut ≤ length items
    → IsPartitionPoint (λ item. test item ≡ true) (λ item. test item ≡ false) items cut → IsCut test items cut
cut_from_point test items cut within point = grind (arith, length-take, get_or-take, get_or-drop, length-drop)

-- an answer that is less
pub less_is : (r : Ordering) → is_lt r ≡ true → r ≡ Less
less_is r h = grind arith

-- of two items of a list in scan order, the first is the same or comes before
earlier : (items : List Held) → IsInScanOrder items → (i j : ℕ) (d : Held) → i ≤ j → j < length items
    → (P : Held → Held → Type 0) → ((x : Held) → P x x) → ((x y : Held) → item_cmp x y ≡ Less → P x y)
    → P (get_or items i d) (get_or items j d)
earlier items order i j d le lt P itself before =
    ⊎_elim
    (λ (less : i < j). before (get_or items i d) (get_or items j d) (Less-from_sorted item_cmp items i j d order less lt))
    (λ (no_less : j ≤ i). let e : i ≡ j = omega arith in subst (λ (k : ℕ). P (get_or items i d) (get_or items k d)) e (itself (get_or items i d)))
    (cases_lt i j)

-- what comes before a place is in front
pub parted_by_place : (place : Place) (items : List Held) → IsInScanOrder items → IsPartitionedBy (comes_before place) items
parted_by_place place items order i j d le lt =
    earlier items order i j d le lt (λ x y. comes_before place y ≡ true → comes_before place x ≡ true)
    (λ x h. h)
    (λ x y less h. ap is_lt (place_total.trans (item_place x) (item_place y) place less (less_is _ h)))

-- the buckets do not fall
pub buckets_rise : (items : List Held) → IsInScanOrder items → IsNonDecreasingBy item_bucket items
buckets_rise items order i j d le lt =
    earlier items order i j d le lt (λ x y. item_bucket x ≤ item_bucket y) (λ x. omega arith) bucket_before

pub hash_before : (a b : Held) → item_cmp a b ≡ Less → item_bucket a ≡ item_bucket b → item_hash a ≤ item_hash b
hash_before a b h same = grind (arith, ranked)

-- an item that does not come before the first place of a hash has no lesser bucket, and in the same bucket no lesser hash
bucket_from : (a b : ℕ) (r o : Ordering) → r ≡ nat_cmp a b → is_lt (ordering_then r o) ≡ false → b ≤ a
bucket_from a b r o e h = grind (arith, ranked)

hash_from : (a b c d : ℕ) (r s o : Ordering) → r ≡ nat_cmp a b → s ≡ nat_cmp c d → is_lt (ordering_then r (ordering_then s o)) ≡ false → a ≡ b → d ≤ c
hash_from a b c d r s o e f h same = grind (arith, ranked)

-- from the first place of a hash on, the items with the hash are in front
pub parted_by_hash : (hash : ℕ) (items : List Held) → IsInScanOrder items
    → All (λ item. comes_before (bucket_of hash, hash, 0, []) item ≡ false) items → IsPartitionedBy (λ item. eqb (item_hash item) hash) items
parted_by_hash hash items order from i j d le lt h =
    let x : Held = get_or items i d in
    let y : Held = get_or items j d in
    let here : item_hash y ≡ hash = eqb-true _ _ h in
    let its_bucket : item_bucket y ≡ bucket_of hash = ap bucket_of here in
    let not_before : comes_before (bucket_of hash, hash, 0, []) x ≡ false = from i d (omega arith) in
    let low : bucket_of hash ≤ item_bucket x = bucket_from (item_bucket x) (bucket_of hash) _ _ refl not_before in
    let high : item_bucket x ≤ item_bucket y = buckets_rise items order i j d le lt in
    let same : item_bucket x ≡ bucket_of hash = le_both _ _ _ low high its_bucket in
    let least : hash ≤ item_hash x = hash_from (item_bucket x) (bucket_of hash) (item_hash x) hash _ _ _ refl refl not_before same in
    let most : item_hash x ≤ item_hash y =
    earlier items order i j d le lt (λ a b. item_bucket a ≡ item_bucket b → item_hash a ≤ item_hash b)
    (λ a e. omega arith) hash_before (same ∙ sym its_bucket) in
    eq-eqb (item_hash x) hash (le_both _ _ _ least most here)
  where
    le_both : (a b c : ℕ) → a ≤ b → b ≤ c → c ≡ a → b ≡ a
    le_both a b c p q e = omega arith
