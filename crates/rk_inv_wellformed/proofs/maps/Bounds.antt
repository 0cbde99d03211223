-- What holds of all numbers of lists and of maps by number holds of each: none is above the greatest, and none above the sum.
use Rattle.std.proofs.Common.{◌≡◌, ◌≤◌, ℕ, max, List, [], ◌∷◌, map, fold, sum, All, Some, sym, ap, subst, arith, sum_by, nat_cmp, Option}
use Rattle.rk_inv_wellformed.proofs.Words.{All-nil, sum-map, sum_by-cons, eq_by_cmp, NumberMap, get, greatest}
use Rattle.rk_inv_wellformed.proofs.maps.Lists.{either_way, fold_keeps_all}
use Rattle.rk_inv_wellformed.proofs.maps.Maps.{each_from_pairs}

-- ---- the greatest of numbers

start_below : (start : ℕ) (numbers : List ℕ) → start ≤ fold max start numbers
start_below start [] = omega arith
start_below start (first ∷ rest) = omega (arith, start_below (max start first) rest)

each_below : (start : ℕ) (numbers : List ℕ) → All (λ n. n ≤ fold max start numbers) numbers
each_below start [] = All-nil _
each_below start (first ∷ rest) = grind (arith, start_below, (each_below (max start first) rest))

-- no number is above the greatest
pub below_greatest : (numbers : List ℕ) → All (λ n. n ≤ greatest numbers) numbers
below_greatest numbers = each_below 0 numbers

-- and the greatest is not above what none is above
pub greatest_within : (limit : ℕ) (numbers : List ℕ) → All (λ n. n ≤ limit) numbers → greatest numbers ≤ limit
greatest_within limit numbers all =
    fold_keeps_all (λ n. n ≤ limit) (λ n. n ≤ limit) max numbers 0 (omega arith) all (λ most n below within. omega arith)

-- ---- maps by number

-- what holds of each thing of a map holds of the thing that is found
pub all_in_map : {X : Type 0} (P : X → Type 0) (things : NumberMap X) (number : ℕ) (thing : X) → get things number ≡ Some thing → All (λ entry. P entry.1) things → P thing
all_in_map P things number thing found all = each_from_pairs (λ number thing. P thing) things all number thing found

-- what is found counts in the sum
pub within_sum : {X : Type 0} (size : X → ℕ) (things : NumberMap X) (number : ℕ) (thing : X) → get things number ≡ Some thing → size thing ≤ sum_by (λ entry. size entry.1) things
within_sum size [] number thing found = absurd (cc found)
within_sum {X} size (first ∷ rest) number thing found =
    let whole = sum_by-cons (λ (entry : ℕ × X). size entry.1) first rest in
    either_way (λ (there : Option X). there ≡ Some thing → size thing ≤ sum_by (λ entry. size entry.1) (first ∷ rest)) (eq_by_cmp nat_cmp number first.0)
    (λ same. let is : first.1 ≡ thing = cc same in omega (arith, whole, ap size is))
    (λ later. omega (arith, whole, within_sum size rest number thing later)) found

pub within_sum_of : {X : Type 0} (size : X → ℕ) (things : NumberMap X) (number : ℕ) (thing : X) → get things number ≡ Some thing → size thing ≤ sum (map (λ entry. size entry.1) things)
within_sum_of size things number thing found = subst (λ (whole : ℕ). size thing ≤ whole)
    (sym (sum-map (λ entry. size entry.1) things)) (within_sum size things number thing found)
