-- Sums over a map by number: what they are when one thing more is put there.
use Rattle.std.proofs.Common.{◌≡◌, ◌≤◌, ◌+◌, ℕ, cond, T, [], ◌∷◌, map, sum, Option, None, Some, refl, sym, arith, sum_by, is_eq, nat_cmp}
use Rattle.std.proofs.Common.{unwrap_or, Equal, Less, Greater}
use Rattle.rk_inv_wellformed.proofs.Words.{ranked, sum-map, sum_by-cons, below_all, by_order, changed_each, IsInOrder, NumberMap, get}
use Rattle.rk_inv_wellformed.proofs.Words.{get_or, insert}
use Rattle.rk_inv_wellformed.proofs.maps.Bounds.{within_sum_of}
use Rattle.rk_inv_wellformed.proofs.maps.Lists.{by_found}
use Rattle.rk_inv_wellformed.proofs.maps.Maps.{above_all, first, second}

-- the size of what is under a number, 0 if nothing is
abbrev pub size_found : {X : Type 0} → (X → ℕ) → Option X → ℕ
size_found size None = 0
size_found size (Some thing) = size thing

-- nothing is under a number that is below all
none_below : {X : Type 0} (size : X → ℕ) (n : ℕ) (things : NumberMap X) → T (below_all nat_cmp n things) → (q : ℕ) → q ≤ n → (found : Option X)
    → get things q ≡ found → size_found size found ≡ 0
none_below size n things below q up found is = grind (arith, above_all)

-- a thing under a number counts in place of what was there
pub sum_inserted : {X : Type 0} (size : X → ℕ) (things : NumberMap X) (number : ℕ) (thing : X) → IsInOrder things
    → sum_by (λ entry. size entry.1) (insert things number thing) + size_found size (get things number) ≡ sum_by (λ entry. size entry.1) things + size thing
sum_inserted {X} size [] number thing order = grind (arith, sum_by-cons)
sum_inserted {X} size (here ∷ things) number thing order =
    let whole = sum_by-cons (λ (entry : ℕ × X). size entry.1) here things in
    let rest = sum_inserted size things number thing (second (below_all nat_cmp here.0 things) _ order) in
    elim (nat_cmp number here.0) as (λ o. nat_cmp number here.0 ≡ o → sum_by (λ (entry : ℕ × X). size entry.1) (by_order o ((number, thing) ∷ here ∷ things) ((here.0, thing) ∷ things) (here ∷ insert things number thing)) + size_found size (cond (is_eq o) (Some here.1) (get things number)) ≡ sum_by (λ (entry : ℕ × X). size entry.1) (here ∷ things) + size thing) [
      | Less ↦ λ is.
          let less = ranked number here.0 Less (sym is) in
          omega (
            arith,
            sum_by-cons (λ (entry : ℕ × X). size entry.1) (number, thing) (here ∷ things),
            none_below size here.0 things (first (below_all nat_cmp here.0 things) _ order) number (omega arith) (get things number) refl,
          )
      | Equal ↦ λ is. omega (arith, whole, sum_by-cons (λ (entry : ℕ × X). size entry.1) (here.0, thing) things)
      | Greater ↦ λ is. omega (arith, whole, rest, sum_by-cons (λ (entry : ℕ × X). size entry.1) here (insert things number thing))
    ]
    refl

-- and in any map no more than beside all that is there
sum_inserted_most : {X : Type 0} (size : X → ℕ) (things : NumberMap X) (number : ℕ) (thing : X)
    → sum_by (λ entry. size entry.1) (insert things number thing) ≤ sum_by (λ entry. size entry.1) things + size thing
sum_inserted_most {X} size [] number thing = omega (arith, sum_by-cons (λ (entry : ℕ × X). size entry.1) (number, thing) [])
sum_inserted_most {X} size (here ∷ things) number thing =
    let whole = sum_by-cons (λ (entry : ℕ × X). size entry.1) here things in
    let rest = sum_inserted_most size things number thing in
    elim (nat_cmp number here.0) as (λ o. sum_by (λ (entry : ℕ × X). size entry.1) (by_order o ((number, thing) ∷ here ∷ things) ((here.0, thing) ∷ things) (here ∷ insert things number thing)) ≤ sum_by (λ (entry : ℕ × X). size entry.1) (here ∷ things) + size thing) [
      | Less ↦ omega (arith, sum_by-cons (λ (entry : ℕ × X). size entry.1) (number, thing) (here ∷ things))
      | Equal ↦ omega (arith, whole, sum_by-cons (λ (entry : ℕ × X). size entry.1) (here.0, thing) things)
      | Greater ↦ omega (arith, whole, rest, sum_by-cons (λ (entry : ℕ × X). size entry.1) here (insert things number thing))
    ]

pub inserted_most : {X : Type 0} (size : X → ℕ) (things : NumberMap X) (number : ℕ) (thing : X)
    → sum (map (λ entry. size entry.1) (insert things number thing)) ≤ sum (map (λ entry. size entry.1) things) + size thing
inserted_most {X} size things number thing = omega (arith, sum_inserted_most size things number thing, sum-map {X = ℕ × X})

-- ---- things that are looked up

module _ {X : Type 0} (size : X → ℕ) (none : X) (nothing : size none ≡ 0) where
  -- a thing that is put counts in place of what was looked up
  pub sum_put : (things : NumberMap X) (number : ℕ) (thing : X) → IsInOrder things
      → sum (map (λ entry. size entry.1) (insert things number thing)) + size (get_or none things number) ≡ sum (map (λ entry. size entry.1) things) + size thing
  sum_put things number thing order = grind (arith, by_found, sum_inserted, sum-map)

  -- and what is looked up is not above the sum
  pub within_or : (things : NumberMap X) (number : ℕ) → size (get_or none things number) ≤ sum (map (λ entry. size entry.1) things)
  within_or things number = by_found (λ there. size (unwrap_or there none) ≤ sum (map (λ entry. size entry.1) things)) (get things number)
      (λ is. omega (arith, nothing)) (λ thing is. within_sum_of size things number thing is)

-- if no thing is greater after a change, neither is the sum
pub sum_changed : {X : Type 0} (size : X → ℕ) (change : ℕ → X → X) → ((number : ℕ) (thing : X) → size (change number thing) ≤ size thing)
    → (things : NumberMap X) → sum_by (λ entry. size entry.1) (changed_each change things) ≤ sum_by (λ entry. size entry.1) things
sum_changed size change less [] = omega arith
sum_changed {X} size change less (here ∷ rest) =
    omega (arith, less here.0 here.1, sum_changed size change less rest, sum_by-cons {X = ℕ × X})
