-- Maps whose numbers follow one another from 1: something is found under each of them, and they stay when something else is put
-- under one of them.
use Rattle.std.proofs.Common.{◌≡◌, ◌≤◌, ◌<◌, Less, Equal, Greater, ℕ, zero, suc, ◌+◌, ◌==◌, true, cond, T, List, [], ◌∷◌, map, Some}
use Rattle.std.proofs.Common.{is_some, refl, sym, ap, subst, ◌∙◌, ⊎_elim, arith, is_eq, is_lt, nat_cmp, eq-eqb}
use Rattle.rk_inv_wellformed.proofs.Words.{All-map, cases_eq, ranked, unsigned_tied, nat_eq_equiv, below_all, by_order, range_with_len}
use Rattle.rk_inv_wellformed.proofs.Words.{eq_by_cmp, IsInOrder, NumberMap, get, insert, numbers, is_among, IsMaster, or_left, or_right}
use Rattle.rk_inv_wellformed.proofs.Words.{nat_cmp_is}
use Rattle.std.specs.FinMap.{is_sorted}
use Rattle.rk_inv_wellformed.proofs.maps.Lists.{all_each, by_found}
use Rattle.rk_inv_wellformed.proofs.maps.Maps.{above_all, both_hold, each_from_pairs, first as first_of, second as second_of}

-- ---- things of numbers that follow one another

-- each number with its thing
abbrev pub with_numbers : {X : Type 0} → (ℕ → X) → List ℕ → NumberMap X
with_numbers thing numbers = map (λ number. (number, thing number)) numbers

-- what is found under a number is its thing
pub found_numbered : {X : Type 0} (thing : ℕ → X) (numbers : List ℕ) (q : ℕ) (x : X) → get (with_numbers thing numbers) q ≡ Some x → thing q ≡ x
found_numbered thing numbers q x found = each_from_pairs (λ q x. thing q ≡ x) (with_numbers thing numbers)
    (All-map (λ pair. thing pair.0 ≡ pair.1) (λ number. (number, thing number)) numbers (all_each (λ number. thing number ≡ thing number) numbers (λ number. refl)))
    q x found

-- the numbers of such things are these
pub numbers_are : {X : Type 0} (thing : ℕ → X) (list : List ℕ) → numbers (with_numbers thing list) ≡ list
numbers_are thing [] = refl
numbers_are thing (number ∷ list) = ap (λ (rest : List ℕ). number ∷ rest) (numbers_are thing list)

-- ---- the numbers of a map

-- a number is among those of a map if something is under it
pub among_numbers : {X : Type 0} (things : NumberMap X) (number : ℕ) → is_among number (numbers things) ≡ is_some (get things number)
among_numbers [] number = refl
among_numbers (first ∷ rest) number =
    grind (arith, is_among, numbers, nat_eq_equiv, unsigned_tied, eq_by_cmp, nat_cmp, first.0, first.1, (among_numbers rest number))

-- within a range each number is among its numbers
among_range : (start count q : ℕ) → start ≤ q → q < start + count → is_among q (range_with_len start count) ≡ true
among_range start zero q low high = absurd (omega (arith, low, high))
among_range start (suc count) q low high = ⊎_elim
    (λ (is : start ≡ q). or_left (start == q) (is_among q (range_with_len (start + 1) count)) (eq-eqb start q is))
    (λ (apart : start ≡ q → ⊥). or_right (start == q) (is_among q (range_with_len (start + 1) count))
    (among_range (start + 1) count q (omega (arith, low, apart)) (omega (arith, high)))) (cases_eq start q)

-- what is found under a number that such a map has
pub found_in_range : {X : Type 0} (things : NumberMap X) {count q : ℕ} → numbers things ≡ range_with_len 1 count → IsMaster count q → is_some (get things q) ≡ true
found_in_range things {count} {q} are there = sym (among_numbers things q) ∙ ap (is_among q) are
    ∙ among_range 1 count q there.first (omega (arith, there.last))

-- a map whose numbers are those of a range is in order
below_numbers : {X : Type 0} (n start count : ℕ) (things : NumberMap X) → n < start → numbers things ≡ range_with_len start count
    → T (below_all nat_cmp n things)
below_numbers n start count [] below are = tt
below_numbers n start zero (thing ∷ things) below are = absurd (cc are)
below_numbers n start (suc count) (thing ∷ things) below are =
    let here : thing.0 ≡ start = cc are in
    let rest : numbers things ≡ range_with_len (start + 1) count = cc are in
    both_hold (is_lt (nat_cmp n thing.0)) (below_all nat_cmp n things)
    (subst (λ o. T (is_lt o)) (nat_cmp_is n thing.0 Less (omega (arith, here, below))) tt)
    (below_numbers n (start + 1) count things (omega (arith, below)) rest)

range_order : {X : Type 0} (start count : ℕ) (things : NumberMap X) → numbers things ≡ range_with_len start count → IsInOrder things
range_order start count [] are = tt
range_order start zero (thing ∷ things) are = absurd (cc are)
range_order start (suc count) (thing ∷ things) are =
    let here : thing.0 ≡ start = cc are in
    let rest : numbers things ≡ range_with_len (start + 1) count = cc are in
    both_hold (below_all nat_cmp thing.0 things) (is_sorted nat_cmp things)
    (below_numbers thing.0 (start + 1) count things (omega (arith, here)) rest) (range_order (start + 1) count things rest)

pub numbered_order : {X : Type 0} (things : NumberMap X) (count : ℕ) → numbers things ≡ range_with_len 1 count → IsInOrder things
numbered_order things count are = range_order 1 count things are

-- a map in order has the same numbers when something else is under one of them
pub numbers_stay : {X : Type 0} (things : NumberMap X) (n : ℕ) (thing : X) → IsInOrder things → is_some (get things n) ≡ true
    → numbers (insert things n thing) ≡ numbers things
numbers_stay [] n thing order there = absurd (cc there)
numbers_stay {X} (here ∷ things) n thing order there =
    elim (nat_cmp n here.0) as (λ o. nat_cmp n here.0 ≡ o → is_some (cond (is_eq o) (Some here.1) (get things n)) ≡ true → numbers (by_order o ((n, thing) ∷ here ∷ things) ((here.0, thing) ∷ things) (here ∷ insert things n thing)) ≡ numbers (here ∷ things)) [
      | Less ↦ λ is found.
          let less = ranked n here.0 Less (sym is) in
          by_found (λ (behind : _). is_some behind ≡ true → n ∷ here.0 ∷ numbers things ≡ here.0 ∷ numbers things) (get things n) (λ none some. absurd (cc some))
          (λ x behind some.
          let above = above_all here.0 things n x (first_of (below_all nat_cmp here.0 things) _ order) behind in
          absurd (omega (arith, less, above)))
          found
      | Equal ↦ λ is found. refl
      | Greater ↦ λ is found.
          ap (λ (rest : List ℕ). here.0 ∷ rest) (numbers_stay things n thing (second_of (below_all nat_cmp here.0 things) _ order) found)
    ] refl there

-- and so has such a map
pub numbers_kept : {X : Type 0} (things : NumberMap X) (count n : ℕ) (thing : X) → numbers things ≡ range_with_len 1 count → IsMaster count n → numbers (insert things n thing) ≡ numbers things
numbers_kept things count n thing are there = numbers_stay things n thing (numbered_order things count are) (found_in_range things are there)
