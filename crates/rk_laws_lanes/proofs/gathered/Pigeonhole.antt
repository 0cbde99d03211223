-- Distinct things of a list that are as many as it has are all of it.
use Rattle.std.proofs.Common.{◌≡◌, ◌≢◌, ℕ, zero, suc, ◌<◌, ◌≤◌, List, [], ◌∷◌, length, sym, get_or, arith, Contains, All, AllPairs}
use Rattle.rk_inv_base.proofs.Words.{All-contains, Contains-append_right, Contains-get_or}
use Rattle.std.specs.Prelude.{IsPermutation, remove}
use Rattle.std.proofs.lemmas.List.Edits.{length-remove}
use Rattle.std.proofs.lemmas.List.Sorted.{Contains-permutation, IsPermutation-cons, IsPermutation-refl, IsPermutation-remove}
use Rattle.std.proofs.lemmas.List.Sorted.{IsPermutation-sym, IsPermutation-trans}
use Rattle.rk_laws_lanes.proofs.gathered.Pairs.{pairs_head, pairs_tail}

module _ {X : Type 0} where
  pub first_in : (x : X) (xs : List X) → Contains (x ∷ xs) x
  first_in x xs = Contains-get_or (x ∷ xs) 0 x (omega arith)

  pub later_in : (x : X) (xs : List X) (y : X) → Contains xs y → Contains (x ∷ xs) y
  later_in x xs y = Contains-append_right (x ∷ []) xs y

  pub in_cases : (x : X) (xs : List X) (y : X) (P : Type 0) → (x ≡ y → P) → (Contains xs y → P) → Contains (x ∷ xs) y → P
  in_cases x xs y P here later (zero, inside, is) = here is
  in_cases x xs y P here later (suc place, inside, is) = later (place, omega arith, is)

  -- others of a list are in it without the element at this place
  others : (xs ys : List X) (x : X) (place : ℕ) → place < length ys → x ≡ get_or ys place x → All (λ y. x ≢ y) xs
      → ((y : X) → Contains xs y → Contains ys y)
      → (y : X) → Contains xs y → Contains (remove ys place) y
  others xs ys x place inside at apart among y stands =
      in_cases x (remove ys place) y (Contains (remove ys place) y)
      (λ is. absurd (All-contains (λ y. x ≢ y) xs y apart stands is))
      (λ later. later)
      (Contains-permutation ys (x ∷ remove ys place) y (IsPermutation-remove ys place x inside at) (among y stands))

  pub all_of_them : (xs ys : List X) → AllPairs (λ a b. a ≢ b) xs → ((x : X) → Contains xs x → Contains ys x) → length ys ≤ length xs
      → IsPermutation xs ys
  all_of_them [] ys apart among few = none ys few
    where
      none : (ys : List X) → length ys ≤ 0 → IsPermutation [] ys
      none [] few = IsPermutation-refl []
      none (y ∷ ys) few = absurd (omega arith)
  all_of_them (x ∷ xs) ys apart among few =
      let at = among x (first_in x xs) in
      let place : ℕ = at.0 in
      let is : x ≡ get_or ys place x = sym at.2 in
      let shorter = length-remove ys place at.1 in
      IsPermutation-trans (x ∷ xs) (x ∷ remove ys place) ys
      (IsPermutation-cons x xs (remove ys place)
      (all_of_them xs (remove ys place) (pairs_tail (λ a b. a ≢ b) x xs apart)
      (others xs ys x place at.1 is (pairs_head (λ a b. a ≢ b) x xs apart) (λ y stands. among y (later_in x xs y stands)))
      (omega (arith, shorter, few))))
      (IsPermutation-sym ys (x ∷ remove ys place) (IsPermutation-remove ys place x at.1 is))
