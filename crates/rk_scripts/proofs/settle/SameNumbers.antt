-- Maps by number that have the same numbers, whatever is under these.
use Rattle.std.proofs.Common.{arith, ◌≡◌, ◌&&◌, ℕ, Bool, true, List, [], ◌∷◌, T, length, refl, sym, ap, subst, ◌∙◌, ⊎_elim, is_some, is_lt}
use Rattle.std.proofs.Common.{nat_cmp}
use Rattle.rk_scripts.proofs.Words.{list_any, eq_by_cmp, below_all, length-map, IsInOrder, NumberMap, get, insert, numbers}
use Rattle.std.specs.FinMap.Entries.{by_order, is_some-find, is_sorted}

-- a number in its place among rising ones, once
abbrev with_number : ℕ → List ℕ → List ℕ
with_number number [] = number ∷ []
with_number number (first ∷ rest) =
    by_order (nat_cmp number first) (number ∷ first ∷ rest) (first ∷ rest) (first ∷ with_number number rest)

-- whether a number is below all of these
abbrev is_below : ℕ → List ℕ → Bool
is_below number [] = true
is_below number (first ∷ rest) = is_lt (nat_cmp number first) && is_below number rest

-- whether numbers rise
abbrev are_rising : List ℕ → Bool
are_rising [] = true
are_rising (first ∷ rest) = is_below first rest && are_rising rest

module _ {X : Type 0} where
  numbers_insert : (things : NumberMap X) (number : ℕ) (thing : X) → numbers (insert things number thing) ≡ with_number number (numbers things)
  numbers_insert [] number thing = refl
  numbers_insert (first ∷ rest) number thing = grind (arith, nat_cmp, numbers, insert, first.0, (numbers_insert rest number thing))

  below_is : (number : ℕ) (things : NumberMap X) → below_all nat_cmp number things ≡ is_below number (numbers things)
  below_is number [] = refl
  below_is number (first ∷ rest) = ap (λ (b : Bool). is_lt (nat_cmp number first.0) && b) (below_is number rest)

  rising_is : (things : NumberMap X) → is_sorted nat_cmp things ≡ are_rising (numbers things)
  rising_is [] = refl
  rising_is (first ∷ rest) = λ i. below_is first.0 rest i && rising_is rest i

module _ {X Y : Type 0} (things : NumberMap X) (others : NumberMap Y) (same : numbers things ≡ numbers others) where
  -- who is in one is in the other
  pub found_alike : (number : ℕ) → is_some (get things number) ≡ is_some (get others number)
  found_alike number =
      is_some-find nat_cmp number things ∙ ap (list_any (eq_by_cmp nat_cmp number)) same ∙ sym (is_some-find nat_cmp number others)

  pub as_many : length things ≡ length others
  as_many = sym (length-map things (λ (entry : ℕ × X). entry.0)) ∙ ap (λ (list : List ℕ). length list) same
      ∙ length-map others (λ (entry : ℕ × Y). entry.0)

  pub in_order_alike : IsInOrder others → IsInOrder things
  in_order_alike order = subst T (sym (rising_is things ∙ ap are_rising same ∙ sym (rising_is others))) order

  pub insert_alike : (number : ℕ) (thing : X) (other : Y) → numbers (insert things number thing) ≡ numbers (insert others number other)
  insert_alike number thing other =
      numbers_insert things number thing ∙ ap (with_number number) same ∙ sym (numbers_insert others number other)
