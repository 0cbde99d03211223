-- Maps by number, pair by pair: each pair of a map in order is found under its number, which no later pair has; and what is put twice under
-- one number is there as it was put last.
use Rattle.std.proofs.Common.{All, Bool, List, Some, [], ap, arith, nat_cmp, refl, true, ℕ, ◌<◌, ◌∙◌, ◌∷◌, ◌≡◌}
use Rattle.std.proofs.lemmas.Cmp.{tied_itself}
use Rattle.std.specs.Cmp.{nat_cmp_total}
use Rattle.std.specs.FinMap.Entries.{below_all}
use Rattle.rk_inv_base.proofs.Words.{All-cons, All-nil, All-weaker, Equal, Greater, IsInOrder, Less, NumberMap, Ordering, and_parts}
use Rattle.rk_inv_base.proofs.Words.{by_order, get, insert, list_all}
use Rattle.rk_inv_events.proofs.Words.{All_pairs, above_all, first, order_tail}

module _ {X : Type 0} where
  -- each pair of a map in order is found under its number
  pub each_found : (pairs : NumberMap X) → IsInOrder pairs → All (λ pair. get pairs pair.0 ≡ Some pair.1) pairs
  each_found pairs order = All_pairs (λ number thing. get pairs number ≡ Some thing) pairs order (λ number thing found. found)

  -- no later pair of a map in order has the number of the first
  pub others_apart : (pair : ℕ × X) (pairs : NumberMap X) → IsInOrder (pair ∷ pairs) → All (λ other. other.0 ≡ pair.0 → ⊥) pairs
  others_apart pair pairs order =
      All-weaker (λ (other : ℕ × X). get pairs other.0 ≡ Some other.1) (λ (other : ℕ × X). other.0 ≡ pair.0 → ⊥)
      (λ other found is.
      let above : pair.0 < other.0 = above_all pair.0 pairs other.0 other.1 (first (below_all nat_cmp pair.0 pairs) _ order) found in
      omega (arith, above, is)) pairs (each_found pairs (order_tail pair pairs order))

  -- what is put last under a number stays
  pub insert_twice : (pairs : NumberMap X) (number : ℕ) (first last : X) → insert (insert pairs number first) number last ≡ insert pairs number last
  insert_twice [] number first last = grind (arith, by_order, tied_itself)
  insert_twice (pair ∷ pairs) number first last = go (nat_cmp number pair.0) refl (insert_twice pairs number first last)
    where
      go : (order : Ordering) → nat_cmp number pair.0 ≡ order → insert (insert pairs number first) number last ≡ insert pairs number last
          → insert (by_order order ((number, first) ∷ pair ∷ pairs) ((pair.0, first) ∷ pairs) (pair ∷ insert pairs number first)) number last
          ≡ by_order order ((number, last) ∷ pair ∷ pairs) ((pair.0, last) ∷ pairs) (pair ∷ insert pairs number last)
      go Less is later =
          ap (λ (order : Ordering). by_order order ((number, last) ∷ (number, first) ∷ pair ∷ pairs) ((number, last) ∷ pair ∷ pairs) ((number, first) ∷ insert (pair ∷ pairs) number last))
          (tied_itself nat_cmp_total number)
      go Equal is later =
          ap (λ (order : Ordering). by_order order ((number, last) ∷ (pair.0, first) ∷ pairs) ((pair.0, last) ∷ pairs) ((pair.0, first) ∷ insert pairs number last)) is
      go Greater is later =
          ap (λ (order : Ordering). by_order order ((number, last) ∷ pair ∷ insert pairs number first) ((pair.0, last) ∷ insert pairs number first) (pair ∷ insert (insert pairs number first) number last)) is
          ∙ ap (λ (rest : NumberMap X). pair ∷ rest) later

-- what all of a list pass, each passes
pub all_pass : {X : Type 0} (p : X → Bool) (xs : List X) → list_all p xs ≡ true → All (λ x. p x ≡ true) xs
all_pass p [] is = All-nil (λ x. p x ≡ true)
all_pass p (x ∷ xs) is = let parts = and_parts (p x) (list_all p xs) is in All-cons (λ y. p y ≡ true) x xs parts.0 (all_pass p xs parts.1)
