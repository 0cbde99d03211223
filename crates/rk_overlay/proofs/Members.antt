-- What is in a list with one more item in front.
use Rattle.std.proofs.Common.{◌≡◌, ◌<◌, List, [], ◌∷◌, ◌⊎◌, refl, ⊎_elim, arith}
use Rattle.std.specs.List.{Contains}
use Rattle.std.proofs.lemmas.List.Elements.{Contains-append_right}

module _ {X : Type 0} where
  -- nothing is in the empty list
  pub none_stands : (y : X) → Contains [] y → ⊥
  none_stands y at = let below : at.0 < 0 = at.1 in omega arith

  -- the first item is in the list
  pub first_stands : (x : X) (xs : List X) → Contains (x ∷ xs) x
  first_stands x xs = (0, omega arith, refl)

  -- and so are those behind it
  pub behind_stands : (x : X) (xs : List X) (y : X) → Contains xs y → Contains (x ∷ xs) y
  behind_stands x xs y at = Contains-append_right (x ∷ []) xs y at

  -- and no others
  pub stands_cases : (x : X) (xs : List X) (y : X) → Contains (x ∷ xs) y → (x ≡ y) ⊎ Contains xs y
  stands_cases x xs y at = grind (arith, none_stands)
