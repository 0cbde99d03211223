-- The place of the first thing that passes a test, once one more thing is at the end.
use Rattle.std.proofs.Common.{◌≡◌, ℕ, ◌+◌, ◌≤◌, Bool, true, false, cond, eqb, ltb, not, ◌||◌, List, [], ◌∷◌, ◌++◌, length, Option, Some, None, is_some, refl, ◌∙◌, arith}
use Rattle.std.specs.List.{position, position_or_len, list_any}
use Rattle.std.proofs.lemmas.Bool.Decides.{nat_tests}
use Rattle.std.proofs.lemmas.List.{length_push}
use Rattle.std.proofs.lemmas.List.Folds.{position_or_len_push}
use Rattle.std.proofs.lemmas.List.Sums.{prefix_len-le-length}
use Rattle.rk_ledger.specs.Noted.{known_or}

-- if the test fails, the place stays
pub known_stays : (known : Option ℕ) (place : ℕ) → known_or known false place ≡ known
known_stays None place = refl
known_stays (Some known) place = refl

-- the first place among n, if the search in them stopped at i, and then one more is tested
one_more : (i n : ℕ) (holds : Bool) → i ≤ n
    → cond (ltb (cond (eqb i n) (n + cond holds 0 1) i) (n + 1)) (Some (cond (eqb i n) (n + cond holds 0 1) i)) None
    ≡ known_or (cond (ltb i n) (Some i) None) holds n
one_more i n true within = grind (arith, nat_tests)
one_more i n false within = grind (arith, nat_tests)

module _ {X : Type 0} (p : X → Bool) where
  -- the first place, once one more thing is at the end
  pub position_push : (xs : List X) (x : X) → position p (xs ++ x ∷ []) ≡ known_or (position p xs) (p x) (length xs)
  position_push xs x = grind (arith, ltb, position_or_len_push, length_push, one_more, prefix_len-le-length)

  -- a thing that passes has a first place
  pub some_position : (xs : List X) → is_some (position p xs) ≡ list_any p xs
  some_position xs = is_some_if (ltb (position_or_len p xs) (length xs)) (position_or_len p xs) ∙ go xs
    where
      is_some_if : (b : Bool) (i : ℕ) → is_some (cond b (Some i) None) ≡ b
      is_some_if true i = refl
      is_some_if false i = refl

      step : (b : Bool) (x : X) (xs : List X) → ltb (position_or_len p xs) (length xs) ≡ list_any p xs
          → ltb (cond (not b) (1 + position_or_len p xs) 0) (length (x ∷ xs)) ≡ (b || list_any p xs)
      step true x xs rest = grind (arith, nat_tests)
      step false x xs rest =
          let less : ltb (1 + position_or_len p xs) (length (x ∷ xs)) ≡ ltb (position_or_len p xs) (length xs) = grind (arith, nat_tests) in
          less ∙ rest

      go : (xs : List X) → ltb (position_or_len p xs) (length xs) ≡ list_any p xs
      go [] = refl
      go (x ∷ xs) = step (p x) x xs (go xs)
