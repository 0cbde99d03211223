-- The place of an element in a list: what is found there, and what an edit at that place makes of rows.
use Rattle.std.proofs.Common.{◌≡◌, ℕ, suc, ◌+◌, ◌<◌, ◌≤◌, Bool, true, false, cond, not, ltb, List, [], ◌∷◌, length, get_or, set, Option, Some, None, is_some, position, find, ◌==◌, nat_le, refl, sym, ap, subst, ◌∙◌, arith}
use Rattle.std.specs.Option.{unwrap_or}
use Rattle.std.specs.List.{position_or_len, insert}
use Rattle.std.proofs.lemmas.Bool.{ltb-true, ltb-false}
use Rattle.rk_tablet_map.specs.declared.row.Row.{Row}
use Rattle.rk_tablet_map.specs.Rows.{row_of, placed, replaced}

module _ {X : Type 0} (p : X → Bool) where
  -- the place of the first element that passes, or the length if none does
  abbrev pub first_place : List X → ℕ
  first_place [] = 0
  first_place (x ∷ xs) = cond (p x) 0 (suc (first_place xs))

  -- it is the library's
  pub first_place_is : (xs : List X) → position_or_len p xs ≡ first_place xs
  first_place_is [] = refl
  first_place_is (x ∷ xs) = elim (p x) as (λ b. cond (not b) (1 + position_or_len p xs) 0 ≡ cond b 0 (suc (first_place xs))) [ true ↦ refl | false ↦ omega (arith, first_place_is xs) ]

  -- it is at most the length
  pub within : (xs : List X) → first_place xs ≤ length xs
  within [] = omega arith
  within (x ∷ xs) = elim (p x) as (λ b. cond b 0 (suc (first_place xs)) ≤ suc (length xs)) [ true ↦ omega arith | false ↦ omega (arith, within xs) ]

  -- what is found is at the first place
  pub find_first : (xs : List X) (d : X) → first_place xs < length xs → find p xs ≡ Some (get_or xs (first_place xs) d)
  find_first [] d h = absurd (omega arith)
  find_first (x ∷ xs) d h =
      elim (p x) as (λ b. cond b 0 (suc (first_place xs)) < suc (length xs) → cond b (Some x) (find p xs) ≡ Some (get_or (x ∷ xs) (cond b 0 (suc (first_place xs))) d)) [
        | true ↦ λ _. refl
        | false ↦ λ w. find_first xs d (omega arith)
      ] h

  -- nothing is found if there is no such place
  pub find_none : (xs : List X) → length xs ≤ first_place xs → find p xs ≡ None
  find_none [] h = refl
  find_none (x ∷ xs) h =
      elim (p x) as (λ b. suc (length xs) ≤ cond b 0 (suc (first_place xs)) → cond b (Some x) (find p xs) ≡ None) [
        | true ↦ λ w. absurd (omega arith)
        | false ↦ λ w. find_none xs (omega arith)
      ] h

  -- an index that was found is the first place
  pub indexed : (xs : List X) (i : ℕ) → Some i ≡ position p xs → (i ≡ first_place xs) × (i < length xs)
  indexed xs i e = grind (arith, ltb, first_place_is, ltb-true)

  -- something is found if there is such a place
  found_there : (xs : List X) → first_place xs < length xs → true ≡ is_some (find p xs)
  found_there [] h = absurd (omega arith)
  found_there (x ∷ xs) h = sym (ap is_some (find_first (x ∷ xs) x h))

  -- an index is found if something is
  pub index_is_some : (xs : List X) → is_some (position p xs) ≡ is_some (find p xs)
  index_is_some xs = grind (arith, ltb, found_there, ltb-true, first_place_is, find_none, ltb-false)

-- the row at the place of a tablet is its row
pub row_at : (rows : List Row) (tablet i : ℕ) (d : Row) → Some i ≡ position (λ row. row.tablet == tablet) rows → row_of rows tablet ≡ Some (get_or rows i d)
row_at rows tablet i d e = grind (arith, indexed, find_first)

-- a tablet without a place has no row
pub no_row : (rows : List Row) (tablet : ℕ) → None ≡ position (λ row. row.tablet == tablet) rows → row_of rows tablet ≡ None
no_row rows tablet e = not_some (row_of rows tablet) (sym (index_is_some (λ row. row.tablet == tablet) rows) ∙ ap is_some (sym e))
  where
    not_some : (o : Option Row) → is_some o ≡ false → o ≡ None
    not_some None h = refl
    not_some (Some row) h = absurd (cc)

-- to replace a tablet's row is to set the row at its place
pub replaced_at : (tablet : ℕ) (row : Row) (rows : List Row) (i : ℕ) → Some i ≡ position (λ r. r.tablet == tablet) rows → replaced tablet row rows ≡ set rows i row
replaced_at tablet row rows i e =
    let at = indexed (λ r. r.tablet == tablet) rows i e in
    subst (λ (k : ℕ). replaced tablet row rows ≡ set rows k row) (sym at.0) (go rows (omega (arith, at.0, at.1)))
  where
    go : (rows : List Row) → first_place (λ r. r.tablet == tablet) rows < length rows → replaced tablet row rows ≡ set rows (first_place (λ r. r.tablet == tablet) rows) row
    go [] h = absurd (omega arith)
    go (x ∷ xs) h =
        elim (x.tablet == tablet) as (λ b. cond b 0 (suc (first_place (λ r. r.tablet == tablet) xs)) < suc (length xs) → cond b (row ∷ xs) (x ∷ replaced tablet row xs) ≡ set (x ∷ xs) (cond b 0 (suc (first_place (λ r. r.tablet == tablet) xs))) row) [
          | true ↦ λ _. refl
          | false ↦ λ w. ap (λ t. x ∷ t) (go xs (omega arith))
        ] h

-- to put a row in its place is to insert it before the first row with no smaller number
placed_first : (row : Row) (rows : List Row) → placed row rows ≡ insert rows (first_place (λ r. nat_le row.tablet r.tablet) rows) row
placed_first row [] = refl
placed_first row (x ∷ xs) = grind (arith, nat_le, row.tablet, x.tablet, (placed_first row xs))

-- the place of the first element, or the length if none passes
pub place_found : {X : Type 0} (p : X → Bool) (xs : List X) → unwrap_or (position p xs) (length xs) ≡ position_or_len p xs
place_found p xs = grind (arith, ltb, ltb-false, first_place_is, within)

-- it is within the list, so a row can be inserted there
pub place_within : {X : Type 0} (p : X → Bool) (xs : List X) → position_or_len p xs ≤ length xs
place_within p xs = omega (arith, first_place_is p xs, within p xs)

-- the same, with the library's word for the place
pub placed_at : (row : Row) (rows : List Row) → placed row rows ≡ insert rows (position_or_len (λ r. nat_le row.tablet r.tablet) rows) row
placed_at row rows = placed_first row rows ∙ ap (λ (k : ℕ). insert rows k row) (sym (first_place_is (λ r. nat_le row.tablet r.tablet) rows))
