-- Rows of a tablet map with one more in its place.
use Rattle.rk_inv_base.proofs.Words.{◌≡◌, ℕ, Bool, true, false, cond, ◌||◌, ◌&&◌, List, [], ◌∷◌, eqb, leb, refl, sym, subst, ◌∙◌, ⊎_elim}
use Rattle.rk_inv_base.proofs.Words.{arith, ◌⊎◌, inl, inr, is_some, nat_le, All, Contains, nat_tests, list_any, has, meets, Range}
use Rattle.rk_inv_base.proofs.Words.{is_covered, placed, row_of, Row, behind_stands, or_right, Any-from_list_any, meets_any}
use Rattle.rk_inv_base.proofs.Base.{contains_cases, all_by, none_pass, found_any}

-- what is there then is the new row, or was there before
pub stood_placed : (row x : Row) (rows : List Row) → Contains (placed row rows) x → (x ≡ row) ⊎ Contains rows x
stood_placed row x [] stands = grind (arith, contains_cases)
stood_placed row x (first ∷ rest) stands = go (nat_le row.tablet first.tablet) (stood_placed row x rest) stands
  where
    go : (b : Bool) → (Contains (placed row rest) x → (x ≡ row) ⊎ Contains rest x) → Contains (cond b (row ∷ first ∷ rest) (first ∷ placed row rest)) x → (x ≡ row) ⊎ Contains (first ∷ rest) x
    go true later stands =
        ⊎_elim (λ (is : row ≡ x). inl (sym is)) (λ (behind : Contains (first ∷ rest) x). inr behind)
        (contains_cases row (first ∷ rest) x stands)
    go false later stands =
        ⊎_elim (λ (is : first ≡ x). inr (0, omega arith, is))
        (λ (behind : Contains (placed row rest) x).
        ⊎_elim (λ (is : x ≡ row). inl is) (λ (before : Contains rest x). inr (behind_stands first rest x before)) (later behind))
        (contains_cases first (placed row rest) x stands)

-- what was there before is there then
pub stands_placed : (row x : Row) (rows : List Row) → Contains rows x → Contains (placed row rows) x
stands_placed row x [] stands = absurd (omega (arith, stands.1))
stands_placed row x (first ∷ rest) stands = go (nat_le row.tablet first.tablet) (stands_placed row x rest)
  where
    go : (b : Bool) → (Contains rest x → Contains (placed row rest) x) → Contains (cond b (row ∷ first ∷ rest) (first ∷ placed row rest)) x
    go true later = behind_stands row (first ∷ rest) x stands
    go false later =
        ⊎_elim (λ (is : first ≡ x). (0, omega arith, is))
        (λ (behind : Contains rest x). behind_stands first (placed row rest) x (later behind))
        (contains_cases first rest x stands)

-- and so is the new row
pub new_placed : (row : Row) (rows : List Row) → Contains (placed row rows) row
new_placed row [] = (0, omega arith, refl)
new_placed row (first ∷ rest) = go (nat_le row.tablet first.tablet) (new_placed row rest)
  where
    go : (b : Bool) → Contains (placed row rest) row → Contains (cond b (row ∷ first ∷ rest) (first ∷ placed row rest)) row
    go true later = (0, omega arith, refl)
    go false later = behind_stands first (placed row rest) row later

-- what holds of the new one and of each other one holds of each
pub all_with : (P : Row → Type 0) (row : Row) (rows : List Row) → P row → ((x : Row) → Contains rows x → P x) → All P (placed row rows)
all_with P row rows here others =
    all_by P (placed row rows)
    (λ x stands.
    ⊎_elim (λ (is : x ≡ row). subst P (sym is) here) (λ (before : Contains rows x). others x before)
    (stood_placed row x rows stands))

-- tests that are joined by "or" can be turned
pub or_turned : (a b c : Bool) → (a || (b || c)) ≡ (b || (a || c))
or_turned a b c = grind arith

-- a test that the new one or another passes
pub any_placed : (test : Row → Bool) (row : Row) (rows : List Row) → list_any test (placed row rows) ≡ (test row || list_any test rows)
any_placed test row [] = refl
any_placed test row (first ∷ rest) = grind (arith, nat_le, placed, or_turned, row.tablet, first.tablet, (any_placed test row rest))

-- the numbers that are known then
pub known_placed : (row : Row) (rows : List Row) (number : ℕ) → is_some (row_of (placed row rows) number) ≡ (eqb row.tablet number || is_some (row_of rows number))
known_placed row rows number = grind (arith, found_any, eqb, placed, any_placed)

-- what was covered is
pub covered_still : (row : Row) (rows : List Row) (table hash : ℕ) → is_covered rows table hash ≡ true → is_covered (placed row rows) table hash ≡ true
covered_still row rows table hash is =
    any_placed (λ r. has r.range table hash) row rows ∙ or_right (has row.range table hash) (is_covered rows table hash) is

-- a hash of a range is in none that does not meet it
pub outside : (s f l t g m table hash : ℕ) → (eqb s t && leb f m && leb g l) ≡ false → (eqb s table && leb f hash && leb hash l) ≡ true → (eqb t table && leb g hash && leb hash m) ≡ false
outside s f l t g m table hash apart inside = grind (arith, nat_tests)

-- what is covered is not in a range that meets no row
pub uncovered : (rows : List Row) (range : Range) (table hash : ℕ) → meets_any rows range ≡ false → is_covered rows table hash ≡ true → has range table hash ≡ false
uncovered rows range table hash apart covered =
    let found = Any-from_list_any (λ (r : Row). has r.range table hash) rows covered in
    let x : Row = found.1 in
    let none : meets x.range range ≡ false = none_pass (λ (r : Row). meets r.range range) rows apart x (found.0, found.2, found.3) in
    outside x.range.table x.range.first x.range.last range.table range.first range.last table hash none found.4
