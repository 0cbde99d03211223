-- Rows of a tablet map when one is turned into another of its number and range.
use Rattle.rk_inv_base.proofs.Words.{◌≡◌, ℕ, suc, Bool, true, false, ◌||◌, cond, eqb, List, [], ◌∷◌, Option, Some, None, is_some, refl, sym}
use Rattle.rk_inv_base.proofs.Words.{ap, subst, ◌∙◌, ⊎_elim, arith, ◌⊎◌, inl, inr, All, Contains, eq-eqb, eqb-true, find, cond_both}
use Rattle.rk_inv_base.proofs.Words.{false≢true, All-contains, has, Range, IsTabletMap, is_covered, replaced, row_of, Row, list_any}
use Rattle.rk_inv_base.proofs.rows.Apart.{contains_cases, same_number}
use Rattle.rk_inv_base.proofs.views.Lists.{all_by}

-- a row that is there is found by its number
pub stands_found : (rows : List Row) (row : Row) → IsTabletMap rows → Contains rows row → row_of rows row.tablet ≡ Some row
stands_found [] row apart (k, within, is) = absurd (omega (arith, within))
stands_found (first ∷ rest) row apart stands =
    cond_both (eqb first.tablet row.tablet) (Some first) (row_of rest row.tablet) (λ found. found ≡ Some row)
    (λ e. ap Some (same_number (first ∷ rest) first row apart (0, omega arith, refl) stands (eqb-true first.tablet row.tablet e)))
    (λ e.
    ⊎_elim
    (λ (is : first ≡ row).
    absurd (false≢true (sym e ∙ eq-eqb first.tablet row.tablet (ap (λ (r : Row). r.tablet) is))))
    (λ (behind : Contains rest row). stands_found rest row apart.1 behind)
    (contains_cases first rest row stands))

-- one behind the first
pub behind_first : {X : Type 0} (first : X) (rest : List X) (x : X) → Contains rest x → Contains (first ∷ rest) x
behind_first first rest x stands = (suc stands.0, omega (arith, stands.1), stands.2)

-- what is there after a row is replaced is the new row, or was there before
pub stood : (rows : List Row) (tablet : ℕ) (new x : Row) → Contains (replaced tablet new rows) x → (x ≡ new) ⊎ Contains rows x
stood [] tablet new x (k, within, is) = absurd (omega (arith, within))
stood (first ∷ rest) tablet new x stands = go (eqb first.tablet tablet) (stood rest tablet new x) stands
  where
    go : (b : Bool) → (Contains (replaced tablet new rest) x → (x ≡ new) ⊎ Contains rest x) → Contains (cond b (new ∷ rest) (first ∷ replaced tablet new rest)) x → (x ≡ new) ⊎ Contains (first ∷ rest) x
    go true later stands =
        ⊎_elim (λ (is : new ≡ x). inl (sym is)) (λ (behind : Contains rest x). inr (behind_first first rest x behind))
        (contains_cases new rest x stands)
    go false later stands =
        ⊎_elim (λ (is : first ≡ x). inr (0, omega arith, is))
        (λ (behind : Contains (replaced tablet new rest) x).
        ⊎_elim (λ (is : x ≡ new). inl is) (λ (before : Contains rest x). inr (behind_first first rest x before))
        (later behind))
        (contains_cases first (replaced tablet new rest) x stands)

-- what was there before is the old row, or is there after
pub stands_still : (rows : List Row) (tablet : ℕ) (old new x : Row) → row_of rows tablet ≡ Some old → Contains rows x → (x ≡ old) ⊎ Contains (replaced tablet new rows) x
stands_still [] tablet old new x found stands = absurd (cc)
stands_still (first ∷ rest) tablet old new x found stands =
    go (eqb first.tablet tablet) (stands_still rest tablet old new x) found
  where
    go : (b : Bool) → (row_of rest tablet ≡ Some old → Contains rest x → (x ≡ old) ⊎ Contains (replaced tablet new rest) x) → cond b (Some first) (row_of rest tablet) ≡ Some old → (x ≡ old) ⊎ Contains (cond b (new ∷ rest) (first ∷ replaced tablet new rest)) x
    go true later found =
        let same : first ≡ old = cc in
        ⊎_elim (λ (is : first ≡ x). inl (sym is ∙ same)) (λ (behind : Contains rest x). inr (behind_first new rest x behind))
        (contains_cases first rest x stands)
    go false later found =
        ⊎_elim (λ (is : first ≡ x). inr (0, omega arith, is))
        (λ (behind : Contains rest x).
        ⊎_elim (λ (is : x ≡ old). inl is)
        (λ (after : Contains (replaced tablet new rest) x). inr (behind_first first (replaced tablet new rest) x after))
        (later found behind))
        (contains_cases first rest x stands)

-- the new row is there
pub new_stands : (rows : List Row) (tablet : ℕ) (old new : Row) → row_of rows tablet ≡ Some old → Contains (replaced tablet new rows) new
new_stands [] tablet old new found = absurd (cc)
new_stands (first ∷ rest) tablet old new found = go (eqb first.tablet tablet) (new_stands rest tablet old new) found
  where
    go : (b : Bool) → (row_of rest tablet ≡ Some old → Contains (replaced tablet new rest) new) → cond b (Some first) (row_of rest tablet) ≡ Some old → Contains (cond b (new ∷ rest) (first ∷ replaced tablet new rest)) new
    go true later found = (0, omega arith, refl)
    go false later found = behind_first first (replaced tablet new rest) new (later found)

-- what holds of each row holds of each, if it goes on from the old to the new one
pub all_turned : (P : Row → Type 0) (rows : List Row) (old new : Row) (tablet : ℕ) → Contains rows old → (P old → P new) → All P rows → All P (replaced tablet new rows)
all_turned P rows old new tablet has goes all =
    all_by P (replaced tablet new rows)
    (λ x stands.
    ⊎_elim (λ (is : x ≡ new). subst P (sym is) (goes (All-contains P rows old all has)))
    (λ (before : Contains rows x). All-contains P rows x all before)
    (stood rows tablet new x stands))

-- whether any row passes a test stays, if the new one passes it just if the old one does
pub any_turned : (test : Row → Bool) (rows : List Row) (tablet : ℕ) (old new : Row) → row_of rows tablet ≡ Some old → test new ≡ test old → list_any test (replaced tablet new rows) ≡ list_any test rows
any_turned test [] tablet old new found same = refl
any_turned test (first ∷ rest) tablet old new found same =
    go (eqb first.tablet tablet) (λ later. any_turned test rest tablet old new later same) found
  where
    go : (b : Bool) → (row_of rest tablet ≡ Some old → list_any test (replaced tablet new rest) ≡ list_any test rest) → cond b (Some first) (row_of rest tablet) ≡ Some old → list_any test (cond b (new ∷ rest) (first ∷ replaced tablet new rest)) ≡ (test first || list_any test rest)
    go true later found =
        let is : first ≡ old = cc in ap (λ (b : Bool). b || list_any test rest) (same ∙ sym (ap test is))
    go false later found = ap (λ (b : Bool). test first || b) (later found)

-- so the same hashes are covered
pub covered_turned : (rows : List Row) (tablet : ℕ) (old new : Row) → row_of rows tablet ≡ Some old → new.range ≡ old.range → (table hash : ℕ) → is_covered (replaced tablet new rows) table hash ≡ is_covered rows table hash
covered_turned rows tablet old new found same table hash =
    any_turned (λ r. has r.range table hash) rows tablet old new found (ap (λ (range : Range). has range table hash) same)

-- whether a row is found is whether one passes the test
pub found_any : (test : Row → Bool) (rows : List Row) → is_some (find test rows) ≡ list_any test rows
found_any test [] = refl
found_any test (first ∷ rest) = grind (arith, (found_any test rest))

-- so the same numbers are known
pub known_turned : (rows : List Row) (tablet : ℕ) (old new : Row) → row_of rows tablet ≡ Some old → new.tablet ≡ old.tablet → (number : ℕ) → is_some (row_of (replaced tablet new rows) number) ≡ is_some (row_of rows number)
known_turned rows tablet old new found same number = grind (arith, found_any, eqb, replaced, any_turned)

-- what is unknown as well is unknown
pub none_known : (a b : Option Row) → is_some b ≡ is_some a → b ≡ None → a ≡ None
none_known None b same none = refl
none_known (Some row) b same none = let e : false ≡ true = ap is_some (sym none) ∙ same in absurd (cc)
