-- Rows of a tablet map: a number names one of them, and a key lies in one of them.
use Rattle.rk_inv_base.proofs.Words.{◌≡◌, ℕ, true, false, List, [], ◌∷◌, sym, ap, subst, ◌∙◌, ⊎_elim, arith, ◌⊎◌, inl, inr, Contains}
use Rattle.rk_inv_base.proofs.Words.{nat_tests, All-from_recursion, All-contains, meets, Range, Precedes, IsTabletMap, Row, has_key}
use Rattle.rk_inv_base.proofs.Words.{stands_cases, false≢true, false_from_ne_true, has_all, eqb, leb}

-- one of a list with a first one is the first, or one of the others
pub contains_cases : {X : Type 0} (first : X) (others : List X) (x : X) → Contains (first ∷ others) x → (first ≡ x) ⊎ Contains others x
contains_cases first others x at = stands_cases first others x at

-- a range has all of itself
pub has_itself : (range : Range) → has_all range range ≡ true
has_itself range = grind (arith, eqb, leb, nat_tests, range.table, range.first, range.last)

-- two rows are one, or one of them precedes the other
pub one_precedes : (rows : List Row) (a b : Row) → IsTabletMap rows → Contains rows a → Contains rows b → (a ≡ b) ⊎ Precedes a b ⊎ Precedes b a
one_precedes [] a b apart (k, within, is) second = absurd (omega (arith, within))
one_precedes (row ∷ rows) a b apart first second =
    ⊎_elim
    (λ (ea : row ≡ a).
    ⊎_elim
    (λ (eb : row ≡ b). inl (sym ea ∙ eb))
    (λ (cb : Contains rows b).
    inr (inl (subst (λ (r : Row). Precedes r b) ea (All-contains (Precedes row) rows b (All-from_recursion (Precedes row) rows apart.0) cb))))
    (contains_cases row rows b second))
    (λ (ca : Contains rows a).
    ⊎_elim
    (λ (eb : row ≡ b).
    inr (inr (subst (λ (r : Row). Precedes r a) eb (All-contains (Precedes row) rows a (All-from_recursion (Precedes row) rows apart.0) ca))))
    (λ (cb : Contains rows b). one_precedes rows a b apart.1 ca cb)
    (contains_cases row rows b second))
    (contains_cases row rows a first)

-- rows of one number are one
pub same_number : (rows : List Row) (a b : Row) → IsTabletMap rows → Contains rows a → Contains rows b → a.tablet ≡ b.tablet → a ≡ b
same_number rows a b apart first second same =
    ⊎_elim
    (λ (is : a ≡ b). is)
    (λ (other : Precedes a b ⊎ Precedes b a).
    absurd (⊎_elim (λ (p : Precedes a b). omega (arith, p.smaller, same)) (λ (p : Precedes b a). omega (arith, p.smaller, same)) other))
    (one_precedes rows a b apart first second)

-- and so are rows that meet
pub one_met : (rows : List Row) (a b : Row) → IsTabletMap rows → Contains rows a → Contains rows b → meets a.range b.range ≡ true → a ≡ b
one_met rows a b apart first second met = grind (arith, meets, nat_tests, false≢true, one_precedes)

-- ranges that do not meet do not meet the other way round
pub apart_either : (a b : Range) → meets a b ≡ false → meets b a ≡ false
apart_either a b apart = grind (arith, nat_tests)

-- a key of a range is in none that does not meet it
pub key_outside : (a b : Range) (table : ℕ) (key : List ℕ) → meets a b ≡ false → has_key b table key ≡ true → has_key a table key ≡ false
key_outside a b table key apart inside = grind (arith, nat_tests)

-- so two ranges that do not meet have no key in common
pub no_meeting : (a b : Range) (table : ℕ) (key : List ℕ) → meets a b ≡ false → has_key a table key ≡ true → has_key b table key ≡ true → ⊥
no_meeting a b table key apart first second =
    let e : true ≡ false = sym first ∙ key_outside a b table key apart second in absurd (cc)

-- a key lies in one row alone
pub in_one_row : (rows : List Row) (a b : Row) (table : ℕ) (key : List ℕ) → IsTabletMap rows → Contains rows a → Contains rows b → (b.tablet ≡ a.tablet → ⊥) → has_key a.range table key ≡ true → has_key b.range table key ≡ false
in_one_row rows a b table key apart first second other inside =
    false_from_ne_true (has_key b.range table key)
    (λ both.
    let met : meets b.range a.range ≡ true = grind (arith, nat_tests, inside, both) in
    other (ap (λ (r : Row). r.tablet) (one_met rows b a apart second first met)))
