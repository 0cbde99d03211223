-- The masters that have crashed: each once, so there is room for one more.
use Rattle.rk_lane.proofs.Words.{◌≡◌, ◌≤◌, ◌<◌, ◌+◌, ◌||◌, ℕ, Bool, true, false, eqb, List, [], ◌∷◌, ◌++◌, length, All, refl, subst, ⊎_elim}
use Rattle.rk_lane.proofs.Words.{arith, IsDistinct, list_any, eqb-true, ne_eqb, length-append, All-head, All-tail, IsMaster}
use Rattle.std.specs.List.{AllByRecursion}
use Rattle.std.proofs.lemmas.Bool.{cases_Bool}
use Rattle.std.proofs.lemmas.List.Elements.{All-push}
use Rattle.std.proofs.lemmas.Map.Steps.{length-le_from_distinct_below}

first_false : (a b : Bool) → (a || b) ≡ false → a ≡ false
first_false false b is = refl
first_false true b is = absurd (cc is)

second_false : (a b : Bool) → (a || b) ≡ false → b ≡ false
second_false false b is = is
second_false true b is = absurd (cc is)

-- a number that is not among those that are there
apart_push : (x : ℕ) (xs : List ℕ) (m : ℕ) → eqb x m ≡ false → AllByRecursion (λ y. eqb x y ≡ false) xs → AllByRecursion (λ y. eqb x y ≡ false) (xs ++ m ∷ [])
apart_push x [] m other all = (other, tt)
apart_push x (y ∷ xs) m other all = (all.0, apart_push x xs m other all.1)

-- numbers that differ, and one more that does
pub distinct_push : (xs : List ℕ) (m : ℕ) → IsDistinct eqb xs → list_any (λ x. eqb x m) xs ≡ false → IsDistinct eqb (xs ++ m ∷ [])
unfolding IsDistinct
distinct_push [] m distinct new = (tt, tt)
distinct_push (x ∷ xs) m distinct new = (
  apart_push x xs m (first_false (eqb x m) (list_any (λ y. eqb y m) xs) new) distinct.0,
  distinct_push xs m distinct.1 (second_false (eqb x m) (list_any (λ y. eqb y m) xs) new),
)

-- numbers from 1 on differ from 0
none_is_zero : (count : ℕ) (xs : List ℕ) → All (IsMaster count) xs → AllByRecursion (λ y. eqb 0 y ≡ false) xs
none_is_zero count [] all = tt
none_is_zero count (x ∷ xs) all =
    let here = All-head (IsMaster count) x xs all in
    let low = here.first in
    (ne_eqb 0 x (λ is. absurd (omega arith)), none_is_zero count xs (All-tail (IsMaster count) x xs all))

each_below : (count : ℕ) (xs : List ℕ) (q : ℕ) → All (IsMaster count) xs → list_any (eqb q) xs ≡ true → q < count + 1
each_below count [] q all among = absurd (cc among)
each_below count (x ∷ xs) q all among =
    ⊎_elim
    (λ (is : eqb q x ≡ true).
    let same = eqb-true q x is in
    let here = All-head (IsMaster count) x xs all in
    let high = here.last in
    omega arith)
    (λ (apart : eqb q x ≡ false).
    each_below count xs q (All-tail (IsMaster count) x xs all) (subst (λ b. (b || list_any (eqb q) xs) ≡ true) apart among))
    (cases_Bool (eqb q x))

each_low : (count : ℕ) (xs : List ℕ) (q : ℕ) → All (IsMaster count) xs → list_any (eqb q) (0 ∷ xs) ≡ true → q < count + 1
each_low count xs q all among =
    ⊎_elim
    (λ (is : eqb q 0 ≡ true).
    let same = eqb-true q 0 is in
    omega arith)
    (λ (apart : eqb q 0 ≡ false). each_below count xs q all (subst (λ b. (b || list_any (eqb q) xs) ≡ true) apart among))
    (cases_Bool (eqb q 0))

-- there are no more of them than masters
pub crashes_fit : (count : ℕ) (xs : List ℕ) → All (IsMaster count) xs → IsDistinct eqb xs → length xs ≤ count
unfolding IsDistinct
crashes_fit count xs all distinct =
    let within = length-le_from_distinct_below (0 ∷ xs) (count + 1) (none_is_zero count xs all, distinct) (λ q among. each_low count xs q all among) in
    omega arith

-- so they are fewer than masters if one more has not crashed
pub crash_fits : (count : ℕ) (xs : List ℕ) (m : ℕ) → All (IsMaster count) xs → IsDistinct eqb xs → IsMaster count m → list_any (λ x. eqb x m) xs ≡ false → length xs < count
crash_fits count xs m all distinct there new =
    omega (
      arith,
      crashes_fit count (xs ++ m ∷ []) (All-push (IsMaster count) xs m all there) (distinct_push xs m distinct new),
      length-append xs (m ∷ []),
    )
