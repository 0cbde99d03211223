-- The longest front of a list that passes a test, and lists that pass one.
use Rattle.std.proofs.Common.{◌≡◌, ℕ, zero, suc, ◌+◌, ◌<◌, ◌≤◌, Bool, true, false, cond, leb, List, [], ◌∷◌, ◌++◌, length, get_or, set, take, drop, refl, sym, ap, ◌∙◌, arith, length-take-le, get_or-take}
use Rattle.std.proofs.lemmas.Bool.{and_parts, and_from, le-leb, leb-true, lt-leb}
use Rattle.std.proofs.lemmas.List.Folds.{list_all-map}
use Rattle.std.proofs.lemmas.List.FromFn.{fill_by_all}
use Rattle.std.specs.List.{prefix_len, list_all, range_with_len}

-- a front that passes is counted, and then what follows it
pub pass_then : {X : Type 0} (q : X → Bool) (xs : List X) (n : ℕ) → n ≤ length xs → ((k : ℕ) (d : X) → k < n → q (get_or xs k d) ≡ true) → prefix_len q xs ≡ n + prefix_len q (drop n xs)
pass_then q xs zero le h = omega arith
pass_then q [] (suc n) le h = absurd (omega arith)
pass_then q (x ∷ xs) (suc n) le h =
    let e : q x ≡ true = h zero x (omega arith) in
    let r : prefix_len q xs ≡ n + prefix_len q (drop n xs) = pass_then q xs n (omega arith) (λ k d l. h (suc k) d (omega arith)) in
    rw e (omega (arith, r))

-- tests that agree on a list count the same front
pub prefix_len_same : {X : Type 0} (p q : X → Bool) (xs : List X) → ((k : ℕ) (d : X) → k < length xs → p (get_or xs k d) ≡ q (get_or xs k d)) → prefix_len p xs ≡ prefix_len q xs
prefix_len_same p q [] h = refl
prefix_len_same p q (x ∷ xs) h =
    let e : p x ≡ q x = h zero x (omega arith) in
    let r : prefix_len p xs ≡ prefix_len q xs = prefix_len_same p q xs (λ k d l. h (suc k) d (omega arith)) in
    λ i. cond (e i) (1 + r i) 0

-- a test that passes wherever another does counts at least the same front
pub prefix_len_weaker : {X : Type 0} (p q : X → Bool) (xs : List X) → ((x : X) → p x ≡ true → q x ≡ true) → prefix_len p xs ≤ prefix_len q xs
prefix_len_weaker p q [] h = omega arith
prefix_len_weaker p q (x ∷ xs) h = grind (arith, (prefix_len_weaker p q xs h))

-- an element more that fails changes nothing
pub prefix_len_push_no : {X : Type 0} (p : X → Bool) (xs : List X) (y : X) → p y ≡ false → prefix_len p (xs ++ y ∷ []) ≡ prefix_len p xs
prefix_len_push_no p [] y e = rw e
prefix_len_push_no p (x ∷ xs) y e = ap (λ (n : ℕ). cond (p x) (1 + n) 0) (prefix_len_push_no p xs y e)

-- and any element more lowers nothing
pub prefix_len_push_le : {X : Type 0} (p : X → Bool) (xs : List X) (y : X) → prefix_len p xs ≤ prefix_len p (xs ++ y ∷ [])
prefix_len_push_le p [] y = omega arith
prefix_len_push_le p (x ∷ xs) y = grind (arith, (prefix_len_push_le p xs y))

-- the elements at the first places are those of the front
pub list_all_front : (p : ℕ → Bool) (xs : List ℕ) (n : ℕ) → n ≤ length xs → list_all (λ k. p (get_or xs k 0)) (range_with_len 0 n) ≡ list_all p (take n xs)
list_all_front p xs n le =
    sym (list_all-map p (λ k. get_or xs k 0) (range_with_len 0 n))
    ∙ ap (list_all p) (sym (fill_by_all (λ k. get_or xs k 0) (take n xs) n 0 (length-take-le n xs le) (λ k l. get_or-take n xs k 0 l)))

-- greater numbers pass a bound that smaller ones pass
pub list_all_greater : (bound n : ℕ) (xs ys : List ℕ) → length xs ≡ length ys → ((k : ℕ) → get_or xs k 0 ≤ get_or ys k 0) → list_all (leb bound) (take n xs) ≡ true → list_all (leb bound) (take n ys) ≡ true
list_all_greater bound zero xs ys same le h = refl
list_all_greater bound (suc n) xs [] same le h = refl
list_all_greater bound (suc n) [] (y ∷ ys) same le h = absurd (omega arith)
list_all_greater bound (suc n) (x ∷ xs) (y ∷ ys) same le h =
    let parts = and_parts (leb bound x) (list_all (leb bound) (take n xs)) h in
    let first : x ≤ y = le zero in
    let reached : bound ≤ x = leb-true bound x parts.0 in
    and_from (leb bound y) (list_all (leb bound) (take n ys)) (le-leb bound y (omega arith))
    (list_all_greater bound n xs ys (omega arith) (λ k. le (suc k)) parts.1)

-- if the first number is too small, not all pass a bound
pub list_all_small : (bound n : ℕ) (xs : List ℕ) → 1 ≤ n → 1 ≤ length xs → get_or xs 0 0 < bound → list_all (leb bound) (take n xs) ≡ false
list_all_small bound holds xs n some small = grind (arith, leb, lt-leb)

-- each element of a list that passes does
pub list_all_each : {X : Type 0} (p : X → Bool) (xs : List X) (k : ℕ) (d : X) → list_all p xs ≡ true → k < length xs → p (get_or xs k d) ≡ true
list_all_each p [] k d h l = absurd (omega arith)
list_all_each p (x ∷ xs) zero d h l = (and_parts (p x) (list_all p xs) h).0
list_all_each p (x ∷ xs) (suc k) d h l = list_all_each p xs k d (and_parts (p x) (list_all p xs) h).1 (omega arith)

-- and a list of which each element passes does
pub list_all_from : {X : Type 0} (p : X → Bool) (xs : List X) → ((k : ℕ) (d : X) → k < length xs → p (get_or xs k d) ≡ true) → list_all p xs ≡ true
list_all_from p [] h = refl
list_all_from p (x ∷ xs) h = and_from (p x) (list_all p xs) (h zero x (omega arith)) (list_all_from p xs (λ k d l. h (suc k) d (omega arith)))

-- an element that passes in the place of another
pub list_all-set : {X : Type 0} (p : X → Bool) (xs : List X) (i : ℕ) (y : X) → list_all p xs ≡ true → p y ≡ true → list_all p (set xs i y) ≡ true
list_all-set p [] i y h e = refl
list_all-set p (x ∷ xs) zero y h e = and_from (p y) (list_all p xs) e (and_parts (p x) (list_all p xs) h).1
list_all-set p (x ∷ xs) (suc i) y h e =
    let parts = and_parts (p x) (list_all p xs) h in
    and_from (p x) (list_all p (set xs i y)) parts.0 (list_all-set p xs i y parts.1 e)
