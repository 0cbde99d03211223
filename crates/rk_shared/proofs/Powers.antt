-- Eight numbers below eight whose powers of nine add up to those of 0 to 7 are just these: their sum's digits to the base nine, of which
-- none exceeds eight, say how often each of them occurs.
use Rattle.std.proofs.Common.{◌≡◌, ℕ, zero, suc, ◌+◌, ◌*◌, ◌^◌, ◌<◌, ◌≤◌, ◌==◌, Bool, cond, eq-eqb, ne_eqb, ⊎_elim, List, [], ◌∷◌, length, refl, sym, ◌∙◌, ap, arith}
use Rattle.std.specs.List.{All, sum_by}
use Rattle.std.proofs.Math.Nat.{pow-suc}
use Rattle.std.proofs.lemmas.Bool.{cases_eq}
use Rattle.std.proofs.lemmas.List.Elements.{All-head, All-tail}
use Rattle.std.proofs.lemmas.List.Sums.{sum_by-cons}
use Rattle.rk_shared.specs.Powers.{ALL_NUMBERS}

-- 1 if two numbers are equal
abbrev pub if_same : ℕ → ℕ → ℕ
if_same number other = cond (other == number) 1 0

-- how often a number occurs in a list
abbrev pub occurrences : List ℕ → ℕ → ℕ
occurrences list number = sum_by (if_same number) list

abbrev pub power : ℕ → ℕ
power number = 9 ^ number

pub same_is : (number other : ℕ) → other ≡ number → if_same number other ≡ 1
same_is number other is = ap (λ (b : Bool). cond {A = ℕ} b 1 0) (eq-eqb other number is)

pub same_not : (number other : ℕ) → (other ≡ number → ⊥) → if_same number other ≡ 0
same_not number other apart = ap (λ (b : Bool). cond {A = ℕ} b 1 0) (ne_eqb other number apart)

-- what so many digits to the base nine come to, the lowest first
abbrev value : (ℕ → ℕ) → ℕ → ℕ
value digit zero = 0
value digit (suc count) = digit 0 + 9 * value (λ place. digit (suc place)) count

value_none : (digit : ℕ → ℕ) (count : ℕ) → ((place : ℕ) → digit place ≡ 0) → value digit count ≡ 0
value_none digit zero none = refl
value_none digit (suc count) none =
    let first = none 0 in
    let rest = value_none (λ place. digit (suc place)) count (λ place. none (suc place)) in
    omega (arith, first, rest)

value_same : (a b : ℕ → ℕ) (count : ℕ) → ((place : ℕ) → a place ≡ b place) → value a count ≡ value b count
value_same a b zero each = refl
value_same a b (suc count) each =
    let first = each 0 in
    let rest = value_same (λ place. a (suc place)) (λ place. b (suc place)) count (λ place. each (suc place)) in
    omega (arith, first, rest)

value_sum : (a b c : ℕ → ℕ) (count : ℕ) → ((place : ℕ) → c place ≡ a place + b place) → value c count ≡ value a count + value b count
value_sum a b c zero each = refl
value_sum a b c (suc count) each =
    let first = each 0 in
    let rest = value_sum (λ place. a (suc place)) (λ place. b (suc place)) (λ place. c (suc place)) count (λ place. each (suc place)) in
    omega (arith, first, rest)

shift : (number place : ℕ) → if_same (suc place) (suc number) ≡ if_same place number
shift number place =
    ⊎_elim (λ (is : number ≡ place). same_is (suc place) (suc number) (ap suc is) ∙ sym (same_is place number is))
    (λ (apart : number ≡ place → ⊥). same_not (suc place) (suc number) (λ is. apart (cc is)) ∙ sym (same_not place number apart)) (cases_eq number place)

-- a power of nine has one digit
value_power : (number count : ℕ) → number < count → value (λ place. if_same place number) count ≡ power number
value_power number zero few = absurd (omega arith)
value_power zero (suc count) few =
    let first = same_is 0 0 refl in
    let rest = value_none (λ place. if_same (suc place) 0) count (λ place. same_not (suc place) 0 (λ is. omega (arith, is))) in
    omega (arith, first, rest)
value_power (suc number) (suc count) few =
    let first = same_not 0 (suc number) (λ is. omega (arith, is)) in
    let shifted = value_same (λ place. if_same (suc place) (suc number)) (λ place. if_same place number) count (shift number) in
    let rest = value_power number count (omega arith) in
    let next = pow-suc 9 number in
    omega (arith, first, shifted, rest, next)

value_most : (digit : ℕ → ℕ) (count : ℕ) → ((place : ℕ) → digit place ≤ 1) → value digit count ≤ value (λ place. 1) count
value_most digit zero few = omega arith
value_most digit (suc count) few =
    let first = few 0 in
    let rest = value_most (λ place. digit (suc place)) count (λ place. few (suc place)) in
    omega (arith, first, rest)

-- digits that come to those of ones are ones, if none exceeds eight
all_ones : (digit : ℕ → ℕ) (count : ℕ) → ((place : ℕ) → digit place ≤ 8) → value digit count ≡ value (λ place. 1) count
    → (place : ℕ) → place < count → digit place ≡ 1
all_ones digit zero few is place inside = absurd (omega arith)
all_ones digit (suc count) few is zero inside = let first = few 0 in omega (arith, first, is)
all_ones digit (suc count) few is (suc place) inside =
    let first = few 0 in
    all_ones (λ later. digit (suc later)) count (λ later. few (suc later)) (omega (arith, first, is)) place (omega arith)

-- the digits of numbers' powers show how often each occurs
value_all : (list : List ℕ) (count : ℕ) → All (λ number. number < count) list → value (occurrences list) count ≡ sum_by power list
value_all [] count few = value_none (occurrences []) count (λ place. refl)
value_all (first ∷ rest) count few =
    let split =
    value_sum (λ place. if_same place first) (occurrences rest) (occurrences (first ∷ rest)) count (λ place. sum_by-cons (if_same place) first rest) in
    let one = value_power first count (All-head (λ number. number < count) first rest few) in
    let others = value_all rest count (All-tail (λ number. number < count) first rest few) in
    let all = sum_by-cons power first rest in
    omega (arith, split, one, others, all)

at_most_one : (number other : ℕ) → if_same number other ≤ 1
at_most_one number other =
    ⊎_elim (λ (is : other ≡ number). let one = same_is number other is in omega (arith, one))
    (λ (apart : other ≡ number → ⊥). let none = same_not number other apart in omega (arith, none)) (cases_eq other number)

at_most_all : (list : List ℕ) (number : ℕ) → occurrences list number ≤ length list
at_most_all [] number = omega arith
at_most_all (first ∷ rest) number =
    let all = sum_by-cons (if_same number) first rest in
    let one = at_most_one number first in
    let others = at_most_all rest number in
    omega (arith, all, one, others)

-- each number below eight occurs once
pub all_once : (list : List ℕ) → All (λ number. number < 8) list → length list ≡ 8 → sum_by power list ≡ ALL_NUMBERS
    → (number : ℕ) → number < 8 → occurrences list number ≡ 1
all_once list few eight is =
    all_ones (occurrences list) 8 (λ number. let most = at_most_all list number in omega (arith, most, eight)) (value_all list 8 few ∙ is)

-- so they fit in 64 bits
pub power_fits : (number : ℕ) → number < 8 → power number ≤ ALL_NUMBERS
power_fits number few =
    let one = value_power number 8 few in
    let most = value_most (λ place. if_same place number) 8 (λ place. at_most_one place number) in
    omega (arith, one, most)
