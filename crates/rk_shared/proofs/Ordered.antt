-- Eight things whose numbers' powers of nine add up to those of 0 to 7 have just these numbers, by rising number once they are sorted.
use Rattle.std.proofs.Common.{◌≡◌, ℕ, suc, ◌+◌, ◌<◌, ◌≤◌, List, [], ◌∷◌, ◌++◌, length, take, drop, map, refl, sym, ap, ◌∙◌, subst, ⊎_elim, arith}
use Rattle.std.specs.List.{All, range_with_len, sum_by}
use Rattle.std.specs.List.Sorted.{IsNonDecreasing, IsNonDecreasingBy, IsPermutation}
use Rattle.std.proofs.Math.ListN.{length-map}
use Rattle.std.proofs.Math.Seq.{take-append_seam}
use Rattle.std.proofs.lemmas.Bool.{cases_eq}
use Rattle.std.proofs.lemmas.List.{get_or-map}
use Rattle.std.proofs.lemmas.List.Elements.{All-cons, All-from_get_or, All-from_recursion, All-head, All-map, All-nil, All-tail, All-weaker}
use Rattle.std.proofs.lemmas.List.Sorted.{IsPermutation-map, sum_by-IsPermutation}
use Rattle.std.proofs.lemmas.List.Sums.{sum_by-cons}
use Rattle.rk_shared.specs.Powers.{ALL_NUMBERS}
use Rattle.rk_shared.proofs.Powers.{all_once, if_same, occurrences, power, same_is, same_not}

-- ---- numbers that do not fall

later_ones : (first : ℕ) (rest : List ℕ) → IsNonDecreasing (first ∷ rest) → All (λ number. first ≤ number) rest
later_ones first rest rises =
    All-from_get_or (λ number. first ≤ number) rest 0 (λ place inside. rises 0 (suc place) 0 (omega arith) (omega (arith, inside)))

rest_rises : (first : ℕ) (rest : List ℕ) → IsNonDecreasing (first ∷ rest) → IsNonDecreasing rest
rest_rises first rest rises i j default before inside = rises (suc i) (suc j) default (omega arith) (omega arith)

-- a number below all others is not among them
not_there : (number : ℕ) (list : List ℕ) → All (λ other. number < other) list → occurrences list number ≡ 0
not_there number [] above = refl
not_there number (first ∷ rest) above =
    let less : number < first = All-head (λ other. number < other) first rest above in
    let counted = sum_by-cons (if_same number) first rest in
    let none = same_not number first (λ is. omega (arith, less, is)) in
    let others = not_there number rest (All-tail (λ other. number < other) first rest above) in
    omega (arith, counted, none, others)

-- if a number is not among others that are not less, they are greater
are_greater : (number : ℕ) (list : List ℕ) → occurrences list number ≡ 0 → All (λ other. number ≤ other) list → All (λ other. number + 1 ≤ other) list
are_greater number [] none least = All-nil _
are_greater number (first ∷ rest) none least =
    let counted = sum_by-cons (if_same number) first rest in
    let less : number ≤ first = All-head (λ other. number ≤ other) first rest least in
    let others = are_greater number rest (omega (arith, counted, none)) (All-tail (λ other. number ≤ other) first rest least) in
    let greater : number + 1 ≤ first =
    ⊎_elim (λ (is : first ≡ number). let one = same_is number first is in absurd (omega (arith, counted, none, one)))
    (λ (apart : first ≡ number → ⊥). omega (arith, less, apart)) (cases_eq first number) in
    All-cons (λ other. number + 1 ≤ other) first rest greater others

-- the first of them is the least, if that is there
is_least : (least first : ℕ) (rest : List ℕ) → IsNonDecreasing (first ∷ rest) → least ≤ first → occurrences (first ∷ rest) least ≡ 1 → first ≡ least
is_least least first rest rises not_less once =
    ⊎_elim (λ (is : first ≡ least). is)
    (λ (apart : first ≡ least → ⊥).
    let more : least < first = omega (arith, not_less, apart) in
    let above = All-weaker (λ number. first ≤ number) (λ number. least < number) (λ number after. omega (arith, after, more)) rest (later_ones first rest rises) in
    let counted = sum_by-cons (if_same least) first rest in
    let none = same_not least first apart in
    let others = not_there least rest above in
    absurd (omega (arith, once, counted, none, others))) (cases_eq first least)

-- numbers from the least on, each of them once, are just these
in_order : (least : ℕ) (list : List ℕ) → IsNonDecreasing list → All (λ number. least ≤ number) list
    → ((number : ℕ) → least ≤ number → number < least + length list → occurrences list number ≡ 1) → list ≡ range_with_len least (length list)
in_order least [] rises from once = refl
in_order least (first ∷ rest) rises from once =
    let not_less : least ≤ first = All-head (λ number. least ≤ number) first rest from in
    let it_once = once least (omega arith) (omega arith) in
    let is = is_least least first rest rises not_less it_once in
    let counted = sum_by-cons (if_same least) first rest in
    let one = same_is least first is in
    let above = are_greater least rest (omega (arith, it_once, counted, one)) (All-tail (λ number. least ≤ number) first rest from) in
    let others =
    in_order (least + 1) rest (rest_rises first rest rises) above
    (λ number after inside.
    let all = once number (omega (arith, after)) (omega (arith, inside)) in
    let split = sum_by-cons (if_same number) first rest in
    let none = same_not number first (λ same. omega (arith, same, is, after)) in
    omega (arith, all, split, none)) in
    λ i. is i ∷ others i

-- ---- things by their numbers

sum_mapped : {X : Type 0} (weight : ℕ → ℕ) (number : X → ℕ) (things : List X) → sum_by weight (map number things) ≡ sum_by (λ thing. weight (number thing)) things
sum_mapped weight number [] = refl
sum_mapped weight number (first ∷ rest) =
    let a = sum_by-cons weight (number first) (map number rest) in
    let b = sum_by-cons (λ thing. weight (number thing)) first rest in
    let c = sum_mapped weight number rest in
    omega (arith, a, b, c)

rises_mapped : {X : Type 0} (number : X → ℕ) (things : List X) → IsNonDecreasingBy number things → IsNonDecreasing (map number things)
rises_mapped number [] rises i j default before inside = absurd (omega arith)
rises_mapped number (first ∷ rest) rises i j default before inside =
    let long = length-map (first ∷ rest) number in
    let within : j < length (first ∷ rest) = omega (arith, inside, long) in
    let start : i < length (first ∷ rest) = omega (arith, before, within) in
    let a = get_or-map number (first ∷ rest) i first default start in
    let b = get_or-map number (first ∷ rest) j first default within in
    let c = rises i j first before within in
    omega (arith, a, b, c)

pub are_in_order : {X : Type 0} (number : X → ℕ) (things sorted : List X) → IsPermutation things sorted → IsNonDecreasingBy number sorted
    → All (λ thing. number thing < 8) things → length things ≡ 8 → length sorted ≡ 8 → sum_by (λ thing. power (number thing)) things ≡ ALL_NUMBERS
    → map number sorted ≡ range_with_len 0 8
are_in_order number things sorted moved rises few eight count powers =
    let numbers = map number things in
    let once = all_once numbers (All-map (λ n. n < 8) number things few) (length-map things number ∙ eight) (sum_mapped power number things ∙ powers) in
    let same : IsPermutation numbers (map number sorted) = IsPermutation-map number things sorted moved in
    let long : length (map number sorted) ≡ 8 = length-map sorted number ∙ count in
    in_order 0 (map number sorted) (rises_mapped number sorted rises)
    (All-from_get_or (λ n. 0 ≤ n) (map number sorted) 0 (λ place inside. omega arith))
    (λ n from inside. sum_by-IsPermutation (if_same n) numbers (map number sorted) same ∙ once n (omega (arith, inside, long))) ∙ ap (range_with_len 0) long

few_mapped : {X : Type 0} (number : X → ℕ) (things : List X) → All (λ n. n < 8) (map number things) → All (λ thing. number thing < 8) things
few_mapped number [] few = All-nil _
few_mapped number (first ∷ rest) few =
    All-cons (λ thing. number thing < 8) first rest (All-head (λ n. n < 8) (number first) (map number rest) few)
    (few_mapped number rest (All-tail (λ n. n < 8) (number first) (map number rest) few))

-- things that are numbered from 0 to 7
pub record AreEight {X : Type 0} (number : X → ℕ) (things : List X) : Type 0 where
  pub few : All (λ thing. number thing < 8) things
  pub powers : sum_by (λ thing. power (number thing)) things ≡ ALL_NUMBERS

pub are_eight : {X : Type 0} (number : X → ℕ) (things : List X) → map number things ≡ range_with_len 0 8 → AreEight number things
are_eight number things is = record {
  few =
      few_mapped number things
      (subst (All (λ n. n < 8)) (sym is)
      (All-from_recursion (λ n. n < 8) (range_with_len 0 8)
      (omega arith, (omega arith, (omega arith, (omega arith, (omega arith, (omega arith, (omega arith, (omega arith, tt))))))))));
  powers = sym (sum_mapped power number things) ∙ ap (sum_by power) is;
}

-- a list that was written over from its start to its end
pub written_over : {X : Type 0} (old new : List X) (count : ℕ) → count ≡ length new → take count (new ++ drop (length new) old) ≡ new
written_over old new count is = ap (λ (n : ℕ). take n (new ++ drop (length new) old)) is ∙ take-append_seam new (drop (length new) old)
