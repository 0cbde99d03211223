-- What is in lists that are made from others: in what each element gives, in numbers with each taken once, in a first part, and in
-- entries without those that bear a mark.
use Rattle.rk_inv_base.proofs.Words.{◌≡◌, ℕ, zero, suc, ◌+◌, ◌<◌, ◌≤◌, ◌&&◌, ◌⊎◌, Bool, true, false, eqb, cond, List, [], ◌∷◌, ◌++◌, Some}
use Rattle.rk_inv_base.proofs.Words.{refl, sym, ap, ◌∙◌, ⊎_elim, arith, inl, inr, map, take, fold, slice_get, Contains, flat_map, eqb-true}
use Rattle.rk_inv_base.proofs.Words.{All, All-cons, All-head, All-tail, nat_le, nat_lt, leb-true, ltb-true, and_parts, cond_both}
use Rattle.rk_inv_base.proofs.Words.{Contains-append_cases, Contains-append_left, Contains-append_right, Contains-push, Contains-push_cases}
use Rattle.rk_inv_base.proofs.Words.{Any-from_list_any, is_among, behind_stands, first_stands, none_stands, stands_cases, with_number}
use Rattle.rk_inv_base.proofs.Words.{Entry, Mark, is_marked, unmarked}

-- ---- places

-- what is in a list is at a place of it
pub place_in : {X : Type 0} (xs : List X) (x : X) → Contains xs x → (k : ℕ) × (slice_get xs k ≡ Some x)
place_in [] x stands = absurd (none_stands x stands)
place_in (y ∷ xs) x stands =
    ⊎_elim (λ (is : y ≡ x). (0, ap Some is)) (λ (behind : Contains xs x). let found = place_in xs x behind in (suc found.0, found.1))
    (stands_cases y xs x stands)

-- what a list has at one of its first places, its first part has there
pub taken_at : {X : Type 0} (n : ℕ) (list : List X) (k : ℕ) (x : X) → k < n → slice_get list k ≡ Some x → slice_get (take n list) k ≡ Some x
taken_at zero list k x within at = absurd (omega (arith, within))
taken_at (suc n) (y ∷ list) (suc k) x within at = taken_at n list k x (omega (arith, within)) at
taken_at (suc n) _ _ x within at = at

-- what a first part has at a place, the list has there
pub taken_from : {X : Type 0} (n : ℕ) (xs : List X) (k : ℕ) (x : X) → slice_get (take n xs) k ≡ Some x → slice_get xs k ≡ Some x
taken_from zero xs k x at = absurd (cc at)
taken_from (suc n) (y ∷ xs) (suc k) x at = taken_from n xs k x at
taken_from (suc n) _ _ x at = at

pub taken_within : {X : Type 0} (n : ℕ) (xs : List X) (k : ℕ) (x : X) → slice_get (take n xs) k ≡ Some x → k < n
taken_within (suc n) (y ∷ xs) zero x at = omega arith
taken_within (suc n) (y ∷ xs) (suc k) x at = let less = taken_within n xs k x at in omega (arith, less)
taken_within _ _ k x at = absurd (cc at)

-- ---- what each element gives

pub from_flat : {X Y : Type 0} (f : X → List Y) (xs : List X) (y : Y) → Contains (flat_map f xs) y → (x : X) × Contains xs x × Contains (f x) y
from_flat f [] y stands = absurd (none_stands y stands)
from_flat f (x ∷ xs) y stands =
    ⊎_elim (λ (here : Contains (f x) y). (x, first_stands x xs, here))
    (λ (later : Contains (flat_map f xs) y).
    let found = from_flat f xs y later in (found.0, behind_stands x xs found.0 found.1, found.2))
    (Contains-append_cases (f x) (flat_map f xs) y stands)

pub to_flat : {X Y : Type 0} (f : X → List Y) (xs : List X) (x : X) (y : Y) → Contains xs x → Contains (f x) y → Contains (flat_map f xs) y
to_flat f [] x y stands gives = absurd (none_stands x stands)
to_flat f (z ∷ xs) x y stands gives =
    ⊎_elim (λ (is : z ≡ x). Contains-append_left (f z) (flat_map f xs) y (rw is gives))
    (λ (behind : Contains xs x). Contains-append_right (f z) (flat_map f xs) y (to_flat f xs x y behind gives))
    (stands_cases z xs x stands)

-- what a function makes of an element is among what it makes of the list
pub mapped : {X Y : Type 0} (f : X → Y) (xs : List X) (x : X) → Contains xs x → Contains (map f xs) (f x)
mapped f [] x stands = absurd (none_stands x stands)
mapped {X} {Y} f (y ∷ xs) x stands =
    ⊎_elim (λ (is : y ≡ x). rw (← ap f is) (first_stands (f y) (map f xs)))
    (λ (behind : Contains xs x). behind_stands (f y) (map f xs) (f x) (mapped f xs x behind))
    (stands_cases y xs x stands)

-- and each of these is made of an element
pub mapped_from : {X Y : Type 0} (f : X → Y) (xs : List X) (y : Y) → Contains (map f xs) y → (x : X) × Contains xs x × (f x ≡ y)
mapped_from f [] y stands = absurd (none_stands y stands)
mapped_from f (x ∷ xs) y stands =
    ⊎_elim (λ (is : f x ≡ y). (x, first_stands x xs, is))
    (λ (later : Contains (map f xs) y).
    let found = mapped_from f xs y later in (found.0, behind_stands x xs found.0 found.1, found.2))
    (stands_cases (f x) (map f xs) y stands)

-- ---- numbers, each once

number_stays : (some others : List ℕ) (n : ℕ) → Contains some n → Contains (fold with_number some others) n
number_stays some [] n stands = stands
number_stays some (number ∷ others) n stands =
    number_stays (with_number some number) others n
    (cond_both (is_among number some) some (some ++ number ∷ []) (λ next. Contains next n) (λ e. stands)
    (λ e. Contains-append_left some (number ∷ []) n stands))

pub number_to : (some others : List ℕ) (n : ℕ) → Contains others n → Contains (fold with_number some others) n
number_to some [] n stands = absurd (none_stands n stands)
number_to some (number ∷ others) n stands =
    ⊎_elim
    (λ (is : number ≡ n).
    rw (← is) (number_stays (with_number some number) others number
    (cond_both (is_among number some) some (some ++ number ∷ []) (λ next. Contains next number)
    (λ among.
    let found = Any-from_list_any (λ (n : ℕ). eqb n number) some among in
    let there : Contains some found.1 = (found.0, found.2, found.3) in
    rw (← eqb-true found.1 number found.4) there)
    (λ new. Contains-push some number))))
    (λ (behind : Contains others n). number_to (with_number some number) others n behind)
    (stands_cases number others n stands)

pub number_from : (some others : List ℕ) (n : ℕ) → Contains (fold with_number some others) n → Contains some n ⊎ Contains others n
number_from some [] n stands = inl stands
number_from some (number ∷ others) n stands =
    ⊎_elim
    (λ (one : Contains (with_number some number) n).
    cond_both (is_among number some) some (some ++ number ∷ []) (λ next. Contains next n → Contains some n ⊎ Contains (number ∷ others) n)
    (λ e there. inl there)
    (λ e there.
    ⊎_elim (λ (before : Contains some n). inl before)
    (λ (is : number ≡ n). inr (rw (← is) (first_stands number others)))
    (Contains-push_cases some number n there)) one)
    (λ (later : Contains others n). inr (behind_stands number others n later))
    (number_from (with_number some number) others n stands)

-- ---- marks

-- a mark covers a place
pub record IsCovered (marks : List Mark) (place : ℕ) : Type 0 where
  pub mark : Mark
  pub stands : Contains marks mark
  pub first : mark.first ≤ place
  pub past : place < mark.past

pub covered_by : (marks : List Mark) (place : ℕ) → is_marked marks place ≡ true → IsCovered marks place
covered_by marks place marked =
    let found = Any-from_list_any (λ (mark : Mark). nat_le mark.first place && nat_lt place mark.past) marks marked in
    let parts = and_parts (nat_le found.1.first place) (nat_lt place found.1.past) found.4 in
    record {
      mark = found.1;
      stands = (found.0, found.2, found.3);
      first = leb-true found.1.first place parts.0;
      past = ltb-true place found.1.past parts.1;
    }

-- what holds of entries holds of those without a mark
pub unmarked_all : (P : Entry → Type 0) (marks : List Mark) (place : ℕ) (list : List Entry) → All P list → All P (unmarked marks place list)
unmarked_all P marks place [] all = all
unmarked_all P marks place (entry ∷ list) all =
    let later = unmarked_all P marks (suc place) list (All-tail P entry list all) in
    cond_both (is_marked marks place) (unmarked marks (suc place) list) (entry ∷ unmarked marks (suc place) list) (All P) (λ e. later)
    (λ e. All-cons P entry (unmarked marks (suc place) list) (All-head P entry list all) later)

-- what is left without a mark was in the list
pub unmarked_stood : (marks : List Mark) (place : ℕ) (list : List Entry) (entry : Entry) → Contains (unmarked marks place list) entry → Contains list entry
unmarked_stood marks place [] entry stands = stands
unmarked_stood marks place (first ∷ list) entry stands = go (is_marked marks place) (unmarked_stood marks (suc place) list entry) stands
  where
    go : (b : Bool) → (Contains (unmarked marks (suc place) list) entry → Contains list entry) → Contains (cond b (unmarked marks (suc place) list) (first ∷ unmarked marks (suc place) list)) entry → Contains (first ∷ list) entry
    go true behind stands = behind_stands first list entry (behind stands)
    go false behind stands =
        ⊎_elim (λ (is : first ≡ entry). rw (← is) (first_stands first list))
        (λ (later : Contains (unmarked marks (suc place) list) entry).
        behind_stands first list entry (behind later))
        (stands_cases first (unmarked marks (suc place) list) entry stands)

-- and what bears none is left
pub unmarked_stands : (marks : List Mark) (place k : ℕ) (list : List Entry) (entry : Entry) → slice_get list k ≡ Some entry → is_marked marks (place + k) ≡ false → Contains (unmarked marks place list) entry
unmarked_stands marks place k [] entry at free = absurd (cc at)
unmarked_stands marks place zero (first ∷ list) entry at free = grind (arith, is_marked, first_stands, unmarked)
unmarked_stands marks place (suc k) (first ∷ list) entry at free =
    let there : place + suc k ≡ suc place + k = omega arith in
    let later = unmarked_stands marks (suc place) k list entry at (ap (is_marked marks) (sym there) ∙ free) in
    go (is_marked marks place) later
  where
    go : (b : Bool) → Contains (unmarked marks (suc place) list) entry → Contains (cond b (unmarked marks (suc place) list) (first ∷ unmarked marks (suc place) list)) entry
    go true later = later
    go false later = behind_stands first (unmarked marks (suc place) list) entry later

-- so what is left is at a place that bears none
pub record StandsFree (marks : List Mark) (place : ℕ) (list : List Entry) (entry : Entry) : Type 0 where
  pub k : ℕ
  pub at : slice_get list k ≡ Some entry
  pub free : is_marked marks (place + k) ≡ false

pub unmarked_place : (marks : List Mark) (place : ℕ) (list : List Entry) (entry : Entry) → Contains (unmarked marks place list) entry → StandsFree marks place list entry
unmarked_place marks place [] entry stands = absurd (omega (arith, stands.1))
unmarked_place marks place (first ∷ list) entry stands = go (is_marked marks place) refl (unmarked_place marks (suc place) list entry) stands
  where
    further : StandsFree marks (suc place) list entry → StandsFree marks place (first ∷ list) entry
    further later =
        let there : suc place + later.k ≡ place + suc later.k = omega arith in
        record { k = suc later.k; at = later.at; free = ap (is_marked marks) (sym there) ∙ later.free }

    go : (b : Bool) → is_marked marks place ≡ b → (Contains (unmarked marks (suc place) list) entry → StandsFree marks (suc place) list entry) → Contains (cond b (unmarked marks (suc place) list) (first ∷ unmarked marks (suc place) list)) entry → StandsFree marks place (first ∷ list) entry
    go true is later stands = further (later stands)
    go false is later stands =
        ⊎_elim
        (λ (same : first ≡ entry).
        let here : place + 0 ≡ place = omega arith in
        record { k = 0; at = ap Some same; free = ap (is_marked marks) here ∙ is })
        (λ (behind : Contains (unmarked marks (suc place) list) entry). further (later behind))
        (stands_cases first (unmarked marks (suc place) list) entry stands)
