-- Lists: what holds of each element of a list stays so when the list is joined, parted, changed, found in or folded over.
use Rattle.std.proofs.Common.{◌≡◌, ℕ, zero, suc, Bool, true, false, cond, List, [], ◌∷◌, ◌++◌, fold, All, Option, None, Some, IfSome}
use Rattle.std.proofs.Common.{flat_map, refl, subst, find, slice_get, slice_index_or, arith, filter, length, length-append, ◌≤◌, ◌<◌, ◌+◌}
use Rattle.std.proofs.Common.{sym, ◌∙◌, not}
use Rattle.rk_inv_wellformed.proofs.Words.{All-append, All-cons, All-head, All-nil, All-tail, range_with_len, position_or_len}
pub use Rattle.rk_model.proofs.Places.{All-unmap as all_before}
use Rattle.std.proofs.lemmas.Option.{get_or_from_slice_get, slice_get_within}
use Rattle.std.proofs.lemmas.List.Filters.{length-filter_both}
use Rattle.std.proofs.lemmas.List.Folds.{find_at}
use Rattle.std.proofs.lemmas.List.FromFn.{get_or-range_with_len, length-range_with_len}

-- ---- one of two

-- what both have, what a test chooses of them has
pub either_way : {X : Type 0} (P : X → Type 0) (test : Bool) {x y : X} → P x → P y → P (cond test x y)
either_way P true left right = left
either_way P false left right = right

-- what there is none of, and what there is, each have what they are to have; so what is found has it
pub by_found : {X : Type 0} (P : Option X → Type 0) (found : Option X) → (found ≡ None → P None) → ((x : X) → found ≡ Some x → P (Some x)) → P found
by_found P None none some = none refl
by_found P (Some x) none some = some x refl

-- ---- lists

-- what holds of all elements of two lists holds of those of the first
pub all_front : {X : Type 0} (P : X → Type 0) (front back : List X) → All P (front ++ back) → All P front
all_front P [] back all = All-nil P
all_front P (first ∷ rest) back all =
    All-cons P first rest (All-head P first (rest ++ back) all) (all_front P rest back (All-tail P first (rest ++ back) all))

-- and of those of the second
pub all_back : {X : Type 0} (P : X → Type 0) (front back : List X) → All P (front ++ back) → All P back
all_back P [] back all = all
all_back P (first ∷ rest) back all = all_back P rest back (All-tail P first (rest ++ back) all)

-- what holds of all elements of what each gives holds of all that is given
pub all_flat : {X Y : Type 0} (P : Y → Type 0) (give : X → List Y) (list : List X) → All (λ x. All P (give x)) list → All P (flat_map give list)
all_flat P give [] all = All-nil P
all_flat P give (first ∷ rest) all = All-append P (give first) (flat_map give rest)
    (All-head (λ x. All P (give x)) first rest all) (all_flat P give rest (All-tail (λ x. All P (give x)) first rest all))

-- and the other way round
pub all_given : {X Y : Type 0} (P : Y → Type 0) (give : X → List Y) (list : List X) → All P (flat_map give list) → All (λ x. All P (give x)) list
all_given P give [] all = All-nil _
all_given P give (first ∷ rest) all = All-cons (λ x. All P (give x)) first rest
    (all_front P (give first) (flat_map give rest) all) (all_given P give rest (all_back P (give first) (flat_map give rest) all))

-- what holds of all elements holds of the one at a place
pub all_got : {X : Type 0} (P : X → Type 0) (list : List X) (place : ℕ) (x : X) → slice_get list place ≡ Some x → All P list → P x
all_got P list place x found all = subst P (get_or_from_slice_get list place x x found) (all place x (slice_get_within list place x found))

-- what holds of all elements holds of the last
pub all_last : {X : Type 0} (P : X → Type 0) (list : List X) (last : X) → All P (list ++ last ∷ []) → P last
all_last P list last all = All-head P last [] (all_back P list (last ∷ []) all)

-- what a test finds has what each element has
pub all_find : {X : Type 0} (P : X → Type 0) (p : X → Bool) (xs : List X) (x : X) → All P xs → find p xs ≡ Some x → P x
all_find P p xs x each found = all_got P xs (position_or_len p xs) x (sym (find_at p xs) ∙ found) each

pub found_has : {X : Type 0} (P : X → Type 0) (p : X → Bool) (xs : List X) → All P xs → IfSome (find p xs) P
found_has P p xs each = by_found (λ found. IfSome found P) (find p xs) (λ is. tt) (λ x is. all_find P p xs x each is)

-- it passes the test
pub find_passes : {X : Type 0} (p : X → Bool) (xs : List X) (x : X) → find p xs ≡ Some x → p x ≡ true
find_passes p [] x found = absurd (cc found)
find_passes {X} p (y ∷ ys) x found =
    elim (p y) as (λ b. p y ≡ b → cond b (Some y) (find p ys) ≡ Some x → p x ≡ true) [
      | true ↦ λ is e. let same : y ≡ x = cc e in subst (λ (z : X). p z ≡ true) same is
      | false ↦ λ is e. find_passes p ys x e
    ] refl found

-- what passes a test are no more than all
pub filter_few : {X : Type 0} (p : X → Bool) (xs : List X) → length (filter p xs) ≤ length xs
filter_few p xs = omega (arith, length-filter_both p (λ x. not (p x)) (λ x. refl) xs)

-- numbers that count up from one on are at least that, and below the one behind the last
pub range_within : (start count : ℕ) → All (λ n. (start ≤ n) × (n < start + count)) (range_with_len start count)
range_within start count place other within = grind (arith, length-range_with_len, get_or-range_with_len)

-- what each step of a fold keeps, the fold keeps
pub fold_keeps : {A B : Type 0} (P : B → Type 0) (f : B → A → B) (xs : List A) (b : B) → P b → ((b : B) (a : A) → P b → P (f b a)) → P (fold f b xs)
fold_keeps P f [] b now step = now
fold_keeps P f (x ∷ xs) b now step = fold_keeps P f xs (f b x) (step b x now) step

-- and so does one whose elements have something
pub fold_keeps_all : {A B : Type 0} (P : B → Type 0) (Q : A → Type 0) (f : B → A → B) (xs : List A) (b : B) → P b → All Q xs
    → ((b : B) (a : A) → P b → Q a → P (f b a)) → P (fold f b xs)
fold_keeps_all P Q f [] b now each step = now
fold_keeps_all P Q f (x ∷ xs) b now each step =
    fold_keeps_all P Q f xs (f b x) (step b x now (All-head Q x xs each)) (All-tail Q x xs each) step

-- what each thing has, each of a list has
pub all_each : {X : Type 0} (P : X → Type 0) (xs : List X) → ((x : X) → P x) → All P xs
all_each P xs holds place other within = holds _

-- what all have, and what is used for none has, the thing at a place has
pub all_at : {X : Type 0} (P : X → Type 0) (xs : List X) (place : ℕ) (none : X) → P none → All P xs → P (slice_index_or xs place none)
all_at P [] place none it all = it
all_at P (x ∷ xs) zero none it all = All-head P x xs all
all_at P (x ∷ xs) (suc place) none it all = all_at P xs place none it (All-tail P x xs all)

-- what gives at most one of each gives no more than there are
pub one_of_each : {X Y : Type 0} (give : X → List Y) (list : List X) → ((x : X) → length (give x) ≤ 1) → length (flat_map give list) ≤ length list
one_of_each give [] one = omega arith
one_of_each give (first ∷ rest) one = grind (arith, length-append, (one_of_each give rest one))

-- things whose numbers rise are no more than there are numbers between the least and the greatest
pub few_rising : {X : Type 0} (number : X → ℕ) (Rise : List X → Type 0)
    → ((x : X) (xs : List X) → Rise (x ∷ xs) → All (λ y. number x + 1 ≤ number y) xs × Rise xs)
    → (least most : ℕ) (list : List X) → Rise list → least ≤ most → All (λ x. least ≤ number x) list → All (λ x. number x < most) list
    → length list + least ≤ most
few_rising number Rise behind least most [] rise some low high = omega arith
few_rising number Rise behind least most (x ∷ xs) rise some low high =
    let from = All-head (λ x. least ≤ number x) x xs low in
    let to = All-head (λ x. number x < most) x xs high in
    let (above, later) = behind x xs rise in
    omega (arith, few_rising number Rise behind (number x + 1) most xs later (omega arith) above (All-tail (λ x. number x < most) x xs high))
