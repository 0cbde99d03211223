-- What is at a place of a list, after one more element.
use Rattle.std.proofs.Common.{get_or, sym, ◌≡◌, ◌≢◌, ℕ, ◌<◌, ◌⊎◌, Bool, true, false, cond, List, [], ◌∷◌, ◌++◌, Some, length, zero, suc, inl, inr, refl, ap, ◌∙◌, get_or-set_same, get_or-set_other, subst, ⊎_elim}
use Rattle.std.proofs.lemmas.Bool.{cases_eq}
use Rattle.std.proofs.lemmas.List.Elements.{All-nil, All-cons, All-head, All-tail}
use Rattle.std.proofs.lemmas.Option.{get_or_from_slice_get, slice_get_within, slice_get-get_or}
use Rattle.std.specs.Prelude.{All, map, filter, slice_get}
use Rattle.rk_types.specs.declared.history.Placed.{Placed}
use Rattle.rk_model.specs.Merged.{journal_of, appended}

-- what is in a list is at the same place with more behind it
pub slice_get_front :
    {A : Type 0} (xs ys : List A) (place : ℕ) (x : A)
    → slice_get xs place ≡ Some x → slice_get (xs ++ ys) place ≡ Some x
slice_get_front [] ys place x there = cc
slice_get_front (y ∷ xs) ys zero x there = there
slice_get_front (y ∷ xs) ys (suc place) x there = slice_get_front xs ys place x there

-- the last element is at the place that is the length of what comes before it
pub slice_get_end : {A : Type 0} (xs : List A) (x : A) → slice_get (xs ++ x ∷ []) (length xs) ≡ Some x
slice_get_end [] x = refl
slice_get_end (y ∷ xs) x = slice_get_end xs x

-- what is in a list with one more element was there before, or is that element at the end
pub slice_get_push_cases :
    {A : Type 0} (xs : List A) (x y : A) (place : ℕ)
    → slice_get (xs ++ x ∷ []) place ≡ Some y → (slice_get xs place ≡ Some y) ⊎ ((place ≡ length xs) × (x ≡ y))
slice_get_push_cases [] x y zero there = inr (refl, cc)
slice_get_push_cases [] x y (suc place) there = absurd (cc)
slice_get_push_cases (z ∷ xs) x y zero there = inl there
slice_get_push_cases (z ∷ xs) x y (suc place) there =
    elim (slice_get_push_cases xs x y place there) [ inl before ↦ inl before | inr last ↦ inr (ap suc last.0, last.1) ]

-- what holds of a kept first element and the rest holds of that element
first_kept : {A : Type 0} (P : A → Type 0) (x : A) (xs : List A) (b : Bool) → b ≡ true → All P (cond b (x ∷ xs) xs) → P x
first_kept P x xs true kept all = All-head P x xs all
first_kept P x xs false kept all = absurd (cc)

-- and of the rest, whether the first is kept or not
rest_kept : {A : Type 0} (P : A → Type 0) (b : Bool) (x : A) (xs : List A) → All P (cond b (x ∷ xs) xs) → All P xs
rest_kept P true x xs all = All-tail P x xs all
rest_kept P false x xs all = all

-- what holds of each element that a test keeps holds of an element that passes it
pub passes_filter :
    {A : Type 0} (P : A → Type 0) (test : A → Bool) (xs : List A) (place : ℕ) (x : A)
    → All P (filter test xs) → slice_get xs place ≡ Some x → test x ≡ true → P x
passes_filter P test [] place x all there passes = absurd (cc)
passes_filter P test (y ∷ xs) zero x all there passes =
    let same : y ≡ x = cc in
    let tested : test y ≡ true = ap test same ∙ passes in
    subst P same (first_kept P y (filter test xs) (test y) tested all)
passes_filter P test (y ∷ xs) (suc place) x all there passes =
    passes_filter P test xs place x (rest_kept P (test y) y (filter test xs) all) there passes

-- the journal of a lane after one more record at the end of it
pub journal_of-same :
    (journals : List (List Placed)) (lane : ℕ) (placed : Placed)
    → lane < length journals → journal_of (appended journals lane placed) lane ≡ journal_of journals lane ++ placed ∷ []
journal_of-same journals lane placed in_range =
    get_or-set_same journals lane (journal_of journals lane ++ placed ∷ []) [] in_range

-- the journal of another lane is as before
pub journal_of-other :
    (journals : List (List Placed)) (lane other : ℕ) (placed : Placed)
    → other ≢ lane → journal_of (appended journals lane placed) other ≡ journal_of journals other
journal_of-other journals lane other placed apart =
    get_or-set_other journals lane other (journal_of journals lane ++ placed ∷ []) [] apart

-- what holds of each lane's journal, and of one with the record, holds of each lane's journal after it
pub each_appended :
    (P : ℕ → List Placed → Type 0) (journals : List (List Placed)) (lane : ℕ) (placed : Placed)
    → lane < length journals
    → ((other : ℕ) → P other (journal_of journals other)) → P lane (journal_of journals lane ++ placed ∷ [])
    → (other : ℕ) → P other (journal_of (appended journals lane placed) other)
each_appended P journals lane placed in_range each here other =
    ⊎_elim
    (λ (same : other ≡ lane).
    subst (λ (l : ℕ). P l (journal_of (appended journals lane placed) l)) (sym same)
    (subst (P lane) (sym (journal_of-same journals lane placed in_range)) here))
    (λ (apart : other ≢ lane).
    subst (P other) (sym (journal_of-other journals lane other placed apart)) (each other))
    (cases_eq other lane)

-- what is in a lane's journal is still there after one more record of any lane
pub journal_of-keeps :
    (journals : List (List Placed)) (lane other place : ℕ) (placed x : Placed)
    → lane < length journals → slice_get (journal_of journals other) place ≡ Some x
    → slice_get (journal_of (appended journals lane placed) other) place ≡ Some x
journal_of-keeps journals lane other place placed x in_range there =
    let Stands : ℕ → List Placed → Type 0 =
    λ (l : ℕ) (journal : List Placed).
    slice_get (journal_of journals l) place ≡ Some x → slice_get journal place ≡ Some x in
    each_appended Stands journals lane placed in_range (λ l stands. stands)
    (slice_get_front (journal_of journals lane) (placed ∷ []) place x) other there

-- what holds of each element's image holds, of the image, for each element
pub All-unmap : {A B : Type 0} (P : B → Type 0) (f : A → B) (xs : List A) → All P (map f xs) → All (λ x. P (f x)) xs
All-unmap P f [] all = All-nil (λ x. P (f x))
All-unmap P f (x ∷ xs) all =
    All-cons (λ x. P (f x)) x xs (All-head P (f x) (map f xs) all)
    (All-unmap P f xs (All-tail P (f x) (map f xs) all))

-- what holds of each element holds of the one at a place
pub all_at :
    {A : Type 0} (P : A → Type 0) (xs : List A) (place : ℕ) (x : A)
    → All P xs → slice_get xs place ≡ Some x → P x
all_at P xs place x all there =
    subst P (get_or_from_slice_get xs place x x there) (all place x (slice_get_within xs place x there))

-- what holds of the element at each place holds of each element
pub all_from_places :
    {A : Type 0} (P : A → Type 0) (xs : List A)
    → ((place : ℕ) (x : A) → slice_get xs place ≡ Some x → P x) → All P xs
all_from_places P xs each place d within = each place (get_or xs place d) (slice_get-get_or xs place d within)
