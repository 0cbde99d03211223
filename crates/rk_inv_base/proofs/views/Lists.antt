-- Properties of each element, by the elements that are in a list.
use Rattle.rk_inv_base.proofs.Words.{List, All, Contains, refl, ap, ◌≡◌, sym, ◌∙◌, Bool, ◌∷◌, false, filter, [], All-weaker, All-contains}
use Rattle.rk_inv_base.proofs.Words.{All-contains_itself, false_from_ne_true, false≢true, list_any_at, list_any, All-head, All-tail}
use Rattle.rk_inv_base.proofs.Words.{cond-false}

-- what each element has that is in the list
pub all_by : {X : Type 0} (P : X → Type 0) (xs : List X) → ((x : X) → Contains xs x → P x) → All P xs
all_by P xs each = All-weaker (Contains xs) P each xs (All-contains_itself xs)

-- what follows for each element that is in the list
pub all_in : {X : Type 0} (P Q : X → Type 0) (xs : List X) → ((x : X) → Contains xs x → P x → Q x) → All P xs → All Q xs
all_in P Q xs gives all = all_by Q xs (λ x stands. gives x stands (All-contains P xs x all stands))

-- if no element of a list passes a test, an element that is in it does not
pub none_pass : {X : Type 0} (p : X → Bool) (xs : List X) → list_any p xs ≡ false → (x : X) → Contains xs x → p x ≡ false
none_pass p xs none x stands =
    false_from_ne_true (p x) (λ passes. false≢true (sym none ∙ list_any_at p xs stands.0 x stands.1 (ap p stands.2 ∙ passes)))

-- and the test keeps none if none passes
pub none_kept : {X : Type 0} (p : X → Bool) (xs : List X) → All (λ x. p x ≡ false) xs → filter p xs ≡ []
none_kept p [] all = refl
none_kept p (x ∷ xs) all =
    cond-false (p x) (x ∷ filter p xs) (filter p xs) (All-head (λ y. p y ≡ false) x xs all)
    ∙ none_kept p xs (All-tail (λ y. p y ≡ false) x xs all)
