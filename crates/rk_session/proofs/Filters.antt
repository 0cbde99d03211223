-- How many a filter keeps, beside another one.
use Rattle.std.proofs.Common.{◌≡◌, ◌≤◌, Bool, true, false, cond, List, [], ◌∷◌, length, refl, arith}
use Rattle.std.specs.List.{filter}

-- one more that a filter may keep, before lists that are no longer than one another
more_kept : {X : Type 0} (a b : Bool) (x : X) (xs ys : List X) → (b ≡ true → a ≡ true) → length ys ≤ length xs → length (cond b (x ∷ ys) ys) ≤ length (cond a (x ∷ xs) xs)
more_kept a b x xs ys keeps short = grind arith

-- a filter that keeps what another one keeps, and maybe more, leaves no shorter a list
pub filter_longer : {X : Type 0} (p q : X → Bool) → ((x : X) → q x ≡ true → p x ≡ true) → (xs : List X) → length (filter q xs) ≤ length (filter p xs)
filter_longer p q keeps [] = omega arith
filter_longer p q keeps (x ∷ xs) = more_kept (p x) (q x) x (filter p xs) (filter q xs) (keeps x) (filter_longer p q keeps xs)

-- a filter keeps no more than there is
pub length-filter_le : {X : Type 0} (p : X → Bool) (xs : List X) → length (filter p xs) ≤ length xs
length-filter_le p [] = omega arith
length-filter_le p (x ∷ xs) = more_kept true (p x) x xs (filter p xs) (λ is. refl) (length-filter_le p xs)

-- one more that the first of two filters may keep
more_of_both : {X : Type 0} (p : X → Bool) (b : Bool) (x : X) (xs ys : List X) → length (filter p ys) ≤ length (filter p xs) → length (filter p (cond b (x ∷ ys) ys)) ≤ length (filter p (x ∷ xs))
more_of_both p true x xs ys short = more_kept (p x) (p x) x (filter p xs) (filter p ys) (λ is. is) short
more_of_both p false x xs ys short = more_kept (p x) false x (filter p xs) (filter p ys) (λ never. cc) short

-- of what another filter left a filter keeps no more than of all
pub filter_twice : {X : Type 0} (p q : X → Bool) (xs : List X) → length (filter p (filter q xs)) ≤ length (filter p xs)
filter_twice p q [] = omega arith
filter_twice p q (x ∷ xs) = more_of_both p (q x) x xs (filter q xs) (filter_twice p q xs)
