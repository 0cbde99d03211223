-- Lists along which a number does not fall, cut at a number into what is before it, what has it, and what is behind it.
use Rattle.std.proofs.Common.{◌≡◌, ℕ, ◌<◌, ◌≤◌, Bool, true, false, ltb, eqb, List, [], ◌∷◌, ◌++◌, ◌⊎◌, Option, Some, refl, sym, ap, ◌∙◌, inl, inr, ⊎_elim, arith}
use Rattle.std.specs.Prelude.{⊤, filter}
use Rattle.std.specs.List.{last_or}
use Rattle.std.proofs.lemmas.Bool.{cases_lt, cond-true, cond-false, lt-ltb, le-ltb, ne_eqb}
use Rattle.std.proofs.lemmas.List.{append-nil}

-- a test that an item passes, and a test that it fails
pub filter_kept : {X : Type 0} (p : X → Bool) (x : X) (xs : List X) → p x ≡ true → filter p (x ∷ xs) ≡ x ∷ filter p xs
filter_kept p x xs e = cond-true (p x) (x ∷ filter p xs) (filter p xs) e

pub filter_left_out : {X : Type 0} (p : X → Bool) (x : X) (xs : List X) → p x ≡ false → filter p (x ∷ xs) ≡ filter p xs
filter_left_out p x xs e = cond-false (p x) (x ∷ filter p xs) (filter p xs) e

-- a test that no item passes
pub filter_none : {X : Type 0} (p : X → Bool) → ((x : X) → p x ≡ false) → (xs : List X) → filter p xs ≡ []
filter_none p fails [] = refl
filter_none p fails (x ∷ xs) = filter_left_out p x xs (fails x) ∙ filter_none p fails xs

-- a list is empty, or it ends with an item
pub ends_with_one : {X : Type 0} (xs : List X) → (xs ≡ []) ⊎ ((front : List X) × (x : X) × (xs ≡ front ++ x ∷ []))
ends_with_one [] = inl refl
ends_with_one {X} (x ∷ xs) =
    ⊎_elim
    (λ (none : xs ≡ []). inr ([], x, ap (λ (l : List X). x ∷ l) none))
    (λ (more : (front : List X) × (y : X) × (xs ≡ front ++ y ∷ [])). inr (x ∷ more.0, more.1, ap (λ (l : List X). x ∷ l) more.2))
    (ends_with_one xs)

-- the last item of a list that ends with one
pub last_of_end : {X : Type 0} (o : Option X) (front : List X) (x : X) → last_or o (front ++ x ∷ []) ≡ Some x
last_of_end o [] x = refl
last_of_end o (y ∷ front) x = last_of_end (Some y) front x

module _ {X : Type 0} (n : X → ℕ) where
  -- the number of each item is at least, or at most, so much
  abbrev pub AllFrom : ℕ → List X → Type 0
  AllFrom b [] = ⊤
  AllFrom b (x ∷ xs) = (b ≤ n x) × AllFrom b xs

  abbrev pub AllUpTo : ℕ → List X → Type 0
  AllUpTo b [] = ⊤
  AllUpTo b (x ∷ xs) = (n x ≤ b) × AllUpTo b xs

  -- the number does not fall along the list
  abbrev pub Rises : List X → Type 0
  Rises [] = ⊤
  Rises (x ∷ xs) = AllFrom (n x) xs × Rises xs

  -- the items whose number is less, the same, greater
  abbrev pub less : ℕ → List X → List X
  less b xs = filter (λ x. ltb (n x) b) xs

  abbrev pub same : ℕ → List X → List X
  same b xs = filter (λ x. eqb (n x) b) xs

  abbrev pub more : ℕ → List X → List X
  more b xs = filter (λ x. ltb b (n x)) xs

  -- a weaker bound
  pub from_weaker : (a b : ℕ) (xs : List X) → a ≤ b → AllFrom b xs → AllFrom a xs
  from_weaker a b [] h all = tt
  from_weaker a b (x ∷ xs) h all = (let k : b ≤ n x = all.0 in omega arith, from_weaker a b xs h all.1)

  pub less_none : (b : ℕ) (xs : List X) → AllFrom b xs → less b xs ≡ []
  less_none b [] all = refl
  less_none b (x ∷ xs) all = filter_left_out (λ x. ltb (n x) b) x xs (le-ltb (n x) b all.0) ∙ less_none b xs all.1

  pub same_none : (a b : ℕ) (xs : List X) → a < b → AllFrom b xs → same a xs ≡ []
  same_none a b [] h all = refl
  same_none a b (x ∷ xs) h all = grind (arith, filter_left_out, eqb, ne_eqb, all.0, all.1, (same_none a b xs h all.1))

  pub more_all : (a b : ℕ) (xs : List X) → a < b → AllFrom b xs → more a xs ≡ xs
  more_all a b [] h all = refl
  more_all a b (x ∷ xs) h all = grind (arith, filter_kept, ltb, lt-ltb, all.0, all.1, (more_all a b xs h all.1))

  pub more_none : (b : ℕ) (xs : List X) → AllUpTo b xs → more b xs ≡ []
  more_none b [] all = refl
  more_none b (x ∷ xs) all = filter_left_out (λ x. ltb b (n x)) x xs (le-ltb b (n x) all.0) ∙ more_none b xs all.1

  -- from a number on, the items are those that have it and those behind it
  pub same_and_more : (b : ℕ) (xs : List X) → AllFrom b xs → Rises xs → same b xs ++ more b xs ≡ xs
  same_and_more b [] all rises = refl
  same_and_more b (x ∷ xs) all rises =
      grind (arith, same_none, (same_and_more b xs all.1 rises.1))

  -- the list is what is before a number, what has it, and what is behind it
  pub three_parts : (b : ℕ) (xs : List X) → Rises xs → less b xs ++ (same b xs ++ more b xs) ≡ xs
  three_parts b [] rises = refl
  three_parts b (x ∷ xs) rises =
      ⊎_elim
      (λ (before : n x < b).
      let one : less b (x ∷ xs) ≡ x ∷ less b xs = filter_kept (λ x. ltb (n x) b) x xs (lt-ltb (n x) b before) in
      let out : same b (x ∷ xs) ≡ same b xs = filter_left_out (λ x. eqb (n x) b) x xs (ne_eqb (n x) b (λ e. omega arith)) in
      let gone : more b (x ∷ xs) ≡ more b xs = filter_left_out (λ x. ltb b (n x)) x xs (le-ltb b (n x) (omega arith)) in
      (λ i. one i ++ (out i ++ gone i)) ∙ ap (λ (l : List X). x ∷ l) (three_parts b xs rises.1))
      (λ (here : b ≤ n x).
      let all : AllFrom b (x ∷ xs) = (here, from_weaker b (n x) xs here rises.0) in
      ap (λ (l : List X). l ++ (same b (x ∷ xs) ++ more b (x ∷ xs))) (less_none b (x ∷ xs) all) ∙ same_and_more b (x ∷ xs) all rises)
      (cases_lt (n x) b)

  -- of a list that rises, an item and what is around it
  from_back : (b : ℕ) (xs ys : List X) → AllFrom b (xs ++ ys) → AllFrom b ys
  from_back b [] ys all = all
  from_back b (x ∷ xs) ys all = from_back b xs ys all.1

  from_front : (b : ℕ) (xs ys : List X) → AllFrom b (xs ++ ys) → AllFrom b xs
  from_front b [] ys all = tt
  from_front b (x ∷ xs) ys all = (all.0, from_front b xs ys all.1)

  pub rises_back : (xs ys : List X) → Rises (xs ++ ys) → Rises ys
  rises_back [] ys rises = rises
  rises_back (x ∷ xs) ys rises = rises_back xs ys rises.1

  pub rises_front : (xs ys : List X) → Rises (xs ++ ys) → Rises xs
  rises_front [] ys rises = tt
  rises_front (x ∷ xs) ys rises = (from_front (n x) xs ys rises.0, rises_front xs ys rises.1)

  pub up_to_here : (front : List X) (x : X) (ys : List X) → Rises (front ++ x ∷ ys) → AllUpTo (n x) (front ++ x ∷ [])
  up_to_here [] x ys rises = (omega arith, tt)
  up_to_here (y ∷ front) x ys rises = ((from_back (n y) front (x ∷ ys) rises.0).0, up_to_here front x ys rises.1)

  pub from_here : (front : List X) (x : X) (ys : List X) → Rises (front ++ x ∷ ys) → AllFrom (n x) ys
  from_here front x ys rises = (rises_back front (x ∷ ys) rises).0

  -- up to a number, the items are those before it and those that have it
  pub less_and_same : (b : ℕ) (xs : List X) → AllUpTo b xs → Rises xs → less b xs ++ same b xs ≡ xs
  less_and_same b xs all rises =
      let none : same b xs ++ more b xs ≡ same b xs = ap (λ (l : List X). same b xs ++ l) (more_none b xs all) ∙ append-nil (same b xs) in
      ap (λ (l : List X). less b xs ++ l) (sym none) ∙ three_parts b xs rises
