-- Two lists of answers, each in the order of stamp and lane, are one if they have the same members.
use Rattle.std.proofs.Common.{◌≡◌, ℕ, Bool, true, false, ◌&&◌, ◌||◌, eqb, ltb, List, [], ◌∷◌, refl, sym, subst, ◌∙◌, ⊎_elim, arith, ◌==◌}
use Rattle.std.proofs.Common.{nat_lt, All, Contains}
use Rattle.rk_inv_base.proofs.Words.{behind_stands, first_stands, false≢true, nat_tests, All-contains, ⊤, Answered}
use Rattle.rk_inv_base.proofs.rows.Apart.{contains_cases}

-- whether an answer comes before another: by stamp, and at one stamp by lane
abbrev pub comes_before : Answered → Answered → Bool
comes_before a b = nat_lt a.stamp b.stamp || (a.stamp == b.stamp && nat_lt a.lane b.lane)

-- each comes before all that follow it
abbrev pub AreInOrder : List Answered → Type 0
AreInOrder [] = ⊤
AreInOrder (a ∷ answers) = All (λ b. comes_before a b ≡ true) answers × AreInOrder answers

-- of two answers only one comes before the other
one_before : (a b : Answered) → comes_before a b ≡ true → comes_before b a ≡ true → ⊥
one_before a b first second = false≢true (sym (go a.stamp b.stamp a.lane b.lane first) ∙ second)
  where
    go : (s t l m : ℕ) → (ltb s t || (eqb s t && ltb l m)) ≡ true → (ltb t s || (eqb t s && ltb m l)) ≡ false
    go s t l m before = grind (arith, nat_tests)

-- the members of one list that follow its first one are of the other, behind the same first one
rest_among : (a : Answered) (some others : List Answered) → All (λ b. comes_before a b ≡ true) some → ((x : Answered) → Contains (a ∷ some) x → Contains (a ∷ others) x) → (x : Answered) → Contains some x → Contains others x
rest_among a some others before among x stands =
    ⊎_elim
    (λ (is : a ≡ x).
    let self : comes_before a a ≡ true = subst (λ (b : Answered). comes_before a b ≡ true) (sym is) (All-contains (λ b. comes_before a b ≡ true) some x before stands) in
    absurd (one_before a a self self))
    (λ (there : Contains others x). there)
    (contains_cases a others x (among x (behind_stands a some x stands)))

pub one_order : (xs ys : List Answered) → AreInOrder xs → AreInOrder ys → ((a : Answered) → Contains xs a → Contains ys a) → ((a : Answered) → Contains ys a → Contains xs a) → xs ≡ ys
one_order [] [] first second there back = refl
one_order [] (y ∷ ys) first second there back = absurd (let none = back y (first_stands y ys) in omega (arith, none.1))
one_order (x ∷ xs) [] first second there back = absurd (let none = there x (first_stands x xs) in omega (arith, none.1))
one_order (x ∷ xs) (y ∷ ys) first second there back =
    let same : x ≡ y =
    ⊎_elim (λ (is : y ≡ x). sym is)
    (λ (later : Contains ys x).
    ⊎_elim (λ (is : x ≡ y). is)
    (λ (behind_x : Contains xs y).
    absurd
    (one_before x y (All-contains (λ b. comes_before x b ≡ true) xs y first.0 behind_x)
    (All-contains (λ b. comes_before y b ≡ true) ys x second.0 later)))
    (contains_cases x xs y (back y (first_stands y ys))))
    (contains_cases y ys x (there x (first_stands x xs))) in
    let there_rest = rest_among x xs ys first.0 (λ z stands. subst (λ (w : Answered). Contains (w ∷ ys) z) (sym same) (there z stands)) in
    let back_rest = rest_among y ys xs second.0 (λ z stands. subst (λ (w : Answered). Contains (w ∷ xs) z) same (back z stands)) in
    (λ i. same i ∷ one_order xs ys first.1 second.1 there_rest back_rest i)
