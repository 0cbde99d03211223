-- Maps by number: what each thing of a map has, each of its pairs has, and the other way round; and a map in which each thing changed.
use Rattle.std.proofs.Common.{option_map, ◌≡◌, ◌<◌, ◌≤◌, ◌+◌, ℕ, Bool, true, false, ◌&&◌, cond, T, All, [], ◌∷◌, Some, IfSome, refl, sym}
use Rattle.std.proofs.Common.{subst, ◌∙◌, arith, eq-eqb, ne_eqb, find, is_lt, length, nat_cmp, unwrap_or, Equal, Less, Greater}
use Rattle.rk_inv_wellformed.proofs.Words.{cond-false, ranked, cond-true, All-cons, All-head, All-nil, All-tail, unsigned_tied, below_all}
use Rattle.rk_inv_wellformed.proofs.Words.{by_order, eq_by_cmp, EachIn, IsInOrder, NumberMap, changed_each, get, get_or, insert}
use Rattle.rk_inv_wellformed.proofs.Words.{same_number}
use Rattle.rk_inv_wellformed.proofs.maps.Lists.{all_find, by_found, few_rising}

-- ---- maps

-- the two halves of a test
pub both_hold : (a b : Bool) → T a → T b → T (a && b)
both_hold true b h k = k
both_hold false b h k = absurd h

-- the first of two facts that a test joins
pub first : (a b : Bool) → T (a && b) → T a
first true b p = tt
first false b p = p

-- the second of them
pub second : (a b : Bool) → T (a && b) → T b
second true b p = p
second false b p = absurd p

-- what the answer that the first number is less means
pub is_below : (x y : ℕ) → T (is_lt (nat_cmp x y)) → x < y
is_below x y h = grind (arith, nat_cmp, is_lt, ranked)

module _ {X : Type 0} where
  -- a number that is found is above a number that is below all
  pub above_all : (n : ℕ) (things : NumberMap X) (q : ℕ) (x : X) → T (below_all nat_cmp n things) → get things q ≡ Some x → n < q
  above_all n [] q x below found = absurd (cc found)
  above_all n (thing ∷ things) q x below found =
      elim (eq_by_cmp nat_cmp q thing.0) as (λ b. eq_by_cmp nat_cmp q thing.0 ≡ b → cond b (Some thing.1) (get things q) ≡ Some x → n < q) [
        | true ↦ λ is e.
            omega (arith, same_number q thing.0 is, is_below n thing.0 (first (is_lt (nat_cmp n thing.0)) (below_all nat_cmp n things) below))
        | false ↦ λ is e. above_all n things q x (second (is_lt (nat_cmp n thing.0)) (below_all nat_cmp n things) below) e
      ] refl found

  -- the first pair is found under its number
  pub get_first : (thing : ℕ × X) (things : NumberMap X) → get (thing ∷ things) thing.0 ≡ Some thing.1
  get_first thing things = cond-true (eq_by_cmp nat_cmp thing.0 thing.0) (Some thing.1) (get things thing.0)
      (unsigned_tied thing.0 thing.0 ∙ eq-eqb thing.0 thing.0 refl)

  -- and what is found behind it is found
  pub get_later : (thing : ℕ × X) (things : NumberMap X) (q : ℕ) (x : X) → IsInOrder (thing ∷ things) → get things q ≡ Some x
      → get (thing ∷ things) q ≡ Some x
  get_later thing things q x order found = grind (arith, above_all, first, below_all, nat_cmp, cond-false, eq_by_cmp, unsigned_tied, ne_eqb)

  -- what follows the first pair of a map in order is in order
  pub order_tail : (thing : ℕ × X) (things : NumberMap X) → IsInOrder (thing ∷ things) → IsInOrder things
  order_tail thing things order = second (below_all nat_cmp thing.0 things) _ order

  -- all numbers are greater than a number that is below all
  all_above : (n : ℕ) (things : NumberMap X) → T (below_all nat_cmp n things) → All (λ thing. n + 1 ≤ thing.0) things
  all_above n [] below = All-nil _
  all_above n (thing ∷ things) below =
      grind (arith, (all_above n things (second (is_lt (nat_cmp n thing.0)) (below_all nat_cmp n things) below)))

  -- a map in order has no more things than numbers below the greatest
  pub few_in_order : (most : ℕ) (things : NumberMap X) → IsInOrder things → All (λ thing. thing.0 < most) things → length things ≤ most
  few_in_order most things order high =
      omega (
        arith,
        few_rising (λ (thing : ℕ × X). thing.0) IsInOrder
            (λ thing things order. (all_above thing.0 things (first (below_all nat_cmp thing.0 things) _ order), order_tail thing things order))
            0 most things order (omega arith) (λ place other within. omega arith) high,
      )

  -- in a map in order each pair has what each thing has
  pub All_pairs : (Fits : ℕ → X → Type 0) (things : NumberMap X) → IsInOrder things → EachIn Fits things → All (λ pair. Fits pair.0 pair.1) things
  All_pairs Fits [] order each = All-nil (λ pair. Fits pair.0 pair.1)
  All_pairs Fits (thing ∷ things) order each =
      All-cons (λ pair. Fits pair.0 pair.1) thing things (each thing.0 thing.1 (get_first thing things))
      (All_pairs Fits things (order_tail thing things order) (λ q x found. each q x (get_later thing things q x order found)))

  -- and in any map each thing has what each pair has
  pub each_from_pairs : (Fits : ℕ → X → Type 0) (things : NumberMap X) → All (λ pair. Fits pair.0 pair.1) things → EachIn Fits things
  each_from_pairs Fits [] each q x found = absurd (cc found)
  each_from_pairs Fits (thing ∷ things) each q x found =
      elim (eq_by_cmp nat_cmp q thing.0) as (λ b. eq_by_cmp nat_cmp q thing.0 ≡ b → cond b (Some thing.1) (get things q) ≡ Some x → Fits q x) [
        | true ↦ λ is e.
            let same : thing.1 ≡ x = cc e in
            subst (Fits q) same
            (subst (λ (n : ℕ). Fits n thing.1) (sym (same_number q thing.0 is)) (All-head (λ pair. Fits pair.0 pair.1) thing things each))
        | false ↦ λ is e. each_from_pairs Fits things (All-tail (λ pair. Fits pair.0 pair.1) thing things each) q x e
      ] refl found

  -- each pair of a map has what each of its pairs had, and the new one has
  pub All_insert : (P : ℕ × X → Type 0) (things : NumberMap X) (number : ℕ) (thing : X) → All P things → P (number, thing)
      → All P (insert things number thing)
  All_insert P [] number thing each new = All-cons P (number, thing) [] new (All-nil P)
  All_insert P (here ∷ things) number thing each new =
      elim (nat_cmp number here.0) as (λ o. nat_cmp number here.0 ≡ o → All P (by_order o ((number, thing) ∷ here ∷ things) ((here.0, thing) ∷ things) (here ∷ insert things number thing))) [
        | Less ↦ λ is. All-cons P (number, thing) (here ∷ things) new each
        | Equal ↦ λ is.
            let same : number ≡ here.0 = ranked number here.0 Equal (sym is) in
            All-cons P (here.0, thing) things (subst (λ (n : ℕ). P (n, thing)) same new) (All-tail P here things each)
        | Greater ↦ λ is.
            All-cons P here (insert things number thing) (All-head P here things each)
            (All_insert P things number thing (All-tail P here things each) new)
      ] refl

  -- what a test finds among the pairs of a map in order is found under its number
  pub find_is_got : (p : ℕ × X → Bool) (things : NumberMap X) (pair : ℕ × X) → IsInOrder things → find p things ≡ Some pair
      → get things pair.0 ≡ Some pair.1
  find_is_got p things pair order found = all_find (λ (pair : ℕ × X). get things pair.0 ≡ Some pair.1) p things pair
      (All_pairs (λ q x. get things q ≡ Some x) things order (λ q x there. there)) found

  -- what each thing has under its number, what is found has
  pub found_each : (Fits : ℕ → X → Type 0) (things : NumberMap X) (number : ℕ) → EachIn Fits things → IfSome (get things number) (Fits number)
  found_each Fits things number each =
      by_found (λ found. IfSome found (Fits number)) (get things number) (λ is. tt) (λ thing is. each number thing is)

  -- and so has what is looked up, if what is used for none has it
  pub each_or : (Fits : ℕ → X → Type 0) (none : X) (things : NumberMap X) (number : ℕ) → Fits number none → EachIn Fits things
      → Fits number (get_or none things number)
  each_or Fits none things number it each =
      by_found (λ found. Fits number (unwrap_or found none)) (get things number) (λ is. it) (λ thing is. each number thing is)

-- ---- each thing changed

-- what is found in a map of which each thing was changed
pub found_changed : {X Y : Type 0} (change : ℕ → X → Y) (things : NumberMap X) (q : ℕ)
    → get (changed_each change things) q ≡ option_map (change q) (get things q)
found_changed change [] q = refl
found_changed {X = X} {Y = Y} change (first ∷ rest) q =
    grind (arith, eq_by_cmp, nat_cmp, changed_each, same_number, first.0, first.1, (found_changed change rest q))

-- each thing has its property after a change that gives it
pub each_changed : {X Y : Type 0} (Fits : ℕ → X → Type 0) (Gives : ℕ → Y → Type 0) (change : ℕ → X → Y) → ((number : ℕ) (thing : X) → Fits number thing → Gives number (change number thing)) → (things : NumberMap X) → EachIn Fits things → EachIn Gives (changed_each change things)
each_changed {X = X} {Y = Y} holds also change gives things each q y found = grind (arith, by_found, found_changed)

-- and so has each pair after a change that keeps it
pub all_changed : {X : Type 0} (P : X → Type 0) (change : ℕ → X → X) → ((number : ℕ) (thing : X) → P thing → P (change number thing))
    → (things : NumberMap X) → All (λ entry. P entry.1) things → All (λ entry. P entry.1) (changed_each change things)
all_changed P change keeps [] all = All-nil (λ entry. P entry.1)
all_changed P change keeps (first ∷ rest) all =
    All-cons (λ entry. P entry.1) (first.0, change first.0 first.1) (changed_each change rest)
    (keeps first.0 first.1 (All-head (λ entry. P entry.1) first rest all))
    (all_changed P change keeps rest (All-tail (λ entry. P entry.1) first rest all))
