-- The place of a number in a map by rising number, and what is found and changed there.
use Rattle.std.proofs.Common.{◌≡◌, ℕ, zero, suc, ◌<◌, ◌≤◌, Bool, true, false, ◌&&◌, T, List, [], ◌∷◌, length, get_or, set, Option, Some, None, is_some, refl, sym, ap, ◌∙◌, subst, eqb, ⊎_elim, inl, inr, arith}
use Rattle.std.proofs.lemmas.Bool.{cases_eq, cases_lt, cond-false, cond-true, eq-eqb, false≢true, ne_eqb}
use Rattle.std.specs.Prelude.{Result, Ok, Err, IfOk, IfErr, IsOk, IsSome, is_ok}
use Rattle.std.specs.List.Sorted.{IsSearchInRange, IsBinarySearchResult}
use Rattle.std.specs.List.{insert as insert_at}
use Rattle.std.specs.Ordering.{nat_cmp, is_lt, ordering_index}
use Rattle.std.specs.declared.cmp.Ordering.{Ordering}
use Rattle.std.specs.declared.cmp.Ordering.TheVariants.{Less, Equal, Greater}
use Rattle.std.specs.Cmp.{nat_cmp_is, ranked}
use Rattle.std.specs.FinMap.Entries.{below_all}
use Rattle.rk_types.specs.NumberMap.{NumberMap, IsInOrder, get, insert}
use Rattle.rk_types.proofs.NumberMaps.{get_insert, in_order_insert, same_map}
use Rattle.rk_types.specs.Places.{IsAt, IsBetween}

-- the first of two facts that a test joins
pub first : (a b : Bool) → T (a && b) → T a
first true b p = tt
first false b p = p

-- the second of them
pub second : (a b : Bool) → T (a && b) → T b
second true b p = p
second false b p = absurd p

-- a smaller number compares so
cmp_below : (x y : ℕ) → x < y → nat_cmp x y ≡ Less
cmp_below x y h = sym (nat_cmp_is x y Less h)

-- a greater one
cmp_above : (x y : ℕ) → y < x → nat_cmp x y ≡ Greater
cmp_above x y h = sym (nat_cmp_is x y Greater h)

-- and an equal one
cmp_same : (x y : ℕ) → x ≡ y → nat_cmp x y ≡ Equal
cmp_same x y h = sym (nat_cmp_is x y Equal h)

-- what the answer that the first is smaller means
is_below : (x y : ℕ) → T (is_lt (nat_cmp x y)) → x < y
is_below x y h =
    elim (nat_cmp x y) as (λ r. nat_cmp x y ≡ r → T (is_lt r) → x < y) [
      | Less ↦ λ e _. ranked x y Less (sym e)
      | Equal ↦ λ _ p. absurd p
      | Greater ↦ λ _ p. absurd p
    ] refl h

-- a greater number compares no lower
index_rises : (x y q : ℕ) → x ≤ y → ordering_index (nat_cmp x q) ≤ ordering_index (nat_cmp y q)
index_rises x y q h =
    elim (nat_cmp x q) as (λ r. nat_cmp x q ≡ r → ordering_index r ≤ ordering_index (nat_cmp y q)) [
      | Less ↦ λ e. omega arith
      | Equal ↦ λ e. elim (nat_cmp y q) as (λ s. nat_cmp y q ≡ s → 1 ≤ ordering_index s) [
        | Less ↦ λ f. let a : x ≡ q = ranked x q Equal (sym e) in let b : y < q = ranked y q Less (sym f) in absurd (omega arith)
        | Equal ↦ λ f. omega arith
        | Greater ↦ λ f. omega arith
      ] refl
      | Greater ↦ λ e. let a : q < x = ranked x q Greater (sym e) in let g : nat_cmp y q ≡ Greater = cmp_above y q (omega arith) in rw g (omega arith)
    ] refl

module _ {X : Type 0} where
  -- a number below all is below the one at a place
  below : (number : ℕ) (entries : NumberMap X) (k : ℕ) (d : ℕ × X) → T (below_all nat_cmp number entries) → k < length entries → number < (get_or entries k d).0
  below number [] k d h w = absurd (omega arith)
  below number (e ∷ es) zero d h w = is_below number e.0 (first _ _ h)
  below number (e ∷ es) (suc k) d h w = below number es k d (second _ _ h) (omega arith)

  -- numbers rise from place to place
  rising : (entries : NumberMap X) (i j : ℕ) (d : ℕ × X) → IsInOrder entries → i < j → j < length entries → (get_or entries i d).0 < (get_or entries j d).0
  rising [] i j d h a b = absurd (omega arith)
  rising (e ∷ es) zero zero d h a b = absurd (omega arith)
  rising (e ∷ es) zero (suc j) d h a b = below e.0 es j d (first _ _ h) (omega arith)
  rising (e ∷ es) (suc i) zero d h a b = absurd (omega arith)
  rising (e ∷ es) (suc i) (suc j) d h a b = rising es i j d (second _ _ h) (omega arith) (omega arith)

  -- so the answers of a search rise too
  answers_rise : (number : ℕ) (entries : NumberMap X) (i j : ℕ) (d : ℕ × X) → IsInOrder entries → i ≤ j → j < length entries → ordering_index (nat_cmp (get_or entries i d).0 number) ≤ ordering_index (nat_cmp (get_or entries j d).0 number)
  answers_rise number entries i j d h a b =
      elim (cases_lt i j) [
        | inl less ↦ index_rises _ _ number (omega (arith, rising entries i j d h less b))
        | inr more ↦ let same : i ≡ j = omega arith in subst (λ (k : ℕ). ordering_index (nat_cmp (get_or entries i d).0 number) ≤ ordering_index (nat_cmp (get_or entries k d).0 number)) same (omega arith)
      ]

  -- what a search by number returns if the numbers rise
  pub found_place : (number : ℕ) (entries : NumberMap X) (r : Result ℕ ℕ) → IsInOrder entries → IsSearchInRange r (length entries) → IsBinarySearchResult (λ e. nat_cmp e.0 number) entries r → IfOk r (IsAt number entries) × IfErr r (IsBetween number entries)
  found_place number entries (Ok i) h w s = (record { within = w; same = λ d. ranked _ number Equal (sym (s d)) }, tt)
  found_place number entries (Err i) h w s =
      let split = s (λ j k d a b. answers_rise number entries j k d h a b) in
      (tt, record { within = w; smaller = λ k d a. ranked _ number Less (sym (split.0 k d (omega arith) a)); greater = λ k d a b. ranked _ number Greater (sym (split.1 k d a b)) })

  -- a number's place, counted without the first entry
  at_tail : (number : ℕ) (e : ℕ × X) (es : NumberMap X) (i : ℕ) → IsAt number (e ∷ es) (suc i) → IsAt number es i
  at_tail number e es i at = record { within = omega (arith, at.within); same = at.same }

  -- the first entry is below it, if the numbers rise
  first_below : (number : ℕ) (e : ℕ × X) (es : NumberMap X) (i : ℕ) → IsInOrder (e ∷ es) → IsAt number (e ∷ es) (suc i) → e.0 < number
  first_below number e es i order at = subst (λ (k : ℕ). e.0 < k) (at.same e) (below e.0 es i e (first _ _ order) (omega (arith, at.within)))

  -- a number that is at a place is found there
  pub get_at : (number : ℕ) (entries : NumberMap X) (i : ℕ) (d : ℕ × X) → IsInOrder entries → IsAt number entries i → get entries number ≡ Some (get_or entries i d).1
  get_at number [] i d order at = absurd (omega (arith, at.within))
  get_at number (e ∷ es) zero d order at = rw (cmp_same number e.0 (sym (at.same d))) refl
  get_at number (e ∷ es) (suc i) d order at =
      rw (cmp_above number e.0 (first_below number e es i order at)) (get_at number es i d (second _ _ order) (at_tail number e es i at))

  -- to insert such a number is to change what is at its place
  pub insert_at_place : (number : ℕ) (new : X) (entries : NumberMap X) (i : ℕ) (d : ℕ × X) → IsInOrder entries → IsAt number entries i → insert entries number new ≡ set entries i ((get_or entries i d).0, new)
  insert_at_place number new [] i d order at = absurd (omega (arith, at.within))
  insert_at_place number new (e ∷ es) zero d order at = rw (cmp_same number e.0 (sym (at.same d))) refl
  insert_at_place number new (e ∷ es) (suc i) d order at =
      rw (cmp_above number e.0 (first_below number e es i order at)) (ap (λ t. e ∷ t) (insert_at_place number new es i d (second _ _ order) (at_tail number e es i at)))

  -- what is between a number's neighbours, without the first entry
  between_tail : (number : ℕ) (e : ℕ × X) (es : NumberMap X) (i : ℕ) → IsBetween number (e ∷ es) (suc i) → IsBetween number es i
  between_tail number e es i parts = record { within = omega (arith, parts.within); smaller = λ k d h. parts.smaller (suc k) d (omega arith); greater = λ k d a b. parts.greater (suc k) d (omega arith) (omega arith) }

  -- a first entry above the number can be left out too
  between_later : (number : ℕ) (e : ℕ × X) (es : NumberMap X) → IsBetween number (e ∷ es) zero → IsBetween number es zero
  between_later number e es parts = record { within = omega arith; smaller = λ k d h. absurd (omega arith); greater = λ k d a b. parts.greater (suc k) d (omega arith) (omega arith) }

  -- a number between its neighbours is not found
  pub get_between : (number : ℕ) (entries : NumberMap X) (i : ℕ) → IsBetween number entries i → get entries number ≡ None
  get_between number [] i parts = refl
  get_between number (e ∷ es) zero parts = rw (cmp_below number e.0 (parts.greater zero e (omega arith) (omega arith))) (get_between number es zero (between_later number e es parts))
  get_between number (e ∷ es) (suc i) parts = rw (cmp_above number e.0 (parts.smaller zero e (omega arith))) (get_between number es i (between_tail number e es i parts))

  -- to insert such a number is to put its entry between them
  pub insert_between : (number : ℕ) (new : X) (entries : NumberMap X) (i : ℕ) → IsBetween number entries i → insert entries number new ≡ insert_at entries i (number, new)
  insert_between number new [] zero parts = refl
  insert_between number new [] (suc i) parts = absurd (omega (arith, parts.within))
  insert_between number new (e ∷ es) zero parts = rw (cmp_below number e.0 (parts.greater zero e (omega arith) (omega arith))) refl
  insert_between number new (e ∷ es) (suc i) parts = rw (cmp_above number e.0 (parts.smaller zero e (omega arith))) (ap (λ t. e ∷ t) (insert_between number new es i (between_tail number e es i parts)))

  -- a number that is there is found
  pub is_found : (entries : NumberMap X) (number : ℕ) (searched : Result ℕ ℕ) → IsSome (get entries number) → IfErr searched (IsBetween number entries) → IsOk searched
  is_found entries number (Ok i) there absent = refl
  is_found entries number (Err i) there absent = absurd (false≢true (ap is_some (sym (get_between number entries i absent)) ∙ there))

  -- with a number put between its neighbours the numbers still rise
  pub order_between : (number : ℕ) (new : X) (entries : NumberMap X) (i : ℕ) → IsInOrder entries → IsBetween number entries i → IsInOrder (insert_at entries i (number, new))
  order_between number new entries i order between = subst IsInOrder (insert_between number new entries i between) (in_order_insert entries number new order)

  -- and with what is at its place changed
  pub order_at : (number : ℕ) (new : X) (entries : NumberMap X) (i : ℕ) (d : ℕ × X) → IsInOrder entries → IsAt number entries i → IsInOrder (set entries i ((get_or entries i d).0, new))
  order_at number new entries i d order at = subst IsInOrder (insert_at_place number new entries i d order at) (in_order_insert entries number new order)

  -- what is there is put there again
  pub insert_same : (entries : NumberMap X) (number : ℕ) (thing : X) → IsInOrder entries → get entries number ≡ Some thing → insert entries number thing ≡ entries
  insert_same entries number thing order there =
      same_map (insert entries number thing) entries (in_order_insert entries number thing order) order
      (λ q. get_insert entries number thing q
      ∙ ⊎_elim
      (λ (is : q ≡ number). cond-true (eqb q number) (Some thing) (get entries q) (eq-eqb q number is) ∙ sym (ap (get entries) is ∙ there))
      (λ (apart : q ≡ number → ⊥). cond-false (eqb q number) (Some thing) (get entries q) (ne_eqb q number apart))
      (cases_eq q number))

  -- a number below all is not found
  pub get_below : (entries : NumberMap X) (number : ℕ) → T (below_all nat_cmp number entries) → get entries number ≡ None
  get_below [] number below_them = refl
  get_below (e ∷ es) number below_them =
      rw (cmp_below number e.0 (is_below number e.0 (first _ _ below_them))) (get_below es number (second _ _ below_them))

  -- a search finds what is there
  pub is_there : (entries : NumberMap X) (number : ℕ) (searched : Result ℕ ℕ) → IsInOrder entries
      → IfOk searched (IsAt number entries) → IfErr searched (IsBetween number entries) → is_ok searched ≡ is_some (get entries number)
  is_there [] number (Ok i) order at between = absurd (omega (arith, at.within))
  is_there (e ∷ es) number (Ok i) order at between = sym (ap is_some (get_at number (e ∷ es) i e order at))
  is_there entries number (Err i) order at between = sym (ap is_some (get_between number entries i between))
