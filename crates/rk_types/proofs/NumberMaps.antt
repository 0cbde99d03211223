-- The laws of maps by number: what is found after a change, that the numbers stay in order, and that a map is what is found in it.
use Rattle.std.proofs.Common.{◌≡◌, ℕ, ◌+◌, Bool, true, false, cond, eqb, T, ◌&&◌, List, [], ◌∷◌, map, length, Option, None, Some, refl, sym, ap, subst, ◌∙◌, ⊎_elim, arith}
use Rattle.std.specs.Ordering.{nat_cmp, eq_by_cmp, is_eq, is_lt}
use Rattle.std.specs.Prelude.{not}
use Rattle.std.specs.Cmp.{nat_cmp_total, unsigned_tied}
use Rattle.std.specs.FinMap.{nat_cmp-IsAntisymmetric, is_sorted}
use Rattle.std.specs.FinMap.Entries.{below_all, find-put, find-where_key, is_sorted-put, is_sorted-where_key, same_entries, length-put}
use Rattle.std.proofs.lemmas.Bool.{cases_Bool, eq-eqb, eqb-true, ne_eqb, cases_eq, cond-true, cond-false}
use Rattle.rk_types.specs.NumberMap.{NumberMap, EachIn, IsInOrder, get, insert, remove, changed_each}

-- numbers that tie are equal
pub same_number : (n k : ℕ) → eq_by_cmp nat_cmp n k ≡ true → n ≡ k
same_number n k tied = eqb-true n k (sym (unsigned_tied n k) ∙ tied)

module _ {X : Type 0} where
  -- ---- what is found

  -- what is found once a thing was put under a number
  pub get_insert : (things : NumberMap X) (number : ℕ) (thing : X) (q : ℕ) → get (insert things number thing) q ≡ cond (eqb q number) (Some thing) (get things q)
  get_insert things number thing q =
      find-put nat_cmp nat_cmp_total q number thing things
      ∙ ap (λ (b : Bool). cond b (Some thing) (get things q)) (unsigned_tied q number)

  pub get_same : (things : NumberMap X) (number : ℕ) (thing : X) (q : ℕ) → q ≡ number → get (insert things number thing) q ≡ Some thing
  get_same things number thing q is =
      get_insert things number thing q ∙ cond-true (eqb q number) (Some thing) (get things q) (eq-eqb q number is)

  pub get_other : (things : NumberMap X) (number : ℕ) (thing : X) (q : ℕ) → (q ≡ number → ⊥) → get (insert things number thing) q ≡ get things q
  get_other things number thing q apart =
      get_insert things number thing q ∙ cond-false (eqb q number) (Some thing) (get things q) (ne_eqb q number apart)

  -- what is found once nothing is under a number
  pub get_remove : (things : NumberMap X) (number q : ℕ) → get (remove things number) q ≡ cond (eqb q number) None (get things q)
  get_remove things number q =
      find-where_key nat_cmp stands q
      (λ y tied. ap stands (sym (eqb-true q y (sym (unsigned_tied q y) ∙ ap is_eq tied)))) things
      ∙ ⊎_elim
      (λ (is : q ≡ number).
      cond-false (stands q) (get things q) None (gone is)
      ∙ sym (cond-true (eqb q number) None (get things q) (eq-eqb q number is)))
      (λ (apart : q ≡ number → ⊥).
      cond-true (stands q) (get things q) None (stays apart)
      ∙ sym (cond-false (eqb q number) None (get things q) (ne_eqb q number apart)))
      (cases_eq q number)
    where
      stands : ℕ → Bool
      stands other = not (eq_by_cmp nat_cmp number other)

      gone : q ≡ number → stands q ≡ false
      gone is = ap not (unsigned_tied number q ∙ eq-eqb number q (sym is))

      stays : (q ≡ number → ⊥) → stands q ≡ true
      stays apart = ap not (unsigned_tied number q ∙ ne_eqb number q (λ is. apart (sym is)))

  -- nothing is found under a number that was removed
  pub get_removed : (things : NumberMap X) (number : ℕ) → get (remove things number) number ≡ None
  get_removed things number =
      get_remove things number number ∙ cond-true (eqb number number) None (get things number) (eq-eqb number number refl)

  -- ---- what each thing has

  -- it has with one more that has it
  pub each_insert : (Fits : ℕ → X → Type 0) (things : NumberMap X) (number : ℕ) (thing : X) → EachIn Fits things → Fits number thing → EachIn Fits (insert things number thing)
  each_insert Fits things number thing each new q x found =
      ⊎_elim
      (λ (is : q ≡ number).
      let same : Some thing ≡ Some x = sym (get_same things number thing q is) ∙ found in
      let thing_is : thing ≡ x = cc same in
      subst (λ (n : ℕ). Fits n x) (sym is) (subst (Fits number) thing_is new))
      (λ (apart : q ≡ number → ⊥). each q x (sym (get_other things number thing q apart) ∙ found))
      (cases_eq q number)

  -- a map has no more than another one
  abbrev pub HasNoMore : NumberMap X → NumberMap X → Type 0
  HasNoMore less things = (number : ℕ) (thing : X) → get less number ≡ Some thing → get things number ≡ Some thing

  -- so it is with a map from which a number was removed
  pub remove_less : (things : NumberMap X) (number : ℕ) → HasNoMore (remove things number) things
  remove_less things number q x found =
      ⊎_elim
      (λ (is : q ≡ number).
      let none : None ≡ Some x = sym (get_remove things number q ∙ cond-true (eqb q number) None (get things q) (eq-eqb q number is)) ∙ found in
      absurd (cc none))
      (λ (apart : q ≡ number → ⊥).
      sym (get_remove things number q ∙ cond-false (eqb q number) None (get things q) (ne_eqb q number apart)) ∙ found)
      (cases_eq q number)

  -- what each thing has, it has in a map that has no more
  pub each_less : (Fits : ℕ → X → Type 0) (less things : NumberMap X) → HasNoMore less things → EachIn Fits things → EachIn Fits less
  each_less Fits less things no_more each q x found = each q x (no_more q x found)

  -- what follows from what each thing has, each has too
  pub each_weaker : (Fits Gives : ℕ → X → Type 0) (things : NumberMap X) → ((number : ℕ) (thing : X) → Fits number thing → Gives number thing) → EachIn Fits things → EachIn Gives things
  each_weaker Fits Gives things gives each q x found = gives q x (each q x found)

  -- ---- the order

  pub in_order_insert : (things : NumberMap X) (number : ℕ) (thing : X) → IsInOrder things → IsInOrder (insert things number thing)
  in_order_insert things number thing order = is_sorted-put nat_cmp nat_cmp_total number thing things order

  pub in_order_remove : (things : NumberMap X) (number : ℕ) → IsInOrder things → IsInOrder (remove things number)
  in_order_remove things number order = is_sorted-where_key nat_cmp (λ other. not (eq_by_cmp nat_cmp number other)) things order

  -- two maps in order in which the same is found are one
  pub same_map : (a b : NumberMap X) → IsInOrder a → IsInOrder b → ((q : ℕ) → get a q ≡ get b q) → a ≡ b
  same_map a b in_a in_b is = same_entries nat_cmp nat_cmp_total nat_cmp-IsAntisymmetric a b in_a in_b is

  -- what is taken out and put back leaves the map as it was
  pub insert_remove : (things : NumberMap X) (number : ℕ) (thing : X) → IsInOrder things → get things number ≡ Some thing → insert (remove things number) number thing ≡ things
  insert_remove things number thing order there =
      same_map (insert (remove things number) number thing) things
      (in_order_insert (remove things number) number thing (in_order_remove things number order)) order
      (λ q. ⊎_elim
      (λ (is : q ≡ number). get_same (remove things number) number thing q is ∙ sym there ∙ ap (get things) (sym is))
      (λ (apart : q ≡ number → ⊥).
      get_other (remove things number) number thing q apart ∙ get_remove things number q
      ∙ cond-false (eqb q number) None (get things q) (ne_eqb q number apart))
      (cases_eq q number))

-- ---- each thing changed

module _ {X Y : Type 0} (change : ℕ → X → Y) where
  -- a number below all stays so
  below_changed : (number : ℕ) (things : NumberMap X) → below_all nat_cmp number (changed_each change things) ≡ below_all nat_cmp number things
  below_changed number [] = refl
  below_changed number (thing ∷ things) = ap (λ (b : Bool). is_lt (nat_cmp number thing.0) && b) (below_changed number things)

  sorted_changed : (things : NumberMap X) → is_sorted nat_cmp (changed_each change things) ≡ is_sorted nat_cmp things
  sorted_changed [] = refl
  sorted_changed (thing ∷ things) = λ i. below_changed thing.0 things i && sorted_changed things i

  pub in_order_changed : (things : NumberMap X) → IsInOrder things → IsInOrder (changed_each change things)
  in_order_changed things order = subst T (sym (sorted_changed things)) order
