-- Entries whose numbers rise, as a queue has them: what a number's place shows, and what is left once an entry came or went.
use Rattle.std.proofs.Common.{◌≡◌, ℕ, zero, suc, ◌<◌, ◌++◌, T, not, cond, [], ◌∷◌, length, get_or, Some, None, refl, sym, ap, ◌∙◌, subst, arith}
use Rattle.std.specs.Prelude.{All, Result, Ok, Err, IfSome, IfNone}
use Rattle.std.specs.Result.{result_ok}
use Rattle.std.specs.List.{remove as remove_at}
use Rattle.std.specs.List.Sorted.{IsSearchInRange, IsBinarySearchResult}
use Rattle.std.specs.Ordering.{nat_cmp, is_eq}
use Rattle.std.specs.declared.cmp.Ordering.TheVariants.{Less, Equal, Greater}
use Rattle.std.specs.Cmp.{nat_cmp_is, ranked}
use Rattle.std.specs.FinMap.Entries.{below_all}
use Rattle.std.proofs.lemmas.List.{get_or_default}
use Rattle.std.proofs.lemmas.Option.{none-some}
use Rattle.rk_types.specs.NumberMap.{NumberMap, EachIn, IsInOrder, get, insert, remove}
use Rattle.rk_types.specs.Places.{IsAt}
use Rattle.rk_types.proofs.NumberMaps.{in_order_insert, in_order_remove}
use Rattle.rk_types.proofs.Places.{first, second, found_place, get_at, get_below, get_between}

module _ {X : Type 0} where
  -- ---- what is found

  -- a search by number gives the number's place, or says that nothing has it
  pub place_found : (number : ℕ) (entries : NumberMap X) (r : Result ℕ ℕ) → IsInOrder entries → IsSearchInRange r (length entries) → IsBinarySearchResult (λ e. nat_cmp e.0 number) entries r → IfSome (result_ok r) (IsAt number entries) × IfNone (result_ok r) (get entries number ≡ None)
  place_found number entries (Ok i) order in_range searched = ((found_place number entries (Ok i) order in_range searched).0, tt)
  place_found number entries (Err i) order in_range searched =
      (tt, get_between number entries i (found_place number entries (Err i) order in_range searched).1)

  -- each entry is found under its number
  pub each_found : (entries : NumberMap X) → IsInOrder entries → All (λ entry. get entries entry.0 ≡ Some entry.1) entries
  each_found entries order k d within =
      get_at (get_or entries k d).0 entries k d order
      (record { within = within; same = λ e. ap (λ (entry : ℕ × X). entry.0) (get_or_default entries k e d within) })

  -- ---- what is left once an entry went

  -- if nothing is under a number, nothing goes
  pub remove_absent : (number : ℕ) (entries : NumberMap X) → get entries number ≡ None → remove entries number ≡ entries
  remove_absent number [] none = refl
  remove_absent number (e ∷ es) none =
      elim (nat_cmp number e.0) as (λ o. cond (is_eq o) (Some e.1) (get es number) ≡ None → cond (not (is_eq o)) (e ∷ remove es number) (remove es number) ≡ e ∷ es) [
        | Less ↦ λ absent. ap (λ t. e ∷ t) (remove_absent number es absent)
        | Equal ↦ λ found. absurd (cc found)
        | Greater ↦ λ absent. ap (λ t. e ∷ t) (remove_absent number es absent)
      ] none

  -- the first entry of a list in order has another number than a later one
  later : (number : ℕ) (e : ℕ × X) (es : NumberMap X) (i : ℕ) → IsInOrder (e ∷ es) → IsAt number es i → nat_cmp number e.0 ≡ Equal → ⊥
  later number e es i order at same =
      let is : number ≡ e.0 = ranked number e.0 Equal (sym same) in
      let none : get es number ≡ None = get_below es number (subst (λ (n : ℕ). T (below_all nat_cmp n es)) (sym is) (first _ _ order)) in
      none-some (get_or es i e).1 (sym none ∙ get_at number es i e (second _ _ order) at)

  -- the entry at a number's place goes
  pub remove_place : (number : ℕ) (entries : NumberMap X) (i : ℕ) → IsInOrder entries → IsAt number entries i → remove entries number ≡ remove_at entries i
  remove_place number [] i order at = absurd (omega (arith, at.within))
  remove_place number (e ∷ es) zero order at =
      let is : number ≡ e.0 = sym (at.same e) in
      let same : nat_cmp number e.0 ≡ Equal = sym (nat_cmp_is number e.0 Equal is) in
      rw same (remove_absent number es (get_below es number (subst (λ (n : ℕ). T (below_all nat_cmp n es)) (sym is) (first _ _ order))))
  remove_place number (e ∷ es) (suc i) order at =
      let there : IsAt number es i = record { within = omega (arith, at.within); same = at.same } in
      let rest = ap (λ t. e ∷ t) (remove_place number es i (second _ _ order) there) in
      elim (nat_cmp number e.0) as (λ o. nat_cmp number e.0 ≡ o → cond (not (is_eq o)) (e ∷ remove es number) (remove es number) ≡ e ∷ remove_at es i) [
        | Less ↦ λ _. rest
        | Equal ↦ λ same. absurd (later number e es i order there same)
        | Greater ↦ λ _. rest
      ] refl

  -- the numbers still rise
  pub order_removed : (number : ℕ) (entries : NumberMap X) (i : ℕ) → IsInOrder entries → IsAt number entries i → IsInOrder (remove_at entries i)
  order_removed number entries i order at = subst IsInOrder (remove_place number entries i order at) (in_order_remove entries number order)

  -- ---- what is left once an entry came

  -- each of these has a number below this one
  abbrev pub AreBelow : ℕ → NumberMap X → Type 0
  AreBelow number entries = EachIn (λ other _. other < number) entries

  -- the first entry is found
  first_found : (e : ℕ × X) (es : NumberMap X) → get (e ∷ es) e.0 ≡ Some e.1
  first_found e es =
      let same : nat_cmp e.0 e.0 ≡ Equal = sym (nat_cmp_is e.0 e.0 Equal refl) in
      rw same refl

  -- what all entries have, those behind the first have
  below_tail : (number : ℕ) (e : ℕ × X) (es : NumberMap X) → e.0 < number → AreBelow number (e ∷ es) → AreBelow number es
  below_tail number e es head each other x found =
      elim (nat_cmp other e.0) as (λ o. nat_cmp other e.0 ≡ o → other < number) [
        | Less ↦ λ is. each other x (rw is found)
        | Equal ↦ λ is. let same : other ≡ e.0 = ranked other e.0 Equal (sym is) in omega (arith, head)
        | Greater ↦ λ is. each other x (rw is found)
      ] refl

  -- an entry with a number above all comes behind them
  pub insert_behind : (number : ℕ) (new : X) (entries : NumberMap X) → AreBelow number entries → insert entries number new ≡ entries ++ (number, new) ∷ []
  insert_behind number new [] each = refl
  insert_behind number new (e ∷ es) each =
      let head : e.0 < number = each e.0 e.1 (first_found e es) in
      let above : nat_cmp number e.0 ≡ Greater = sym (nat_cmp_is number e.0 Greater head) in
      rw above (ap (λ t. e ∷ t) (insert_behind number new es (below_tail number e es head each)))

  -- the numbers still rise
  pub order_behind : (number : ℕ) (new : X) (entries : NumberMap X) → IsInOrder entries → AreBelow number entries → IsInOrder (entries ++ (number, new) ∷ [])
  order_behind number new entries order each = subst IsInOrder (insert_behind number new entries each) (in_order_insert entries number new order)
