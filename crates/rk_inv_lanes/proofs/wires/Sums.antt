-- Sums over a map by number, when a thing is put under a number and what is under a number is taken out.
use Rattle.std.proofs.Common.{◌≡◌, ◌≤◌, ◌+◌, ℕ, Bool, true, false, cond, not, [], ◌∷◌, length, None, Some, refl, ap, arith, sum_by}
use Rattle.std.proofs.Common.{nat_cmp, Less, Equal, Greater}
use Rattle.rk_inv_base.proofs.Words.{sum_by-cons, by_order, eq_by_cmp, NumberMap, get, insert, remove}

-- the sizes of all things of a map, added
abbrev pub total : {X : Type 0} → (X → ℕ) → NumberMap X → ℕ
total size things = sum_by (λ entry. size entry.1) things

module _ {X : Type 0} (size : X → ℕ) where
  pub total-cons : (here : ℕ × X) (things : NumberMap X) → total size (here ∷ things) ≡ size here.1 + total size things
  total-cons here things = sum_by-cons (λ (entry : ℕ × X). size entry.1) here things

  -- ---- a pair that is kept if a test holds

  kept_most : (b : Bool) (here : ℕ × X) (things : NumberMap X) → total size (cond b (here ∷ things) things) ≤ size here.1 + total size things
  kept_most true here things = omega (arith, total-cons here things)
  kept_most false here things = omega arith

  kept_least : (b : Bool) (here : ℕ × X) (things : NumberMap X) → total size things ≤ total size (cond b (here ∷ things) things)
  kept_least true here things = omega (arith, total-cons here things)
  kept_least false here things = omega arith

  kept_more : (b : Bool) (here : ℕ × X) (fewer more : NumberMap X) (n : ℕ) → total size more ≤ total size fewer + n
      → total size (cond b (here ∷ more) more) ≤ total size (cond b (here ∷ fewer) fewer) + n
  kept_more true here fewer more n within = omega (arith, within, total-cons here fewer, total-cons here more)
  kept_more false here fewer more n within = within

  -- ---- without what is under a number

  pub removed_most : (things : NumberMap X) (number : ℕ) → total size (remove things number) ≤ total size things
  removed_most [] number = omega arith
  removed_most (here ∷ things) number =
      grind (arith, kept_most, eq_by_cmp, nat_cmp, remove, total-cons, here.0, (removed_most things number))

  -- what was there is missing
  pub removed_there : (things : NumberMap X) (number : ℕ) (thing : X) → get things number ≡ Some thing
      → total size (remove things number) + size thing ≤ total size things
  removed_there [] number thing found = absurd (cc found)
  removed_there (here ∷ things) number thing found =
      let left : NumberMap X = remove things number in
      elim (eq_by_cmp nat_cmp number here.0) as (λ b. cond b (Some here.1) (get things number) ≡ Some thing → total size (cond (not b) (here ∷ left) left) + size thing ≤ total size (here ∷ things)) [
        | true ↦ λ e.
            let same : here.1 ≡ thing = cc e in
            omega (arith, ap size same, removed_most things number, total-cons here things)
        | false ↦ λ e. omega (arith, removed_there things number thing e, total-cons here left, total-cons here things)
      ] found

  -- if nothing was there, nothing is missing
  pub removed_none : (things : NumberMap X) (number : ℕ) → get things number ≡ None → total size (remove things number) ≡ total size things
  removed_none [] number none = refl
  removed_none (here ∷ things) number none =
      let left : NumberMap X = remove things number in
      elim (eq_by_cmp nat_cmp number here.0) as (λ b. cond b (Some here.1) (get things number) ≡ None → total size (cond (not b) (here ∷ left) left) ≡ total size (here ∷ things)) [
        | true ↦ λ e. absurd (cc e)
        | false ↦ λ e. omega (arith, removed_none things number e, total-cons here left, total-cons here things)
      ] none

  -- with one thing more, at most that one is left more
  pub removed_inserted : (things : NumberMap X) (number : ℕ) (thing : X) (out : ℕ)
      → total size (remove (insert things number thing) out) ≤ total size (remove things out) + size thing
  removed_inserted [] number thing out = omega (arith, kept_most (not (eq_by_cmp nat_cmp out number)) (number, thing) [])
  removed_inserted (here ∷ things) number thing out =
      let before : NumberMap X = remove (here ∷ things) out in
      elim (nat_cmp number here.0) as (λ o. total size (remove (by_order o ((number, thing) ∷ here ∷ things) ((here.0, thing) ∷ things) (here ∷ insert things number thing)) out) ≤ total size before + size thing) [
        | Less ↦ omega (arith, kept_most (not (eq_by_cmp nat_cmp out number)) (number, thing) before)
        | Equal ↦
            omega (
              arith,
              kept_most (not (eq_by_cmp nat_cmp out here.0)) (here.0, thing) (remove things out),
              kept_least (not (eq_by_cmp nat_cmp out here.0)) here (remove things out),
            )
        | Greater ↦
            kept_more (not (eq_by_cmp nat_cmp out here.0)) here (remove things out) (remove (insert things number thing) out) (size thing)
            (removed_inserted things number thing out)
      ]

-- ---- how many things there are

module _ {X : Type 0} where
  pub length_inserted : (things : NumberMap X) (number : ℕ) (thing : X) → length (insert things number thing) ≤ length things + 1
  length_inserted [] number thing = omega arith
  length_inserted (here ∷ things) number thing = grind (arith, nat_cmp, by_order, insert, here.0, (length_inserted things number thing))

  ones : (things : NumberMap X) → total (λ _. 1) things ≡ length things
  ones [] = refl
  ones (here ∷ things) = omega (arith, total-cons (λ _. 1) here things, ones things)

  pub length_removed : (things : NumberMap X) (number : ℕ) (thing : X) → get things number ≡ Some thing
      → length (remove things number) + 1 ≤ length things
  length_removed things number thing found =
      omega (arith, removed_there (λ _. 1) things number thing found, ones things, ones (remove things number))
