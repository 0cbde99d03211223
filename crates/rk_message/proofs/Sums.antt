-- What is added over all things under their numbers, through an insertion and a removal.
use Rattle.std.proofs.Common.{◌≡◌, ℕ, ◌+◌, cond, [], ◌∷◌, Some, None, sum_by, refl, sym, ap, ◌∙◌, arith, Ordering, Less, Equal, Greater, is_eq, nat_cmp}
use Rattle.std.specs.FinMap.{find, put}
use Rattle.std.specs.FinMap.Entries.{by_order}
use Rattle.std.proofs.lemmas.List.Sums.{sum_by-cons}
use Rattle.rk_types.specs.NumberMap.{NumberMap, IsInOrder, get, insert, remove}
use Rattle.rk_types.proofs.NumberMaps.{get_removed, insert_remove}

module _ {X : Type 0} (weight : X → ℕ) where
  -- what all things weigh
  abbrev pub weight_of : NumberMap X → ℕ
  weight_of things = sum_by (λ entry. weight entry.1) things

  step : (k : ℕ) (v : X) (e : ℕ × X) (es after : NumberMap X) (o : Ordering) → cond (is_eq o) (Some e.1) (find nat_cmp k es) ≡ None
      → (find nat_cmp k es ≡ None → weight_of after ≡ weight_of es + weight v)
      → weight_of (by_order o ((k, v) ∷ e ∷ es) ((e.0, v) ∷ es) (e ∷ after)) ≡ weight_of (e ∷ es) + weight v
  step k v e es after Less none later = omega (arith, sum_by-cons (λ (entry : ℕ × X). weight entry.1) (k, v) (e ∷ es))
  step k v e es after Equal none later = absurd (cc)
  step k v e es after Greater none later =
      omega (arith, later none, sum_by-cons (λ (entry : ℕ × X). weight entry.1) e after, sum_by-cons (λ (entry : ℕ × X). weight entry.1) e es)

  -- one more thing adds its weight
  pub weight_of-insert : (things : NumberMap X) (k : ℕ) (v : X) → get things k ≡ None → weight_of (insert things k v) ≡ weight_of things + weight v
  weight_of-insert [] k v none = refl
  weight_of-insert (e ∷ es) k v none =
      step k v e es (put nat_cmp k v es) (nat_cmp k e.0) none (weight_of-insert es k v)

  -- a thing that is taken out takes its weight away
  pub weight_of-remove : (things : NumberMap X) (k : ℕ) (v : X) → IsInOrder things → get things k ≡ Some v → weight_of (remove things k) + weight v ≡ weight_of things
  weight_of-remove things k v order there =
      sym (weight_of-insert (remove things k) k v (get_removed things k)) ∙ ap weight_of (insert_remove things k v order there)
