-- The record that comes first, once one more lane is looked at that has none.
use Rattle.std.proofs.Common.{◌≡◌, ℕ, ◌+◌, ◌<◌, List, [], Option, ⊎_elim, arith}
use Rattle.std.proofs.lemmas.Bool.{cases_eq}
use Rattle.rk_types.specs.declared.history.Placed.{Placed}
use Rattle.rk_model.specs.Merged.{journal_of}
use Rattle.rk_history.specs.declared.merging.First.{First}
use Rattle.rk_history.specs.First.{AreEmpty, IsFirstOf}

-- a lane below the next one is this one or below it
below_next : (other lane : ℕ) → other < lane + 1 → (other ≡ lane → ⊥) → other < lane
below_next other lane within apart = omega (arith, within, apart)

module _ (journals : List (List Placed)) (lane : ℕ) where
  -- no lane has a record, nor has this one
  pub none_more : journal_of journals lane ≡ [] → AreEmpty journals lane → AreEmpty journals (lane + 1)
  none_more here none other within = grind (arith, below_next, cases_eq)

  -- so it is with what comes first, if anything does
  pub none_of_lane : journal_of journals lane ≡ [] → (first : Option First) → IsFirstOf journals lane first → IsFirstOf journals (lane + 1) first
  none_of_lane here first none = grind (arith, none_more, below_next, cases_eq)
