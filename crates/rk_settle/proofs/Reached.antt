-- How far a migration has come, by its phase and the reach.
use Rattle.rk_settle.proofs.Words.{arith, ◌≡◌, ℕ, Option, Moving, Opening, Row, World}
use Rattle.rk_settle.specs.Reaches.{is_at_reach, is_moved_to}
use Rattle.rk_types.specs.declared.reach.Reach.{Reach}
use Rattle.rk_types.specs.declared.reach.Reach.TheVariants.{Begun, Frozen}

module _ (w : World) (row : Row) (source target sfrom : ℕ) where
  -- an opening migration that is to do more than begin and freeze its source
  pub opening_moved : (dfrom : Option ℕ) (reach : Reach) → (reach ≡ Begun → ⊥) → (reach ≡ Frozen → ⊥)
      → is_at_reach w row (Opening source sfrom target dfrom) reach ≡ is_moved_to w row target reach
  opening_moved dfrom reach begins freezes = grind arith

  -- a migration that moves, but for its source
  pub moving_moved : (dfrom : ℕ) (reach : Reach) → (reach ≡ Frozen → ⊥) → is_at_reach w row (Moving source sfrom target dfrom) reach ≡ is_moved_to w row target reach
  moving_moved dfrom reach freezes = grind arith
