-- Passing: phases between which a tablet passes from its source to its target, at one term of the row.
use Rattle.std.specs.Prelude.{◌≡◌, ℕ, Some, ◌⊎◌}
use Rattle.rk_tablet_map.specs.declared.phase.Phase.{Phase}
use Rattle.rk_tablet_map.specs.declared.phase.Phase.TheVariants.{Owned, Opening, Moving}

-- a row that opens, and has noted the place of its target, moves now
pub record BeginsToMove (old new : Phase) : Type 0 where
  pub source : ℕ
  pub sfrom : ℕ
  pub target : ℕ
  pub dfrom : ℕ
  pub was : old ≡ Opening source sfrom target (Some dfrom)
  pub is : new ≡ Moving source sfrom target dfrom

-- the target of a row that moved owns it now
pub record HasMoved (old new : Phase) : Type 0 where
  pub source : ℕ
  pub sfrom : ℕ
  pub target : ℕ
  pub dfrom : ℕ
  pub was : old ≡ Moving source sfrom target dfrom
  pub is : new ≡ Owned target dfrom

-- a tablet passes on
abbrev pub PassesOn : Phase → Phase → Type 0
PassesOn old new = BeginsToMove old new ⊎ HasMoved old new
