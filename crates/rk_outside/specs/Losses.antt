-- Refusals of a replica: a fault of the device, which has a cause, or want of memory, which has none.
use Rattle.std.specs.Prelude.{ℕ, ◌≡◌, ◌≤◌, Result, IsErrOf}
use Rattle.rk_outside.specs.Faults.{Rose}
use Rattle.rk_outside.specs.declared.replica.Lost.{Lost}
use Rattle.rk_outside.specs.declared.replica.Lost.TheVariants.{Failed}

-- the count does not fall: `Failed` comes only if it rose, and otherwise it stays
pub record HasLossCause {T : Type 0} (before now : ℕ) (result : Result T Lost) : Type 0 where
  pub later : before ≤ now
  pub kept : (IsErrOf result Failed → ⊥) → now ≡ before
  pub failed : IsErrOf result Failed → Rose before now
