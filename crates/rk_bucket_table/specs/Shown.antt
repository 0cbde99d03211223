-- What contracts see of chains.
use Rattle.std.specs.Prelude.{ℕ, List}
use Rattle.rk_types.specs.declared.held.Held.{Held}

-- the items of chains, in scan order, and how many more there is room for
pub record Shown : Type 0 where
  pub items : List Held
  pub spare : ℕ
