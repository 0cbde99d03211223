use Rattle.rk_dispatch.proofs.Balances.{forks}
use Rattle.rk_dispatch.proofs.parcels.Parcels.another.Goals as goal

pub another-requires-clause-rule : goal.another-requires-clause-rule
another-requires-clause-rule c = forks _ _ c.requires.parts
