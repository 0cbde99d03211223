use Rattle.rk_dispatch.proofs.Balances.{learns, takes}
use Rattle.rk_dispatch.proofs.parcels.Parcels.take.Goals as goal

pub pop_as-requires-clause-rule : goal.pop_as-requires-clause-rule
pop_as-requires-clause-rule g c = (takes _ _ c.requires.part, learns _ _)
