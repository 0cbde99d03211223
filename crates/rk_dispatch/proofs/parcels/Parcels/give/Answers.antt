use Rattle.rk_dispatch.proofs.Balances.{gives, learns}
use Rattle.rk_dispatch.proofs.parcels.Parcels.give.Goals as goal

pub push_as-requires-clause-rule : goal.push_as-requires-clause-rule
push_as-requires-clause-rule g c = (gives _ _ _ _ c.requires.part, learns _ _)
