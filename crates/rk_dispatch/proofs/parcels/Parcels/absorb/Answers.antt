use Rattle.rk_dispatch.proofs.Balances.{merges}
use Rattle.rk_dispatch.proofs.parcels.Parcels.absorb.Goals as goal

pub absorb-requires-clause-rule : goal.absorb-requires-clause-rule
absorb-requires-clause-rule c = merges _ _ _ _ c.requires.part
