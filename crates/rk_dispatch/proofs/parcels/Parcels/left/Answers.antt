use Rattle.rk_dispatch.proofs.Balances.{learns}
use Rattle.rk_dispatch.proofs.parcels.Parcels.left.Goals as goal

pub len_as-requires-clause-rule : goal.len_as-requires-clause-rule
len_as-requires-clause-rule g c = learns _ _

pub returns-clause-balance : goal.returns-clause-balance
returns-clause-balance g c = let known = c.len_as.ensures.rule.1 in (known.0, known.1, known.2 c.requires.whole)
