use Rattle.rk_dispatch.proofs.Balances.{begins}
use Rattle.rk_dispatch.proofs.parcels.Parcels.new.Goals as goal

pub ruled-requires-clause-rule : goal.ruled-requires-clause-rule
ruled-requires-clause-rule c = begins
