use Rattle.rk_settle.proofs.Words.{sym, subst, take, AreTasks}
use Rattle.rk_settle.proofs.Named.{asks_are}
use Rattle.rk_settle.proofs.settling.turns_of_clients.Goals as goal

pub returns-clause-lawful : goal.returns-clause-lawful
returns-clause-lawful c =
    λ count there. subst (AreTasks count) (sym c.loop-client.invariant) (asks_are count c.args.lane (take c.loop-client.client-index c.args.clients.now) there)
